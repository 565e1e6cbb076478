use Rattle.std.proofs.Common.{◌≡◌, ◌++◌, map}
use Rattle.std.specs.List.{filter}
use Rattle.rs_store.specs.Contents.{found_of, is_answered}
use Rattle.kit_test.proofs.map.answer_all.Given as goal

abbrev pub invariant-loop-topic : goal.invariant-loop-topic
invariant-loop-topic l =
    (l.answer.found.items ++ map found_of (filter (is_answered l.filter l.now) l.topic-iterator) ≡ l.initial.answer.found.items ++ map found_of (filter (is_answered l.filter l.now) l.retained.entries))
    × (l.answer.room ≡ l.initial.answer.room)
