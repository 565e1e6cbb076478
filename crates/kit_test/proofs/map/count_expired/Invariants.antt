use Rattle.std.proofs.Common.{◌≡◌, ◌+◌, length}
use Rattle.std.specs.List.{filter}
use Rattle.rs_store.specs.Contents.{is_gone}
use Rattle.kit_test.proofs.map.count_expired.Given as goal

abbrev pub invariant-loop-message : goal.invariant-loop-message
invariant-loop-message l = l.count + length (filter (is_gone l.now) l.message-iterator) ≡ length (filter (is_gone l.now) l.retained.entries)
