use Rattle.std.proofs.Common.{◌≡◌, ◌++◌}
use Rattle.std.specs.List.Sorted.{IsStrictlySortedBy}
use Rattle.std.specs.Map.{keys_of}
use Rattle.rs_topic.specs.Order.{topic_cmp}
use Rattle.kit_test.proofs.map.copy_of.Given as goal

abbrev pub invariant-loop-topic : goal.invariant-loop-topic
invariant-loop-topic l = (l.copy.entries ++ l.topic-iterator ≡ l.retained.entries) × IsStrictlySortedBy topic_cmp (keys_of l.retained.entries)
