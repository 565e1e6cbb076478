use Rattle.std.proofs.Common.{◌≡◌, ◌+◌}
use Rattle.rs_store.specs.Bytes.{retained_bytes}
use Rattle.kit_test.proofs.map.bytes_of_all.Given as goal

abbrev pub invariant-loop-topic : goal.invariant-loop-topic
invariant-loop-topic l = l.bytes + retained_bytes l.topic-iterator ≡ retained_bytes l.retained.entries
