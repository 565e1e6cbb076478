use Rattle.std.proofs.Common.{◌≡◌, ◌-◌, ◌^◌}
use Rattle.rs_store.specs.Expiring.{first_end}
use Rattle.kit_test.proofs.map.earliest_of.Given as goal

abbrev pub invariant-loop-message : goal.invariant-loop-message
invariant-loop-message l = first_end l.least l.message-iterator ≡ first_end (2 ^ 64 - 1) l.retained.entries
