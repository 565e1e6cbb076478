-- The changes so far are those of the first behind `from`.
use Rattle.std.proofs.Common.{◌≡◌, ◌≤◌, ◌+◌, false, length, take, drop, vec_len, vec_capacity}
use Rattle.std.specs.List.{All}
use Rattle.rs_message.specs.Messages.{is_sweep}
use Rattle.rs_session.specs.Pending.{AreChanges}
use Rattle.rs_server.proofs.plan.changes_of.Given as goal

abbrev pub invariant-made : goal.invariant-made
invariant-made l = record {
  changes : AreChanges (take (length l.changes.items) (drop l.from l.planned.items)) l.changes.items;
  none_sweeps : All (λ operation. is_sweep operation ≡ false) l.changes.items;
  index : l.from + length l.changes.items ≡ l.i;
  count : vec_len l.changes ≡ length l.changes.items;
  capacity : l.i-end ≤ l.from + vec_capacity l.changes;
}
