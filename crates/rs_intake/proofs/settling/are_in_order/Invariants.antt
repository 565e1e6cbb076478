use Rattle.std.proofs.Common.{◌≡◌, drop}
use Rattle.rs_intake.proofs.Ordered.{AreFrom}
use Rattle.rs_intake.proofs.settling.are_in_order.Given as goal

abbrev pub invariant-loop-end : goal.invariant-loop-end
invariant-loop-end g l = (l.last ≡ l.end-index) × (AreFrom l.end-index (drop l.end-index l.ends.items) → AreFrom 0 l.ends.items)
