use Rattle.std.proofs.Common.{◌≡◌, ◌++◌, drop}
use Rattle.rs_intake_queue.proofs.preparing.copies.Given as goal

abbrev pub invariant-loop-entry : goal.invariant-loop-entry
invariant-loop-entry l = l.copies.items ++ drop l.entry-index l.entries.items ≡ l.entries.items
