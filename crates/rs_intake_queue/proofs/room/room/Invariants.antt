use Rattle.std.proofs.Common.{◌≡◌, length}
use Rattle.rs_intake_queue.proofs.room.room.Given as goal

abbrev pub invariant-loop : goal.invariant-loop
invariant-loop l = length l.blocks.items ≡ l.counter
