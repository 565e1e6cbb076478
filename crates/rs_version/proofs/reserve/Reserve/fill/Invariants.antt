use Rattle.std.proofs.Common.{◌≡◌, ◌≤◌, length}
use Rattle.rs_version.proofs.reserve.Reserve.fill.Given as goal

abbrev pub invariant-loop : goal.invariant-loop
invariant-loop l = (length l.fn.self.blocks.items ≤ length l.self.blocks.items) × (length l.self.blocks.items ≡ l.counter)
