use Rattle.std.proofs.Common.{arith}
use Rattle.rs_intake_queue.proofs.preparing.number_entries.Goals as goal

pub returns-clause-small : goal.returns-clause-small
returns-clause-small c = omega (arith, c.loop-operation.invariant.0, c.loop-operation.invariant.2)
