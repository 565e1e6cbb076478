use Rattle.std.proofs.Common.{ap, sym}
use Rattle.rs_intake_line.specs.Refusals.{fault_for}
use Rattle.rs_intake_line.proofs.intake.submit_fault_of.Goals as goal

pub returns-in-Held-clause-fault : goal.returns-in-Held-clause-fault
returns-in-Held-clause-fault c = ap fault_for (sym c.in-Held.is)
