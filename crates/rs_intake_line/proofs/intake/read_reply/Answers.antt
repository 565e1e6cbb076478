use Rattle.std.proofs.Common.{rules}
use Rattle.rs_intake_line.proofs.intake.read_reply.Goals as goal

pub returns-then-is_same-clause-entry : goal.returns-then-is_same-clause-entry
returns-then-is_same-clause-entry g c = search rules
