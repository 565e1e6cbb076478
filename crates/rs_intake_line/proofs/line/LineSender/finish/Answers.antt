use Rattle.std.proofs.Common.{rules}
use Rattle.rs_intake_line.proofs.line.LineSender.finish.Goals as goal

pub invariant_of-result : goal.invariant_of-result
invariant_of-result g c = search rules
