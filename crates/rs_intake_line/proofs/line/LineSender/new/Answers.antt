use Rattle.std.proofs.Common.{rules}
use Rattle.rs_intake_queue.proofs.Queues.{line_none}
use Rattle.rs_intake_line.proofs.line.LineSender.new.Goals as goal

pub invariant_of-result : goal.invariant_of-result
invariant_of-result g c = (search rules, search rules, line_none _ _ c.requires.new.3)
