use Rattle.rs_intake_queue.proofs.Queues.{starts}
use Rattle.rs_intake.proofs.blank.blank_queue.Goals as goal

pub bounded_with-requires-clause-rule : goal.bounded_with-requires-clause-rule
bounded_with-requires-clause-rule c = starts
