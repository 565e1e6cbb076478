use Rattle.rs_intake_queue.proofs.Queues.{cuts}
use Rattle.rs_intake_queue.proofs.steps.cut.Goals as goal

pub another-requires-clause-rule : goal.another-requires-clause-rule
another-requires-clause-rule c = cuts _ _ c.requires.takes.0 c.requires.takes.1 c.requires.takes.2
