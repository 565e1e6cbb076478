use Rattle.rs_intake_queue.proofs.Queues.{learns}
use Rattle.rs_intake_queue.proofs.steps.compare.Goals as goal

pub learn_as-requires-clause-rule : goal.learn_as-requires-clause-rule
learn_as-requires-clause-rule c = learns _ _ c.requires.takes
