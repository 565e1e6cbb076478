use Rattle.rs_intake_queue.proofs.Queues.{takes}
use Rattle.rs_intake_queue.proofs.steps.take.Goals as goal

pub receive-requires-clause-rule : goal.receive-requires-clause-rule
receive-requires-clause-rule g c = (takes _ _ c.requires.takes.0 c.requires.takes.1, λ items views h at. tt)
