use Rattle.rs_intake_queue.proofs.Queues.{takes}
use Rattle.rs_intake_queue.proofs.steps.take_if_any.Goals as goal

pub receive_if_any-requires-clause-rule : goal.receive_if_any-requires-clause-rule
receive_if_any-requires-clause-rule g c = (takes _ _ c.requires.takes.0 c.requires.takes.1, λ items views h at. tt)
