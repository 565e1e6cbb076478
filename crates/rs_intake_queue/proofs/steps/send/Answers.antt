use Rattle.rs_intake_queue.proofs.Queues.{puts}
use Rattle.rs_intake_queue.proofs.steps.send.Goals as goal

pub send-requires-clause-rule : goal.send-requires-clause-rule
send-requires-clause-rule g c = (puts _ _ _ _ c.requires.sends.0 c.requires.sends.1 c.requires.sends.2 c.requires.above c.requires.open, λ items views h at. tt)
