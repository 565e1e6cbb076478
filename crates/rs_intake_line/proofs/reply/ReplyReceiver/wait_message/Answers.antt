use Rattle.rs_intake_line.proofs.Ways.{receives_reply}
use Rattle.rs_intake_line.proofs.reply.ReplyReceiver.wait_message.Goals as goal

pub receive-requires-clause-rule : goal.receive-requires-clause-rule
receive-requires-clause-rule g c = (receives_reply _ _ c.self.invariant.1 c.self.invariant.2, λ items views h at. tt)
