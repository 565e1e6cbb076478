use Rattle.rs_intake_line.proofs.Ways.{sends_reply}
use Rattle.rs_intake_line.proofs.reply.ReplySender.send.Goals as goal

pub send-sent-requires-clause-rule : goal.send-sent-requires-clause-rule
send-sent-requires-clause-rule g c = (sends_reply _ _ _ _ c.self.invariant.1 c.self.invariant.2, λ items views h at. tt)
