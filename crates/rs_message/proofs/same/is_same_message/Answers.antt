use Rattle.rs_message.proofs.Sameness.{messages_decide}
use Rattle.rs_message.proofs.same.is_same_message.Goals as goal

pub returns : goal.returns
returns c = messages_decide _ _ _ c.eq.ensures
