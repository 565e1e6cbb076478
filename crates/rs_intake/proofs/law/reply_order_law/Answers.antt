use Rattle.rs_intake_line.proofs.Ways.{replies_in_order}
use Rattle.rs_intake.proofs.law.reply_order_law.Goals as goal

pub returns : goal.returns
returns _ = replies_in_order
