use Rattle.std.proofs.Common.{◌∙◌}
use Rattle.rs_intake_line.proofs.reply.ReplyReceiver.drop_next.Goals as goal

pub returns-clause-heard : goal.returns-clause-heard
returns-clause-heard g c = (c.wait_for-waited.ensures.heard.0, c.skip.ensures.0 ∙ c.wait_for-waited.ensures.heard.1)
