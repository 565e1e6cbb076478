use Rattle.std.proofs.Common.{◌∙◌}
use Rattle.rs_session.proofs.Rows.{unexpected, connected}
use Rattle.rs_session.proofs.session.Session.first_packet.Goals as goal

pub returns-in-Connect-clause-row : goal.returns-in-Connect-clause-row
returns-in-Connect-clause-row g c = connected c.in-Connect.c c.args.packet _ _ _ c.in-Connect.is c.connect.ensures.row

pub returns-in-Publish-clause-row : goal.returns-in-Publish-clause-row
returns-in-Publish-clause-row g c = unexpected c.args.packet _ _ _ _ c.in-Publish.is tt c.requires.before (c.end.ensures.due ∙ c.requires.due) c.end.ensures.state

pub returns-in-Puback-clause-row : goal.returns-in-Puback-clause-row
returns-in-Puback-clause-row g c = unexpected c.args.packet _ _ _ _ c.in-Puback.is tt c.requires.before (c.end-in-Puback.ensures.due ∙ c.requires.due) c.end-in-Puback.ensures.state

pub returns-in-Pubrec-clause-row : goal.returns-in-Pubrec-clause-row
returns-in-Pubrec-clause-row g c = unexpected c.args.packet _ _ _ _ c.in-Pubrec.is tt c.requires.before (c.end-in-Pubrec.ensures.due ∙ c.requires.due) c.end-in-Pubrec.ensures.state

pub returns-in-Pubrel-clause-row : goal.returns-in-Pubrel-clause-row
returns-in-Pubrel-clause-row g c = unexpected c.args.packet _ _ _ _ c.in-Pubrel.is tt c.requires.before (c.end-in-Pubrel.ensures.due ∙ c.requires.due) c.end-in-Pubrel.ensures.state

pub returns-in-Pubcomp-clause-row : goal.returns-in-Pubcomp-clause-row
returns-in-Pubcomp-clause-row g c = unexpected c.args.packet _ _ _ _ c.in-Pubcomp.is tt c.requires.before (c.end-in-Pubcomp.ensures.due ∙ c.requires.due) c.end-in-Pubcomp.ensures.state

pub returns-in-Subscribe-clause-row : goal.returns-in-Subscribe-clause-row
returns-in-Subscribe-clause-row g c = unexpected c.args.packet _ _ _ _ c.in-Subscribe.is tt c.requires.before (c.end-in-Subscribe.ensures.due ∙ c.requires.due) c.end-in-Subscribe.ensures.state

pub returns-in-Unsubscribe-clause-row : goal.returns-in-Unsubscribe-clause-row
returns-in-Unsubscribe-clause-row g c = unexpected c.args.packet _ _ _ _ c.in-Unsubscribe.is tt c.requires.before (c.end-in-Unsubscribe.ensures.due ∙ c.requires.due) c.end-in-Unsubscribe.ensures.state

pub returns-in-Pingreq-clause-row : goal.returns-in-Pingreq-clause-row
returns-in-Pingreq-clause-row g c = unexpected c.args.packet _ _ _ _ c.in-Pingreq.is tt c.requires.before (c.end-in-Pingreq.ensures.due ∙ c.requires.due) c.end-in-Pingreq.ensures.state

pub returns-in-Disconnect-clause-row : goal.returns-in-Disconnect-clause-row
returns-in-Disconnect-clause-row g c = unexpected c.args.packet _ _ _ _ c.in-Disconnect.is tt c.requires.before (c.end-in-Disconnect.ensures.due ∙ c.requires.due) c.end-in-Disconnect.ensures.state
