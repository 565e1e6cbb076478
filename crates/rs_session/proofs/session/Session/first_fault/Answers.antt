use Rattle.std.proofs.Common.{ℕ, Some, ap, ◌∙◌}
use Rattle.rs_packet.specs.declared.reply.Reply.TheVariants as reply
use Rattle.rs_session.specs.State.{ended, state_of}
use Rattle.rs_session.specs.declared.phase.Closing.TheVariants.{ByServer}
use Rattle.rs_session.proofs.Rows.{unexpected_fault, other_version}
use Rattle.rs_session.proofs.session.Session.first_fault.Goals as goal

pub returns-in-Version-clause-row : goal.returns-in-Version-clause-row
returns-in-Version-clause-row g c = other_version c.args.fault _ _ _ c.in-Version.is c.requires.before (c.end.ensures.due ∙ ap (λ (n : ℕ). Some (reply.ConnackRefused n)) c.code-code.ensures)
    (c.end.ensures.state ∙ ap (λ (n : ℕ). ended (state_of c.args.self.now) (ByServer n)) c.code-code.ensures)

pub returns-in-Malformed-clause-row : goal.returns-in-Malformed-clause-row
returns-in-Malformed-clause-row g c = unexpected_fault c.args.fault _ _ _ _ c.in-Malformed.is tt c.requires.before (c.end-in-Malformed.ensures.due ∙ c.requires.due) c.end-in-Malformed.ensures.state

pub returns-in-Protocol-clause-row : goal.returns-in-Protocol-clause-row
returns-in-Protocol-clause-row g c = unexpected_fault c.args.fault _ _ _ _ c.in-Protocol.is tt c.requires.before (c.end-in-Protocol.ensures.due ∙ c.requires.due) c.end-in-Protocol.ensures.state

pub returns-in-TooLarge-clause-row : goal.returns-in-TooLarge-clause-row
returns-in-TooLarge-clause-row g c = unexpected_fault c.args.fault _ _ _ _ c.in-TooLarge.is tt c.requires.before (c.end-in-TooLarge.ensures.due ∙ c.requires.due) c.end-in-TooLarge.ensures.state

pub returns-in-NoMemory-clause-row : goal.returns-in-NoMemory-clause-row
returns-in-NoMemory-clause-row g c = unexpected_fault c.args.fault _ _ _ _ c.in-NoMemory.is tt c.requires.before (c.end-in-NoMemory.ensures.due ∙ c.requires.due) c.end-in-NoMemory.ensures.state
