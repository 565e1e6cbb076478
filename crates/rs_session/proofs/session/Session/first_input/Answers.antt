use Rattle.std.proofs.Common.{subst}
use Rattle.rs_session.specs.declared.phase.Input.{Input}
use Rattle.rs_session.specs.State.{state_of}
use Rattle.rs_session.specs.Table.{AnswersWithoutGate}
use Rattle.rs_session.proofs.session.Session.first_input.Goals as goal

pub returns-in-Whole-clause-row : goal.returns-in-Whole-clause-row
returns-in-Whole-clause-row g c =
    let new = c.first_packet.new.self in
    subst (λ (i : Input). AnswersWithoutGate i (state_of c.args.self.now) new.due (state_of new)) c.in-Whole.ensures c.first_packet.ensures.row

pub returns-in-Broken-clause-row : goal.returns-in-Broken-clause-row
returns-in-Broken-clause-row g c =
    let new = c.first_fault.new.self in
    subst (λ (i : Input). AnswersWithoutGate i (state_of c.args.self.now) new.due (state_of new)) c.in-Broken.ensures c.first_fault.ensures.row
