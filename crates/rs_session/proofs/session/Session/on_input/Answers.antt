use Rattle.std.proofs.Common.{refl, sym, ap, ◌∙◌}
use Rattle.rs_session.specs.State.{session_at, gate_of, state_of, step_of}
use Rattle.rs_session.specs.declared.phase.Phase.{Phase}
use Rattle.rs_session.proofs.Rows.{stays, took, over, after_same}
use Rattle.rs_session.proofs.Expecting.{stays_pending, took_pending}
use Rattle.rs_session.proofs.Certain.{open_before, open_ended, took_certain}
use Rattle.rs_session.proofs.session.Session.on_input.Goals as goal
use Rattle.rs_session.proofs.session.Session.on_input.Goals.{in-Before, in-Open, in-Ended}

pub returns-clause-row : goal.returns-clause-row
returns-clause-row g c =
    let old = c.args.self.now in
    let mark = g.G.Gate.mark (gate_of old) in
    elim c.match-self.branch [
      | in-Before w ↦ stays g.G.Gate.stands g.G.Gate.mark c.args.incoming old w.first_input.new.self c.match-self.self w.self-is w.first_input.ensures.gate (λ list. w.first_input.ensures.row c.args.incoming.now mark list)
      | in-Open w ↦
          took g.G.Gate.stands g.G.Gate.mark c.args.incoming old w.conclude.new.self c.match-self.self w.in-Open.open w.handle-effect.new.self w.handle-effect.new.gate w.handle-effect.result _ w.self-is w.conclude.ensures.gate w.in-Open.is w.packet_maximum-maximum.ensures w.conclude.ensures.due
          (w.conclude.ensures.state w.handle-effect.new.self refl ∙ after_same w.handle-effect.result _ (state_of old) w.handle-effect.new.self refl)
          w.handle-effect.ensures.row
      | in-Ended w ↦ stays g.G.Gate.stands g.G.Gate.mark c.args.incoming old old c.match-self.self w.self-is refl (λ list. over _ (session_at g.G.Gate.mark old list) _ _ w.in-Ended.is c.requires.due)
    ]

pub returns-clause-pending : goal.returns-clause-pending
returns-clause-pending g c =
    let old = c.args.self.now in
    elim c.match-self.branch [
      | in-Before w ↦ stays_pending g.G.Gate.pending g.G.Gate.mark c.args.incoming old w.first_input.new.self c.match-self.self w.self-is w.first_input.ensures.gate (λ p e. ap (λ (x : Phase). step_of x) (w.first_input.ensures.early p e))
      | in-Open w ↦
          took_pending g.G.Gate.pending g.G.Gate.mark c.args.incoming old w.conclude.new.self c.match-self.self w.handle-effect.new.self (state_of old) w.handle-effect.new.gate w.handle-effect.result w.self-is w.conclude.ensures.gate
          (w.conclude.ensures.state w.handle-effect.new.self refl ∙ after_same w.handle-effect.result _ (state_of old) w.handle-effect.new.self refl)
          w.handle-effect.ensures.pending
      | in-Ended w ↦ stays_pending g.G.Gate.pending g.G.Gate.mark c.args.incoming old old c.match-self.self w.self-is refl (λ p e. ap (λ (x : Phase). step_of x) w.in-Ended.is)
    ]

pub returns-clause-certain : goal.returns-clause-certain
returns-clause-certain g c = λ p o is was.
    let old = c.args.self.now in
    elim c.match-self.branch [
      | in-Before w ↦ absurd (open_before o (sym was ∙ w.in-Before.is))
      | in-Open w ↦
          took_certain g.G.Gate.stands g.G.Gate.pending g.G.Gate.mark old w.conclude.new.self c.match-self.self w.handle-effect.new.self (state_of old) w.handle-effect.new.gate w.handle-effect.result w.self-is w.conclude.ensures.gate
          (w.conclude.ensures.state w.handle-effect.new.self refl ∙ after_same w.handle-effect.result _ (state_of old) w.handle-effect.new.self refl)
          (w.handle-effect.ensures.certain p is)
      | in-Ended w ↦ absurd (open_ended o _ (sym was ∙ w.in-Ended.is))
    ]
