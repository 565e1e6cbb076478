use Rattle.std.proofs.Common.{refl, ap, ◌∙◌}
use Rattle.rs_session.specs.declared.open.Effect.TheVariants.{Closes}
use Rattle.rs_session.specs.declared.phase.Input.TheVariants.{Broken}
use Rattle.rs_session.specs.State.{session_at, gate_of}
use Rattle.rs_session.specs.Points.{given_at, point_at}
use Rattle.rs_session.specs.Table.{LeadsTo}
use Rattle.rs_session.proofs.Rows.{stays, took, unmoved, over, faulty}
use Rattle.rs_session.proofs.session.Session.on_fault.Goals as goal
use Rattle.rs_session.proofs.session.Session.on_fault.Goals.{in-Before, in-Open, in-Ended}

pub returns-clause-row : goal.returns-clause-row
returns-clause-row g c = λ now.
    let old = c.args.self.now in
    let mark = g.G.Gate.mark (gate_of old) in
    elim c.match-self.branch [
      | in-Before w ↦ stays g.G.Gate.stands g.G.Gate.mark (given_at (Broken c.args.fault) now) old w.first_fault.new.self c.match-self.self w.self-is w.first_fault.ensures.gate (λ list. w.first_fault.ensures.row now mark list)
      | in-Open w ↦
          took g.G.Gate.stands g.G.Gate.mark (given_at (Broken c.args.fault) now) old w.conclude.new.self c.match-self.self w.in-Open.open w.in-Open.open (gate_of old) _ _ w.self-is w.conclude.ensures.gate w.in-Open.is w.packet_maximum-maximum.ensures w.conclude.ensures.due
          (w.conclude.ensures.state w.in-Open.open w.in-Open.is)
          (unmoved g.G.Gate.stands g.G.Gate.mark (gate_of old) (gate_of old) (λ seen answered list used. LeadsTo (given_at (Broken c.args.fault) now) (point_at w.in-Open.open seen mark) answered (Closes w.fault_reason.result) (point_at w.in-Open.open list used)) refl
          (λ list. faulty c.args.fault now w.fault_reason.result (point_at w.in-Open.open list mark) w.fault_reason.ensures))
      | in-Ended w ↦ stays g.G.Gate.stands g.G.Gate.mark (given_at (Broken c.args.fault) now) old old c.match-self.self w.self-is refl (λ list. over _ (session_at g.G.Gate.mark old list) _ _ w.in-Ended.is c.requires)
    ]

pub returns-clause-pending : goal.returns-clause-pending
returns-clause-pending g c =
    elim c.match-self.branch [
      | in-Before w ↦ ap (λ s. g.G.Gate.pending (gate_of s)) w.self-is ∙ ap (λ x. g.G.Gate.pending x) w.first_fault.ensures.gate
      | in-Open w ↦ ap (λ s. g.G.Gate.pending (gate_of s)) w.self-is ∙ ap (λ x. g.G.Gate.pending x) w.conclude.ensures.gate
      | in-Ended w ↦ ap (λ s. g.G.Gate.pending (gate_of s)) w.self-is
    ]
