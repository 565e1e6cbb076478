use Rattle.std.proofs.Common.{◌∙◌, refl, sym, ap, subst}
use Rattle.std.specs.Prelude.{IfSome}
use Rattle.rs_packet.specs.declared.packet.Packet.{Packet}
use Rattle.rs_session.specs.declared.phase.Input.{Input}
use Rattle.rs_session.specs.declared.phase.Input.TheVariants.{Whole}
use Rattle.rs_session.specs.Pending.{IsChange}
use Rattle.rs_session.specs.Points.{given_at, point_at}
use Rattle.rs_session.proofs.Rows.{is_packet, is_fault, leads, leads_unmoved, faulty, before_use, connected_twice, pinged, disconnected}
use Rattle.rs_session.proofs.Expecting.{by_another, by_fault, by_given, before_use_pending}
use Rattle.rs_session.proofs.Certain.{before_use_certain, no_packet, no_publish}
use Rattle.rs_session.proofs.open.Open.handle.Goals as goal

pub returns-in-Broken-clause-row : goal.returns-in-Broken-clause-row
returns-in-Broken-clause-row g c =
    leads_unmoved g.G.Gate.stands g.G.Gate.mark c.args.gate.now _ _ c.args.self.now c.args.self.now _ (is_fault _ _ c.in-Broken.fault c.incoming.inside.time c.in-Broken.is c.incoming.view_is)
    (λ list. faulty c.in-Broken.fault c.incoming.inside.time _ (point_at c.args.self.now list _) c.fault_reason.ensures)

pub returns-in-Connect-clause-row : goal.returns-in-Connect-clause-row
returns-in-Connect-clause-row g c =
    leads_unmoved g.G.Gate.stands g.G.Gate.mark c.args.gate.now _ _ c.args.self.now c.args.self.now _ (is_packet _ _ c.in-Whole.packet _ c.incoming.inside.time c.in-Whole.is c.in-Connect.is c.incoming.view_is)
    (λ list. connected_twice _ c.in-Connect._c c.incoming.inside.time (point_at c.args.self.now list _) refl)

pub returns-in-Some-clause-row : goal.returns-in-Some-clause-row
returns-in-Some-clause-row g c =
    leads_unmoved g.G.Gate.stands g.G.Gate.mark c.args.gate.now _ _ c.args.self.now c.args.self.now _ (is_packet _ _ c.in-Whole.packet _ c.incoming.inside.time c.in-Whole.is c.in-Publish.is c.incoming.view_is)
    (λ list. before_use c.in-Publish.p c.in-Some.effect c.incoming.inside.time (point_at c.args.self.now list _) (sym c.in-Some.ensures))

pub returns-in-None-clause-row : goal.returns-in-None-clause-row
returns-in-None-clause-row g c =
    leads g.G.Gate.stands g.G.Gate.mark c.args.gate.now c.hand_over.new.gate _ _ c.args.self.now c.hand_over.new.self _ (is_packet _ _ c.in-Whole.packet _ c.incoming.inside.time c.in-Whole.is c.in-Publish.is c.incoming.view_is) c.hand_over.ensures.row

pub returns-in-Puback-clause-row : goal.returns-in-Puback-clause-row
returns-in-Puback-clause-row g c =
    leads_unmoved g.G.Gate.stands g.G.Gate.mark c.args.gate.now _ _ c.args.self.now c.puback.new.self _ (is_packet _ _ c.in-Whole.packet _ c.incoming.inside.time c.in-Whole.is c.in-Puback.is c.incoming.view_is)
    (λ list. c.puback.ensures c.incoming.inside.time _ list)

pub returns-in-Pubrec-clause-row : goal.returns-in-Pubrec-clause-row
returns-in-Pubrec-clause-row g c =
    leads_unmoved g.G.Gate.stands g.G.Gate.mark c.args.gate.now _ _ c.args.self.now c.pubrec.new.self _ (is_packet _ _ c.in-Whole.packet _ c.incoming.inside.time c.in-Whole.is c.in-Pubrec.is c.incoming.view_is)
    (λ list. c.pubrec.ensures c.incoming.inside.time _ list)

pub returns-in-Pubrel-clause-row : goal.returns-in-Pubrel-clause-row
returns-in-Pubrel-clause-row g c =
    leads_unmoved g.G.Gate.stands g.G.Gate.mark c.args.gate.now _ _ c.args.self.now c.pubrel.new.self _ (is_packet _ _ c.in-Whole.packet _ c.incoming.inside.time c.in-Whole.is c.in-Pubrel.is c.incoming.view_is)
    (λ list. c.pubrel.ensures c.incoming.inside.time _ list)

pub returns-in-Pubcomp-clause-row : goal.returns-in-Pubcomp-clause-row
returns-in-Pubcomp-clause-row g c =
    leads_unmoved g.G.Gate.stands g.G.Gate.mark c.args.gate.now _ _ c.args.self.now c.pubcomp.new.self _ (is_packet _ _ c.in-Whole.packet _ c.incoming.inside.time c.in-Whole.is c.in-Pubcomp.is c.incoming.view_is)
    (λ list. c.pubcomp.ensures c.incoming.inside.time _ list)

pub returns-in-Subscribe-clause-row : goal.returns-in-Subscribe-clause-row
returns-in-Subscribe-clause-row g c =
    leads g.G.Gate.stands g.G.Gate.mark c.args.gate.now c.subscribe.new.gate _ _ c.args.self.now c.subscribe.new.self _ (is_packet _ _ c.in-Whole.packet _ c.incoming.inside.time c.in-Whole.is c.in-Subscribe.is c.incoming.view_is) c.subscribe.ensures.row

pub returns-in-Unsubscribe-clause-row : goal.returns-in-Unsubscribe-clause-row
returns-in-Unsubscribe-clause-row g c =
    leads_unmoved g.G.Gate.stands g.G.Gate.mark c.args.gate.now _ _ c.args.self.now c.unsubscribe.new.self _ (is_packet _ _ c.in-Whole.packet _ c.incoming.inside.time c.in-Whole.is c.in-Unsubscribe.is c.incoming.view_is)
    (λ list. c.unsubscribe.ensures c.incoming.inside.time _ list)

pub returns-in-Pingreq-clause-row : goal.returns-in-Pingreq-clause-row
returns-in-Pingreq-clause-row g c =
    leads_unmoved g.G.Gate.stands g.G.Gate.mark c.args.gate.now _ _ c.args.self.now c.args.self.now _ (is_packet _ _ c.in-Whole.packet _ c.incoming.inside.time c.in-Whole.is c.in-Pingreq.is c.incoming.view_is)
    (λ list. pinged _ c.incoming.inside.time (point_at c.args.self.now list _) refl)

pub returns-in-Disconnect-clause-row : goal.returns-in-Disconnect-clause-row
returns-in-Disconnect-clause-row g c =
    leads_unmoved g.G.Gate.stands g.G.Gate.mark c.args.gate.now _ _ c.args.self.now c.args.self.now _ (is_packet _ _ c.in-Whole.packet _ c.incoming.inside.time c.in-Whole.is c.in-Disconnect.is c.incoming.view_is)
    (λ list. disconnected _ c.in-Disconnect._code c.incoming.inside.time (point_at c.args.self.now list _) refl)

pub returns-in-Broken-clause-pending : goal.returns-in-Broken-clause-pending
returns-in-Broken-clause-pending g c = by_fault _ c.in-Broken.fault c.incoming.inside.time (g.G.Gate.pending c.args.gate.now) (g.G.Gate.pending c.args.gate.now) _ (is_fault _ _ c.in-Broken.fault c.incoming.inside.time c.in-Broken.is c.incoming.view_is) refl

pub returns-in-Connect-clause-pending : goal.returns-in-Connect-clause-pending
returns-in-Connect-clause-pending g c = by_another _ _ c.incoming.inside.time (g.G.Gate.pending c.args.gate.now) (g.G.Gate.pending c.args.gate.now) _ (is_packet _ _ c.in-Whole.packet _ c.incoming.inside.time c.in-Whole.is c.in-Connect.is c.incoming.view_is) tt refl

pub returns-in-Puback-clause-pending : goal.returns-in-Puback-clause-pending
returns-in-Puback-clause-pending g c = by_another _ _ c.incoming.inside.time (g.G.Gate.pending c.args.gate.now) (g.G.Gate.pending c.args.gate.now) _ (is_packet _ _ c.in-Whole.packet _ c.incoming.inside.time c.in-Whole.is c.in-Puback.is c.incoming.view_is) tt refl

pub returns-in-Pubrec-clause-pending : goal.returns-in-Pubrec-clause-pending
returns-in-Pubrec-clause-pending g c = by_another _ _ c.incoming.inside.time (g.G.Gate.pending c.args.gate.now) (g.G.Gate.pending c.args.gate.now) _ (is_packet _ _ c.in-Whole.packet _ c.incoming.inside.time c.in-Whole.is c.in-Pubrec.is c.incoming.view_is) tt refl

pub returns-in-Pubrel-clause-pending : goal.returns-in-Pubrel-clause-pending
returns-in-Pubrel-clause-pending g c = by_another _ _ c.incoming.inside.time (g.G.Gate.pending c.args.gate.now) (g.G.Gate.pending c.args.gate.now) _ (is_packet _ _ c.in-Whole.packet _ c.incoming.inside.time c.in-Whole.is c.in-Pubrel.is c.incoming.view_is) tt refl

pub returns-in-Pubcomp-clause-pending : goal.returns-in-Pubcomp-clause-pending
returns-in-Pubcomp-clause-pending g c = by_another _ _ c.incoming.inside.time (g.G.Gate.pending c.args.gate.now) (g.G.Gate.pending c.args.gate.now) _ (is_packet _ _ c.in-Whole.packet _ c.incoming.inside.time c.in-Whole.is c.in-Pubcomp.is c.incoming.view_is) tt refl

pub returns-in-Unsubscribe-clause-pending : goal.returns-in-Unsubscribe-clause-pending
returns-in-Unsubscribe-clause-pending g c = by_another _ _ c.incoming.inside.time (g.G.Gate.pending c.args.gate.now) (g.G.Gate.pending c.args.gate.now) _ (is_packet _ _ c.in-Whole.packet _ c.incoming.inside.time c.in-Whole.is c.in-Unsubscribe.is c.incoming.view_is) tt refl

pub returns-in-Pingreq-clause-pending : goal.returns-in-Pingreq-clause-pending
returns-in-Pingreq-clause-pending g c = by_another _ _ c.incoming.inside.time (g.G.Gate.pending c.args.gate.now) (g.G.Gate.pending c.args.gate.now) _ (is_packet _ _ c.in-Whole.packet _ c.incoming.inside.time c.in-Whole.is c.in-Pingreq.is c.incoming.view_is) tt refl

pub returns-in-Disconnect-clause-pending : goal.returns-in-Disconnect-clause-pending
returns-in-Disconnect-clause-pending g c = by_another _ _ c.incoming.inside.time (g.G.Gate.pending c.args.gate.now) (g.G.Gate.pending c.args.gate.now) _ (is_packet _ _ c.in-Whole.packet _ c.incoming.inside.time c.in-Whole.is c.in-Disconnect.is c.incoming.view_is) tt refl

pub returns-in-Subscribe-clause-pending : goal.returns-in-Subscribe-clause-pending
returns-in-Subscribe-clause-pending g c = by_another _ _ c.incoming.inside.time (g.G.Gate.pending c.args.gate.now) (g.G.Gate.pending c.subscribe.new.gate) _ (is_packet _ _ c.in-Whole.packet _ c.incoming.inside.time c.in-Whole.is c.in-Subscribe.is c.incoming.view_is) tt c.subscribe.ensures.pending

pub returns-in-Some-clause-pending : goal.returns-in-Some-clause-pending
returns-in-Some-clause-pending g c =
    by_given _ _ (g.G.Gate.pending c.args.gate.now) (g.G.Gate.pending c.args.gate.now) _ (is_packet _ _ c.in-Whole.packet _ c.incoming.inside.time c.in-Whole.is c.in-Publish.is c.incoming.view_is)
    (before_use_pending c.in-Publish.p c.args.self.now c.in-Some.effect c.incoming.inside.time (g.G.Gate.pending c.args.gate.now) (g.G.Gate.pending c.args.gate.now) _ (sym c.in-Some.ensures) refl)

pub returns-in-None-clause-pending : goal.returns-in-None-clause-pending
returns-in-None-clause-pending g c = by_given _ _ (g.G.Gate.pending c.args.gate.now) (g.G.Gate.pending c.hand_over.new.gate) _ (is_packet _ _ c.in-Whole.packet _ c.incoming.inside.time c.in-Whole.is c.in-Publish.is c.incoming.view_is) c.hand_over.ensures.pending

pub hand_over-requires-clause-change : goal.hand_over-requires-clause-change
hand_over-requires-clause-change g c =
    subst (λ (i : Input). IfSome c.incoming.inside.change (λ operation. IsChange (given_at i c.incoming.inside.time) operation)) (c.in-Whole.is ∙ ap (λ (p : Packet). Whole p) c.in-Publish.is) c.incoming.invariant

pub returns-in-Broken-clause-certain : goal.returns-in-Broken-clause-certain
returns-in-Broken-clause-certain g c = λ p is. absurd (no_packet _ c.in-Broken.fault c.incoming.inside.time _ (is_fault _ _ c.in-Broken.fault c.incoming.inside.time c.in-Broken.is c.incoming.view_is) is)

pub returns-in-Connect-clause-certain : goal.returns-in-Connect-clause-certain
returns-in-Connect-clause-certain g c = λ p is. absurd (no_publish _ _ c.incoming.inside.time p (is_packet _ _ c.in-Whole.packet _ c.incoming.inside.time c.in-Whole.is c.in-Connect.is c.incoming.view_is) tt is)

pub returns-in-Puback-clause-certain : goal.returns-in-Puback-clause-certain
returns-in-Puback-clause-certain g c = λ p is. absurd (no_publish _ _ c.incoming.inside.time p (is_packet _ _ c.in-Whole.packet _ c.incoming.inside.time c.in-Whole.is c.in-Puback.is c.incoming.view_is) tt is)

pub returns-in-Pubrec-clause-certain : goal.returns-in-Pubrec-clause-certain
returns-in-Pubrec-clause-certain g c = λ p is. absurd (no_publish _ _ c.incoming.inside.time p (is_packet _ _ c.in-Whole.packet _ c.incoming.inside.time c.in-Whole.is c.in-Pubrec.is c.incoming.view_is) tt is)

pub returns-in-Pubrel-clause-certain : goal.returns-in-Pubrel-clause-certain
returns-in-Pubrel-clause-certain g c = λ p is. absurd (no_publish _ _ c.incoming.inside.time p (is_packet _ _ c.in-Whole.packet _ c.incoming.inside.time c.in-Whole.is c.in-Pubrel.is c.incoming.view_is) tt is)

pub returns-in-Pubcomp-clause-certain : goal.returns-in-Pubcomp-clause-certain
returns-in-Pubcomp-clause-certain g c = λ p is. absurd (no_publish _ _ c.incoming.inside.time p (is_packet _ _ c.in-Whole.packet _ c.incoming.inside.time c.in-Whole.is c.in-Pubcomp.is c.incoming.view_is) tt is)

pub returns-in-Unsubscribe-clause-certain : goal.returns-in-Unsubscribe-clause-certain
returns-in-Unsubscribe-clause-certain g c = λ p is. absurd (no_publish _ _ c.incoming.inside.time p (is_packet _ _ c.in-Whole.packet _ c.incoming.inside.time c.in-Whole.is c.in-Unsubscribe.is c.incoming.view_is) tt is)

pub returns-in-Pingreq-clause-certain : goal.returns-in-Pingreq-clause-certain
returns-in-Pingreq-clause-certain g c = λ p is. absurd (no_publish _ _ c.incoming.inside.time p (is_packet _ _ c.in-Whole.packet _ c.incoming.inside.time c.in-Whole.is c.in-Pingreq.is c.incoming.view_is) tt is)

pub returns-in-Disconnect-clause-certain : goal.returns-in-Disconnect-clause-certain
returns-in-Disconnect-clause-certain g c = λ p is. absurd (no_publish _ _ c.incoming.inside.time p (is_packet _ _ c.in-Whole.packet _ c.incoming.inside.time c.in-Whole.is c.in-Disconnect.is c.incoming.view_is) tt is)

pub returns-in-Subscribe-clause-certain : goal.returns-in-Subscribe-clause-certain
returns-in-Subscribe-clause-certain g c = λ p is. absurd (no_publish _ _ c.incoming.inside.time p (is_packet _ _ c.in-Whole.packet _ c.incoming.inside.time c.in-Whole.is c.in-Subscribe.is c.incoming.view_is) tt is)

pub returns-in-Some-clause-certain : goal.returns-in-Some-clause-certain
returns-in-Some-clause-certain g c = λ p is none. before_use_certain c.in-Publish.p c.args.self.now c.in-Some.effect (sym c.in-Some.ensures)

pub returns-in-None-clause-certain : goal.returns-in-None-clause-certain
returns-in-None-clause-certain g c = λ p is. c.hand_over.ensures.certain
