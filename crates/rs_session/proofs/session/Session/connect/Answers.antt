use Rattle.std.proofs.Common.{◌∙◌, ◌≡◌, ℕ, sym, refl, ap, subst}
use Rattle.rs_packet.specs.declared.reply.Reply.{Reply}
use Rattle.rs_packet.specs.declared.reply.Reply.TheVariants as reply
use Rattle.rs_session.specs.Reasons.{reason_value}
use Rattle.rs_session.specs.declared.reason.ReasonCode.TheVariants.{QuotaExceeded}
use Rattle.rs_session.specs.State.{state_of, within}
use Rattle.rs_session.specs.Steps.{IsAccepted}
use Rattle.rs_session.specs.declared.open.Open.{Open}
use Rattle.rs_session.specs.Table.{connack, packet_maximum}
use Rattle.rs_session.proofs.Rows.{accepted, connect_refused, connect_without_memory}
use Rattle.rs_session.proofs.session.Session.connect.Goals as goal

pub returns-in-Some-clause-row : goal.returns-in-Some-clause-row
returns-in-Some-clause-row g c =
    connect_refused c.args.c.now _ _ c.in-Some.reason _ _ _ refl refl (sym c.in-Some.ensures) c.requires.before (c.refuse.ensures.due ∙ ap (λ (n : ℕ). within n (reply.ConnackRefused (reason_value c.in-Some.reason))) c.packet_maximum-maximum.ensures.value) c.refuse.ensures.state

pub returns-in-Ok-clause-row : goal.returns-in-Ok-clause-row
returns-in-Ok-clause-row g c =
    let old = state_of c.args.self.now in
    let new = state_of c.accept.new.self in
    let maximum = packet_maximum c.args.c.now.packet_maximum in
    let is : c.in-Ok.connack ≡ connack c.args.c.now old = c.in-Ok.ensures.connack in
    accepted c.args.c.now _ _ _ _ _ refl refl (sym c.refusal.ensures ∙ c.in_default.is) c.requires.before
    (subst (λ (o : Open). IsAccepted (connack c.args.c.now old) maximum o old c.accept.new.self.due new) c.in-Ok.ensures.keeps
    (subst (λ (r : Reply). IsAccepted r maximum c.in-Ok.begun old c.accept.new.self.due new) is
    (subst (λ (n : ℕ). IsAccepted c.in-Ok.connack n c.in-Ok.begun old c.accept.new.self.due new) c.packet_maximum-maximum.ensures.value c.accept.ensures.accepted)))

pub returns-in-Err-clause-row : goal.returns-in-Err-clause-row
returns-in-Err-clause-row g c =
    connect_without_memory c.args.c.now _ _ _ _ _ refl refl (sym c.refusal.ensures ∙ c.in_default.is) c.requires.before (c.refuse-in-Err.ensures.due ∙ ap (λ (n : ℕ). within n (reply.ConnackRefused (reason_value QuotaExceeded))) c.packet_maximum-maximum.ensures.value) c.refuse-in-Err.ensures.state
