use Rattle.std.proofs.Common.{◌≡◌, List, [], Option, None, ◌∙◌, sym, ap, subst, refl}
use Rattle.std.specs.Prelude.{IfSome}
use Rattle.rs_packet.specs.Values.{PublishValue}
use Rattle.rs_packet.specs.declared.packet.Packet.TheVariants as packet
use Rattle.rs_message.specs.declared.entry.Entry.{Entry}
use Rattle.rs_message.specs.declared.entry.Operation.{Operation}
use Rattle.rs_session.specs.declared.open.Effect.TheVariants.{Replies}
use Rattle.rs_session.specs.declared.phase.Input.TheVariants.{Whole}
use Rattle.rs_session.specs.Gate.{Mark, GrowsAnswering}
use Rattle.rs_session.specs.Pending.{IsChange, LeavesPending}
use Rattle.rs_session.specs.Steps.{IsUnsent, effect_before}
use Rattle.rs_session.specs.Points.{given_at, point_at}
use Rattle.rs_session.specs.Table.{LeadsTo}
use Rattle.rs_session.proofs.Rows.{unmoved, topic_unread, submitted, not_made, not_retained}
use Rattle.rs_session.proofs.Expecting.{by_refusal, by_submit, its_change, no_change_sweeps, not_retained_pending, topic_unread_pending}
use Rattle.rs_session.proofs.Certain.{by_refusal_certain, replies}
use Rattle.rs_session.proofs.open.Open.hand_over.Goals as goal

pub returns-in_default-topic-clause-row : goal.returns-in_default-topic-clause-row
returns-in_default-topic-clause-row g c =
    let o = c.args.self.now in
    let effect = Replies c.acknowledged_by.result in
    let Leads : PublishValue → List Entry → List (List Entry) → List Entry → Mark → Type 0 = λ p seen answered list used. LeadsTo (given_at (Whole (packet.Publish p)) c.args.now) (point_at o seen (g.G.Gate.mark c.args.gate.now)) answered effect (point_at o list used) in
    unmoved g.G.Gate.stands g.G.Gate.mark c.args.gate.now c.args.gate.now (Leads c.args.p) refl
    (λ list. subst (λ (p : PublishValue). effect_before p o ≡ None → Leads p list [] list (g.G.Gate.mark c.args.gate.now)) c.p.view_is
    (λ e. topic_unread _ c.in_default-topic.field-0 effect c.args.now (point_at o list _) e c.in_default-topic.is (ap Replies c.acknowledged_by.ensures)) c.requires.before)

pub returns-in-Ok-Some-clause-row : goal.returns-in-Ok-Some-clause-row
returns-in-Ok-Some-clause-row g c =
    let o = c.args.self.now in
    let old = c.args.gate.now in
    let new = c.submit-in-Ok-Some.new.gate in
    subst
    (λ (p : PublishValue). effect_before p o ≡ None → GrowsAnswering g.G.Gate.stands g.G.Gate.mark old new (λ seen answered list. LeadsTo (given_at (Whole (packet.Publish p)) c.args.now) (point_at o seen (g.G.Gate.mark old)) answered c.submit-in-Ok-Some.result (point_at c.submit-in-Ok-Some.new.self list (g.G.Gate.mark new))))
    c.p.view_is
    (λ e. submitted g.G.Gate.stands g.G.Gate.mark old new _ c.in-Ok.topic c.in-Ok-Some.operation c.args.now _ o _ e c.in-Ok.is (sym c.in-Ok-Some.ensures.ok ∙ c.in-Ok-Some.field-0-is) c.submit-in-Ok-Some.ensures.mark c.submit-in-Ok-Some.ensures.sent c.submit-in-Ok-Some.ensures.list) c.requires.before

pub returns-in-Ok-None-clause-row : goal.returns-in-Ok-None-clause-row
returns-in-Ok-None-clause-row g c =
    let o = c.args.self.now in
    let effect = Replies c.acknowledged_by-in-Ok-None.result in
    let to = c.await_release.new.self in
    let Leads : PublishValue → List Entry → List (List Entry) → List Entry → Mark → Type 0 = λ p seen answered list used. LeadsTo (given_at (Whole (packet.Publish p)) c.args.now) (point_at o seen (g.G.Gate.mark c.args.gate.now)) answered effect (point_at to list used) in
    unmoved g.G.Gate.stands g.G.Gate.mark c.args.gate.now c.args.gate.now (Leads c.args.p) refl
    (λ list. subst (λ (p : PublishValue). effect_before p o ≡ None → Leads p list [] list (g.G.Gate.mark c.args.gate.now)) c.p.view_is
    (λ e. not_retained _ c.in-Ok.topic effect c.args.now (point_at o list _) to e c.in-Ok.is (sym c.in-Ok-None.ensures.ok ∙ c.in-Ok-None.field-0-is) (ap Replies c.acknowledged_by-in-Ok-None.ensures) c.await_release.ensures) c.requires.before)

pub returns-in-Err-clause-row : goal.returns-in-Err-clause-row
returns-in-Err-clause-row g c =
    let o = c.args.self.now in
    let effect = c.effect_of_no_memory.result in
    let Leads : PublishValue → List Entry → List (List Entry) → List Entry → Mark → Type 0 = λ p seen answered list used. LeadsTo (given_at (Whole (packet.Publish p)) c.args.now) (point_at o seen (g.G.Gate.mark c.args.gate.now)) answered effect (point_at o list used) in
    unmoved g.G.Gate.stands g.G.Gate.mark c.args.gate.now c.args.gate.now (Leads c.args.p) refl
    (λ list. subst (λ (p : PublishValue). effect_before p o ≡ None → Leads p list [] list (g.G.Gate.mark c.args.gate.now)) c.p.view_is
    (λ e. not_made _ c.in-Ok.topic (g.G.Gate.pending c.args.gate.now) effect c.args.now (point_at o list _) e c.in-Ok.is c.in-Err.ensures.err.0 c.effect_of_no_memory.ensures) c.requires.before)

pub returns-in_default-topic-clause-pending : goal.returns-in_default-topic-clause-pending
returns-in_default-topic-clause-pending g c =
    let pending = g.G.Gate.pending c.args.gate.now in
    let Unused = IsUnsent (g.G.Gate.mark c.args.gate.now) (g.G.Gate.mark c.args.gate.now) (Replies c.acknowledged_by.result) in
    subst (λ (p : PublishValue). LeavesPending (given_at (Whole (packet.Publish p)) c.args.now) pending pending Unused) c.p.view_is (topic_unread_pending _ c.in_default-topic.field-0 c.args.now pending pending Unused c.in_default-topic.is refl)

pub returns-in-Ok-Some-clause-pending : goal.returns-in-Ok-Some-clause-pending
returns-in-Ok-Some-clause-pending g c = by_submit _ c.in-Ok-Some.operation _ _ _ (g.G.Gate.pending c.args.gate.now) (g.G.Gate.pending c.submit-in-Ok-Some.new.gate) c.submit-in-Ok-Some.ensures.pending

pub returns-in-Ok-None-clause-pending : goal.returns-in-Ok-None-clause-pending
returns-in-Ok-None-clause-pending g c =
    let pending = g.G.Gate.pending c.args.gate.now in
    let Unused = IsUnsent (g.G.Gate.mark c.args.gate.now) (g.G.Gate.mark c.args.gate.now) (Replies c.acknowledged_by-in-Ok-None.result) in
    subst (λ (p : PublishValue). LeavesPending (given_at (Whole (packet.Publish p)) c.args.now) pending pending Unused) c.p.view_is (not_retained_pending _ c.in-Ok.topic c.args.now pending pending Unused c.in-Ok.is (sym c.in-Ok-None.ensures.ok ∙ c.in-Ok-None.field-0-is) refl)

pub returns-in-Err-clause-pending : goal.returns-in-Err-clause-pending
returns-in-Err-clause-pending g c = by_refusal (given_at (Whole (packet.Publish c.args.p)) c.args.now) _ _ (g.G.Gate.mark c.args.gate.now) c.effect_of_no_memory.result (g.G.Gate.pending c.args.gate.now) c.effect_of_no_memory.ensures

pub submit-requires-clause-change : goal.submit-requires-clause-change
submit-requires-clause-change g c =
    let is : IsChange (given_at (Whole (packet.Publish c.args.p)) c.args.now) c.in-Some.made = subst (λ (x : Option Operation). IfSome x (λ operation. IsChange (given_at (Whole (packet.Publish c.args.p)) c.args.now) operation)) c.in-Some.is c.requires.change in
    no_change_sweeps _ c.in-Some.made is

pub returns-in-Some-clause-row : goal.returns-in-Some-clause-row
returns-in-Some-clause-row g c =
    let o = c.args.self.now in
    let old = c.args.gate.now in
    let new = c.submit.new.gate in
    let is : IsChange (given_at (Whole (packet.Publish c.args.p)) c.args.now) c.in-Some.made = subst (λ (x : Option Operation). IfSome x (λ operation. IsChange (given_at (Whole (packet.Publish c.args.p)) c.args.now) operation)) c.in-Some.is c.requires.change in
    subst
    (λ (p : PublishValue). effect_before p o ≡ None → IsChange (given_at (Whole (packet.Publish p)) c.args.now) c.in-Some.made → GrowsAnswering g.G.Gate.stands g.G.Gate.mark old new (λ seen answered list. LeadsTo (given_at (Whole (packet.Publish p)) c.args.now) (point_at o seen (g.G.Gate.mark old)) answered c.submit.result (point_at c.submit.new.self list (g.G.Gate.mark new))))
    c.p.view_is
    (λ e i. let (may, topic, t, made) = its_change _ c.args.now c.in-Some.made i in submitted g.G.Gate.stands g.G.Gate.mark old new _ topic c.in-Some.made c.args.now _ o _ e t made c.submit.ensures.mark c.submit.ensures.sent c.submit.ensures.list) c.requires.before is

pub returns-in-Some-clause-pending : goal.returns-in-Some-clause-pending
returns-in-Some-clause-pending g c = by_submit _ c.in-Some.made _ _ _ (g.G.Gate.pending c.args.gate.now) (g.G.Gate.pending c.submit.new.gate) c.submit.ensures.pending

pub returns-in_default-topic-clause-certain : goal.returns-in_default-topic-clause-certain
returns-in_default-topic-clause-certain g c = λ none. replies _

pub returns-in-Ok-Some-clause-certain : goal.returns-in-Ok-Some-clause-certain
returns-in-Ok-Some-clause-certain g c = c.submit-in-Ok-Some.ensures.certain

pub returns-in-Ok-None-clause-certain : goal.returns-in-Ok-None-clause-certain
returns-in-Ok-None-clause-certain g c = λ none. replies _

pub returns-in-Err-clause-certain : goal.returns-in-Err-clause-certain
returns-in-Err-clause-certain g c = λ none. by_refusal_certain _ (g.G.Gate.pending c.args.gate.now) (g.G.Gate.mark c.args.gate.now) (g.G.Gate.mark c.args.gate.now) _ _ _ c.effect_of_no_memory.ensures none

pub returns-in-Some-clause-certain : goal.returns-in-Some-clause-certain
returns-in-Some-clause-certain g c = c.submit.ensures.certain
