-- Lemmas on changes that a gate was told to expect.
use Rattle.std.proofs.Common.{◌≡◌, ℕ, Bool, true, false, ◌&&◌, List, [], ◌∷◌, refl, sym, subst, ap, ◌∙◌, inl, inr, ◌⊎◌, Option, Some, None, is_some, Result, Ok, Err}
use Rattle.std.specs.Prelude.{IfSome, not}
use Rattle.rs_topic.specs.declared.text.TopicFault.{TopicFault}
use Rattle.rs_packet.specs.Faults.{PacketFault}
use Rattle.rs_packet.specs.declared.packet.Packet.{Packet}
use Rattle.rs_packet.specs.declared.packet.Packet.TheVariants as packet
use Rattle.rs_packet.specs.declared.packet.Publish.{Publish}
use Rattle.rs_message.specs.declared.qos.Qos.{Qos}
use Rattle.rs_message.specs.declared.qos.Qos.TheVariants.{AtMostOnce, AtLeastOnce, ExactlyOnce}
use Rattle.rs_message.specs.declared.entry.Operation.{Operation}
use Rattle.rs_message.specs.Messages.{is_sweep}
use Rattle.rs_message.specs.declared.fault.SubmitFault.{SubmitFault}
use Rattle.rs_session.specs.declared.open.Open.{Open}
use Rattle.rs_session.specs.declared.open.Effect.{Effect}
use Rattle.rs_session.specs.declared.open.Effect.TheVariants.{Replies, Closes, Leaves}
use Rattle.rs_session.specs.declared.phase.Input.{Input}
use Rattle.rs_session.specs.declared.phase.Input.TheVariants.{Whole, Broken}
use Rattle.rs_session.specs.declared.phase.Step.TheVariants.{End}
use Rattle.rs_session.specs.declared.reason.ReasonCode.TheVariants.{Success}
use Rattle.rs_session.specs.declared.session.Session.{Session}
use Rattle.rs_session.specs.Gate.{Mark, TakesPending}
use Rattle.rs_session.specs.Points.{Given, given_at}
use Rattle.rs_session.specs.State.{State, gate_of, state_of, step_of}
use Rattle.rs_session.specs.Steps.{IsLast, IsUnsent, TakesPendingBy, effect_before, effect_of_alias, effect_of_id, effect_of_submit, effect_of_topic, effect_of_no_memory, topic_refusal}
use Rattle.rs_session.specs.Table.{acknowledged_by, change, unreleased_id, is_unreleased, is_one_too_many, state_after}
use Rattle.rs_session.proofs.Submitting.{no_sweep}
use Rattle.rs_session.specs.Pending.{HasChange, IsChange, LeavesPending, is_low, is_topic, may_be_announced}

pub whole_is : (p q : Packet) → Whole p ≡ Whole q → p ≡ q
whole_is p q e = cc

publish_is : (p q : Publish) → packet.Publish p ≡ packet.Publish q → p ≡ q
publish_is p q e = cc

pub not_broken : (p : Packet) (f : PacketFault) → ◌≡◌ {A = Input} (Broken f) (Whole p) → ⊥
not_broken p f e = absurd (cc)

-- its change, by the publication
pub its_change : (p : Publish) (now : ℕ) (operation : Operation) → IsChange (given_at (Whole (packet.Publish p)) now) operation
    → (may_be_announced p ≡ true) × (topic : List ℕ) × (p.topic ≡ Ok topic) × (change p topic now ≡ Some operation)
its_change p now operation (q, topic, e, may, t, c) =
    let same : q ≡ p = sym (publish_is p q (whole_is _ _ e)) in
    (subst (λ (x : Publish). may_be_announced x ≡ true) same may, topic, subst (λ (x : Publish). x.topic ≡ Ok topic) same t, subst (λ (x : Publish). change x topic now ≡ Some operation) same c)

-- none is a Sweep
pub no_change_sweeps : (given : Given) (operation : Operation) → IsChange given operation → is_sweep operation ≡ false
no_change_sweeps given operation (p, topic, i, may, t, made) = no_sweep _ _ _ _ (sym made)

pub has_change : (given : Given) (change : Option Operation) → is_some change ≡ true → IfSome change (λ operation. IsChange given operation) → HasChange given
has_change given None some is = absurd (cc)
has_change given (Some operation) some is = (operation, is)

-- ---- what may be announced leads to nothing before its topic is used

passes : (retain : Bool) (qos : Qos) (alias : Option ℕ) (topic : Result (List ℕ) TopicFault) (id : Option ℕ) (o : Open) → (retain && (is_low qos && (not (is_some alias) && is_topic topic))) ≡ true
    → effect_of_alias alias (effect_of_topic (topic_refusal topic) (effect_of_id (is_unreleased (unreleased_id qos id) o.inbound) (is_one_too_many (unreleased_id qos id) o.inbound) (acknowledged_by qos id Success))) ≡ None
passes false qos alias topic id o h = absurd (cc)
passes true ExactlyOnce alias topic id o h = absurd (cc)
passes true AtMostOnce (Some a) topic id o h = absurd (cc)
passes true AtMostOnce None (Err f) id o h = absurd (cc)
passes true AtMostOnce None (Ok t) id o h = refl
passes true AtLeastOnce (Some a) topic id o h = absurd (cc)
passes true AtLeastOnce None (Err f) id o h = absurd (cc)
passes true AtLeastOnce None (Ok t) id o h = refl

passes_before : (p : Publish) (o : Open) → may_be_announced p ≡ true → effect_before p o ≡ None
passes_before p o h = passes p.retain p.qos p.alias p.topic p.id o h

-- ---- what is left

pub leaves_weaker : (given : Given) (old new : List Operation) (S T : Type 0) → (S → T) → LeavesPending given old new S → LeavesPending given old new T
leaves_weaker given [] new S T f h = h
leaves_weaker given (operation ∷ operations) new S T f h = λ is.
    elim (h is) as (λ h. (new ≡ operations) ⊎ ((new ≡ []) ⊎ ((new ≡ operation ∷ operations) × T))) [
      | inl e ↦ inl e
      | inr h ↦ elim h as (λ h. (new ≡ operations) ⊎ ((new ≡ []) ⊎ ((new ≡ operation ∷ operations) × T))) [
        | inl e ↦ inr (inl e)
        | inr k ↦ inr (inr (k.0, f k.1))
      ]
    ]

-- all are left
pub all_left : (given : Given) (old new : List Operation) (S : Type 0) → new ≡ old → ((operation : Operation) → IsChange given operation → S) → LeavesPending given old new S
all_left given [] new S e f = e
all_left given (operation ∷ operations) new S e f = λ is. inr (inr (e, f operation is))

-- another packet
abbrev pub IsNoPublish : Packet → Type 0
IsNoPublish (packet.Publish p) = ⊥
IsNoPublish p = Unit {0}

-- another packet changes nothing
pub by_another : (given : Given) (other : Packet) (now : ℕ) (old new : List Operation) (S : Type 0) → given_at (Whole other) now ≡ given → IsNoPublish other → new ≡ old → LeavesPending given old new S
by_another given other now old new S is another e =
    all_left _ old new S e (λ operation (q, topic, i, may, t, made). absurd (subst IsNoPublish (whole_is _ _ (ap (λ (x : Given). x.input) is ∙ i)) another))

pub by_fault : (given : Given) (f : PacketFault) (now : ℕ) (old new : List Operation) (S : Type 0) → given_at (Broken f) now ≡ given → new ≡ old → LeavesPending given old new S
by_fault given f now old new S is e = all_left _ old new S e (λ operation (q, topic, i, may, t, made). absurd (not_broken _ f (ap (λ (x : Given). x.input) is ∙ i)))

pub by_given : (as_read given : Given) (old new : List Operation) (S : Type 0) → as_read ≡ given → LeavesPending as_read old new S → LeavesPending given old new S
by_given as_read given old new S is h = subst (λ (x : Given). LeavesPending x old new S) is h

some_none : (x : Effect) → Some x ≡ None → ⊥
some_none x e = absurd (cc)

pub before_use_pending : (p : Publish) (o : Open) (effect : Effect) (now : ℕ) (old new : List Operation) (S : Type 0) → effect_before p o ≡ Some effect → new ≡ old → LeavesPending (given_at (Whole (packet.Publish p)) now) old new S
before_use_pending p o effect now old new S b e = all_left _ old new S e (λ operation is. absurd (some_none effect (sym b ∙ passes_before p o (its_change p now operation is).0)))

err_ok : (topic : List ℕ) (f : TopicFault) → ◌≡◌ {A = Result (List ℕ) TopicFault} (Err f) (Ok topic) → ⊥
err_ok topic f e = absurd (cc)

pub topic_unread_pending : (p : Publish) (f : TopicFault) (now : ℕ) (old new : List Operation) (S : Type 0) → p.topic ≡ Err f → new ≡ old → LeavesPending (given_at (Whole (packet.Publish p)) now) old new S
topic_unread_pending p f now old new S t e = all_left _ old new S e (λ operation is. absurd (err_ok _ f (sym t ∙ (its_change p now operation is).2)))

ok_is : (a b : List ℕ) → ◌≡◌ {A = Result (List ℕ) TopicFault} (Ok a) (Ok b) → a ≡ b
ok_is a b e = cc

no_change : (operation : Operation) → ◌≡◌ {A = Option Operation} None (Some operation) → ⊥
no_change operation e = absurd (cc)

pub not_retained_pending : (p : Publish) (topic : List ℕ) (now : ℕ) (old new : List Operation) (S : Type 0) → p.topic ≡ Ok topic → change p topic now ≡ None → new ≡ old → LeavesPending (given_at (Whole (packet.Publish p)) now) old new S
not_retained_pending p topic now old new S t c e =
    all_left _ old new S e
    (λ operation is.
    let (may, other, u, made) = its_change p now operation is in
    absurd (no_change operation (sym c ∙ ap (λ (x : List ℕ). change p x now) (ok_is topic other (sym t ∙ u)) ∙ made)))

-- ---- a submit

pub by_answer : (operation : Operation) (old_mark new_mark : Mark) (answer : Result (Unit {0}) SubmitFault) (qos : Qos) (id : Option ℕ) (effect : Effect) (old new : List Operation)
    → effect ≡ effect_of_submit answer qos id → TakesPending operation old_mark new_mark answer old new → TakesPendingBy operation old_mark new_mark effect old new
by_answer operation old_mark new_mark answer qos id effect old new d h =
    elim h as (λ h. TakesPendingBy operation old_mark new_mark effect old new) [
      | inl e ↦ inl e
      | inr h ↦ elim h as (λ h. TakesPendingBy operation old_mark new_mark effect old new) [
        | inl e ↦ inr (inl e)
        | inr k ↦ inr (inr (k.0, (k.2, subst IsLast (sym (d ∙ ap (λ (x : Result (Unit {0}) SubmitFault). effect_of_submit x qos id) k.1)) tt)))
      ]
    ]

none_is : (operation : Operation) (operations : List Operation) → [] ≡ operation ∷ operations → ⊥
none_is operation operations e = absurd (cc)

rest_is : (a b : Operation) (rest more : List Operation) → a ∷ rest ≡ b ∷ more → more ≡ rest
rest_is a b rest more e = cc

pub by_submit : (given : Given) (operation : Operation) (old_mark new_mark : Mark) (effect : Effect) (old new : List Operation) → TakesPendingBy operation old_mark new_mark effect old new → LeavesPending given old new (IsUnsent old_mark new_mark effect)
by_submit given operation old_mark new_mark effect [] new h =
    elim h as (λ h. new ≡ []) [
      | inl e ↦ e
      | inr h ↦ elim h as (λ h. new ≡ []) [
        | inl e ↦ absurd (none_is _ _ e)
        | inr k ↦ k.0
      ]
    ]
by_submit given operation old_mark new_mark effect (first ∷ rest) new h = λ is.
    elim h as (λ h. (new ≡ rest) ⊎ ((new ≡ []) ⊎ ((new ≡ first ∷ rest) × IsUnsent old_mark new_mark effect))) [
      | inl e ↦ inr (inl e)
      | inr h ↦ elim h as (λ h. (new ≡ rest) ⊎ ((new ≡ []) ⊎ ((new ≡ first ∷ rest) × IsUnsent old_mark new_mark effect))) [
        | inl e ↦ inl (rest_is _ _ _ _ e)
        | inr k ↦ inr (inr k)
      ]
    ]

-- no memory for the change
pub by_refusal : (given : Given) (qos : Qos) (id : Option ℕ) (mark : Mark) (effect : Effect) (old : List Operation) → effect ≡ effect_of_no_memory old qos id → LeavesPending given old old (IsUnsent mark mark effect)
by_refusal given qos id mark effect [] d = refl
by_refusal given qos id mark effect (first ∷ rest) d = λ is. inr (inr (refl, (refl, subst IsLast (sym d) tt)))

-- ---- a session

pub stays_pending : {G : Type 0} (pending : G → List Operation) (mark : G → Mark) (given : Given) (old mid new : Session G) → new ≡ mid → gate_of mid ≡ gate_of old → ((x : Publish) → given.input ≡ Whole (packet.Publish x) → step_of (state_of mid).phase ≡ End)
    → LeavesPending given (pending (gate_of old)) (pending (gate_of new)) ((mark (gate_of new) ≡ mark (gate_of old)) × (step_of (state_of new).phase ≡ End))
stays_pending {G} pending mark given old mid new e g f =
    subst (λ (s : Session G). LeavesPending given (pending (gate_of old)) (pending (gate_of s)) ((mark (gate_of s) ≡ mark (gate_of old)) × (step_of (state_of s).phase ≡ End))) (sym e)
    (all_left _ _ _ _ (ap pending g) (λ operation (x, topic, i, may, t, made). (ap mark g, f x i)))

last_ends : (effect : Effect) (s : State) (o : Open) → IsLast effect → step_of (state_after effect s o).phase ≡ End
last_ends (Replies r) s o h = absurd h
last_ends (Closes code) s o h = refl
last_ends Leaves s o h = refl

pub took_pending : {G : Type 0} (pending : G → List Operation) (mark : G → Mark) (given : Given) (old mid new : Session G) (left : Open) (s : State) (gate : G) (effect : Effect) → new ≡ mid → gate_of mid ≡ gate → state_of mid ≡ state_after effect s left
    → LeavesPending given (pending (gate_of old)) (pending gate) (IsUnsent (mark (gate_of old)) (mark gate) effect)
    → LeavesPending given (pending (gate_of old)) (pending (gate_of new)) ((mark (gate_of new) ≡ mark (gate_of old)) × (step_of (state_of new).phase ≡ End))
took_pending {G} pending mark given old mid new left s gate effect e g d h =
    subst (λ (x : Session G). LeavesPending given (pending (gate_of old)) (pending (gate_of x)) ((mark (gate_of x) ≡ mark (gate_of old)) × (step_of (state_of x).phase ≡ End))) (sym e)
    (leaves_weaker given (pending (gate_of old)) (pending (gate_of mid)) (IsUnsent (mark (gate_of old)) (mark (gate_of mid)) effect) _
    (λ k. (k.0, ap (λ (x : State). step_of x.phase) d ∙ last_ends effect s left k.1))
    (subst (λ (x : G). LeavesPending given (pending (gate_of old)) (pending x) (IsUnsent (mark (gate_of old)) (mark x) effect)) (sym g) h))
