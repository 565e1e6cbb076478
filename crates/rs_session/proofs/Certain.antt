-- Lemmas on a publication of which nothing was sent: it does not end its session as one that may become an entry.
use Rattle.std.proofs.Common.{◌≡◌, ℕ, Bool, true, false, List, [], ◌∷◌, refl, sym, ap, subst, ◌∙◌, Option, Some, None, Result, Ok, Err, arith}
use Rattle.std.specs.Prelude.{◌≢◌}
use Rattle.rs_topic.specs.declared.text.TopicFault.{TopicFault}
use Rattle.rs_topic.specs.declared.text.TopicFault.TheVariants as topic_fault
use Rattle.rs_packet.specs.Faults.{PacketFault}
use Rattle.rs_packet.specs.declared.packet.Packet.{Packet}
use Rattle.rs_packet.specs.declared.packet.Packet.TheVariants as packet
use Rattle.rs_packet.specs.declared.packet.Publish.{Publish}
use Rattle.rs_message.specs.declared.qos.Qos.{Qos}
use Rattle.rs_packet.specs.declared.reply.Reply.{Reply}
use Rattle.rs_message.specs.declared.entry.Entry.{Entry}
use Rattle.rs_message.specs.declared.entry.Operation.{Operation}
use Rattle.rs_message.specs.declared.fault.SubmitFault.{SubmitFault}
use Rattle.rs_message.specs.declared.fault.SubmitFault.TheVariants as submit_fault
use Rattle.rs_session.specs.declared.open.Open.{Open}
use Rattle.rs_session.specs.declared.open.Effect.{Effect}
use Rattle.rs_session.specs.declared.open.Effect.TheVariants.{Replies, Closes, Leaves}
use Rattle.rs_session.specs.declared.phase.Closing.{Closing}
use Rattle.rs_session.specs.declared.phase.Closing.TheVariants.{ByClient, ByServer}
use Rattle.rs_session.specs.declared.phase.Input.TheVariants.{Whole, Broken}
use Rattle.rs_session.specs.declared.phase.Phase.TheVariants as phase
use Rattle.rs_session.specs.declared.reason.ReasonCode.{ReasonCode}
use Rattle.rs_session.specs.declared.reason.ReasonCode.TheVariants.{Success, NoSubscriptionExisted, MalformedPacket, ProtocolError, ImplementationSpecificError, UnsupportedProtocolVersion, BadAuthenticationMethod, TopicFilterInvalid, TopicNameInvalid, PacketIdentifierNotFound, ReceiveMaximumExceeded, TopicAliasInvalid, PacketTooLarge, QuotaExceeded, SharedSubscriptionsNotSupported}
use Rattle.rs_session.specs.declared.session.Session.{Session}
use Rattle.rs_session.specs.Gate.{Mark, UsesIfOpen}
use Rattle.rs_session.specs.Points.{Given, given_at}
use Rattle.rs_session.specs.Reasons.{reason_value}
use Rattle.rs_session.specs.State.{State, gate_of, state_of}
use Rattle.rs_session.specs.Steps.{NoSerialUsed, effect_before, effect_of_alias, effect_of_id, effect_of_submit, effect_of_topic, effect_of_no_memory, topic_refusal}
use Rattle.rs_session.specs.Table.{acknowledged_by, unreleased_id, is_unreleased, is_one_too_many, state_after}
use Rattle.rs_session.proofs.Expecting.{IsNoPublish, not_broken, whole_is}

pub replies : (r : Option Reply) → Replies r ≢ Closes QuotaExceeded
replies r e = absurd (cc (e))

-- ---- before the change is used

no_topic_exceeds : (topic : Result (List ℕ) TopicFault) → topic_refusal topic ≢ Some QuotaExceeded
no_topic_exceeds (Ok topic) e = absurd (cc (e))
no_topic_exceeds (Err topic_fault.Empty) e = absurd (cc (e))
no_topic_exceeds (Err topic_fault.TooLong) e = absurd (cc (e))
no_topic_exceeds (Err topic_fault.NotUtf8) e = absurd (cc (e))
no_topic_exceeds (Err topic_fault.HasNul) e = absurd (cc (e))
no_topic_exceeds (Err topic_fault.HasWildcard) e = absurd (cc (e))
no_topic_exceeds (Err topic_fault.BadWildcard) e = absurd (cc (e))
no_topic_exceeds (Err topic_fault.TooManyLevels) e = absurd (cc (e))
no_topic_exceeds (Err topic_fault.Shared) e = absurd (cc (e))
no_topic_exceeds (Err topic_fault.NoMemory) e = absurd (cc (e))

none_exceeds : (alias : Option ℕ) (refusal : Option ReasonCode) (unreleased many : Bool) (again : Option Reply) → refusal ≢ Some QuotaExceeded
    → effect_of_alias alias (effect_of_topic refusal (effect_of_id unreleased many again)) ≢ Some (Closes QuotaExceeded)
none_exceeds (Some alias) refusal unreleased many again other e = absurd (cc (e))
none_exceeds None (Some code) unreleased many again other e = other (ap (λ (x : ReasonCode). Some x) (let same : code ≡ QuotaExceeded = cc (e) in same))
none_exceeds None None true many again other e = absurd (cc (e))
none_exceeds None None false true again other e = absurd (cc (e))
none_exceeds None None false false again other e = absurd (cc (e))

pub before_use_certain : (p : Publish) (o : Open) (effect : Effect) → effect_before p o ≡ Some effect → effect ≢ Closes QuotaExceeded
before_use_certain p o effect before e =
    none_exceeds p.alias (topic_refusal p.topic) (is_unreleased (unreleased_id p.qos p.id) o.inbound) (is_one_too_many (unreleased_id p.qos p.id) o.inbound) (acknowledged_by p.qos p.id Success) (no_topic_exceeds p.topic)
    (before ∙ ap (λ (x : Effect). Some x) e)

-- ---- a submit

by_answer_certain : (answer : Result (Unit {0}) SubmitFault) (qos : Qos) (id : Option ℕ) (old new : Mark) → UsesIfOpen old new answer → new.serial ≡ old.serial → effect_of_submit answer qos id ≢ Closes QuotaExceeded
by_answer_certain (Ok done) qos id old new used same e = replies _ e
by_answer_certain (Err submit_fault.Full) qos id old new used same e = replies _ e
by_answer_certain (Err submit_fault.NoMemory) qos id old new used same e = replies _ e
by_answer_certain (Err submit_fault.Open) qos id old new used same e = absurd (omega (arith, used, same))
by_answer_certain (Err submit_fault.Strange) qos id old new used same e = absurd (cc (e))
by_answer_certain (Err submit_fault.Closed) qos id old new used same e = absurd (cc (e))

pub by_submit_certain : (answer : Result (Unit {0}) SubmitFault) (qos : Qos) (id : Option ℕ) (old new : Mark) (effect : Effect) → effect ≡ effect_of_submit answer qos id → UsesIfOpen old new answer → new.serial ≡ old.serial
    → effect ≢ Closes QuotaExceeded
by_submit_certain answer qos id old new effect is used same e = by_answer_certain answer qos id old new used same (sym is ∙ e)

-- ---- no memory for the change

some_none : (operation : Operation) (operations : List Operation) → operation ∷ operations ≢ []
some_none operation operations e = absurd (cc (e))

unmade : (pending : List Operation) (qos : Qos) (id : Option ℕ) → pending ≡ [] → effect_of_no_memory pending qos id ≢ Closes QuotaExceeded
unmade [] qos id none e = replies _ e
unmade (operation ∷ operations) qos id none e = some_none operation operations none

pub by_refusal_certain : (stands : List Entry → Type 0) (pending : List Operation) (old new : Mark) (qos : Qos) (id : Option ℕ) (effect : Effect) → effect ≡ effect_of_no_memory pending qos id → NoSerialUsed stands pending old new → effect ≢ Closes QuotaExceeded
by_refusal_certain stands pending old new qos id effect is none e = unmade pending qos id none.2 (sym is ∙ e)

-- ---- a session

pub no_publish : (given : Given) (other : Packet) (now : ℕ) (x : Publish) → given_at (Whole other) now ≡ given → IsNoPublish other → given.input ≢ Whole (packet.Publish x)
no_publish given other now x is another e = subst IsNoPublish (whole_is _ _ (ap (λ (g : Given). g.input) is ∙ e)) another

pub no_packet : (given : Given) (f : PacketFault) (now : ℕ) (p : Packet) → given_at (Broken f) now ≡ given → given.input ≢ Whole p
no_packet given f now p is e = not_broken p f (ap (λ (g : Given). g.input) is ∙ e)

code_is : (code : ReasonCode) → reason_value code ≡ reason_value QuotaExceeded → code ≡ QuotaExceeded
code_is QuotaExceeded e = refl
code_is Success e = absurd (omega (arith, e))
code_is NoSubscriptionExisted e = absurd (omega (arith, e))
code_is MalformedPacket e = absurd (omega (arith, e))
code_is ProtocolError e = absurd (omega (arith, e))
code_is ImplementationSpecificError e = absurd (omega (arith, e))
code_is UnsupportedProtocolVersion e = absurd (omega (arith, e))
code_is BadAuthenticationMethod e = absurd (omega (arith, e))
code_is TopicFilterInvalid e = absurd (omega (arith, e))
code_is TopicNameInvalid e = absurd (omega (arith, e))
code_is PacketIdentifierNotFound e = absurd (omega (arith, e))
code_is ReceiveMaximumExceeded e = absurd (omega (arith, e))
code_is TopicAliasInvalid e = absurd (omega (arith, e))
code_is PacketTooLarge e = absurd (omega (arith, e))
code_is SharedSubscriptionsNotSupported e = absurd (omega (arith, e))

server_is : (a b : ℕ) → phase.Ended (ByServer a) ≡ phase.Ended (ByServer b) → a ≡ b
server_is a b e = cc (e)

by_client : (a : ℕ) → phase.Ended ByClient ≢ phase.Ended (ByServer a)
by_client a e = absurd (cc (e))

pub open_ended : (o : Open) (closing : Closing) → phase.Open o ≢ phase.Ended closing
open_ended o closing e = absurd (cc (e))

pub open_before : (o : Open) → phase.Open o ≢ phase.Before
open_before o e = absurd (cc (e))

not_ended : (effect : Effect) (s : State) (o : Open) → effect ≢ Closes QuotaExceeded → (state_after effect s o).phase ≢ phase.Ended (ByServer (reason_value QuotaExceeded))
not_ended (Replies r) s o other e = open_ended o _ e
not_ended (Closes code) s o other e = other (ap (λ (x : ReasonCode). Closes x) (code_is code (server_is _ _ e)))
not_ended Leaves s o other e = by_client _ e

pub took_certain : {G : Type 0} (stands : G → List Entry → Type 0) (pending : G → List Operation) (mark : G → Mark) (old mid new : Session G) (left : Open) (s : State) (gate : G) (effect : Effect)
    → new ≡ mid → gate_of mid ≡ gate → state_of mid ≡ state_after effect s left → (NoSerialUsed (stands (gate_of old)) (pending (gate_of old)) (mark (gate_of old)) (mark gate) → effect ≢ Closes QuotaExceeded)
    → NoSerialUsed (stands (gate_of old)) (pending (gate_of old)) (mark (gate_of old)) (mark (gate_of new)) → (state_of new).phase ≢ phase.Ended (ByServer (reason_value QuotaExceeded))
took_certain {G} stands pending mark old mid new left s gate effect e g d certain none is =
    let same : gate_of new ≡ gate = ap (λ (x : Session G). gate_of x) e ∙ g in
    not_ended effect s left (certain (subst (λ (x : G). NoSerialUsed (stands (gate_of old)) (pending (gate_of old)) (mark (gate_of old)) (mark x)) same none))
    (sym (ap (λ (x : State). x.phase) d) ∙ (sym (ap (λ (x : Session G). (state_of x).phase) e) ∙ is))
