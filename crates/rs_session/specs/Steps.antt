-- What the methods of a session lead to, apart from the packet that they serve.
use Rattle.std.specs.Prelude.{◌≡◌, ℕ, ◌<◌, ◌≤◌, ◌⊎◌, List, [], ◌∷◌, Bool, true, false, length, Option, Some, None, Result, Ok, Err}
use Rattle.rs_topic.specs.declared.text.TopicFault.{TopicFault}
use Rattle.rs_topic.specs.declared.text.TopicFault.TheVariants as topic_fault
use Rattle.rs_packet.specs.declared.packet.Publish.{Publish}
use Rattle.rs_message.specs.declared.qos.Qos.{Qos}
use Rattle.rs_packet.specs.declared.reply.Reply.{Reply}
use Rattle.rs_packet.specs.Replies.{reply_bytes}
use Rattle.rs_message.specs.declared.entry.Entry.{Entry}
use Rattle.rs_message.specs.declared.entry.Operation.{Operation}
use Rattle.rs_message.specs.declared.fault.SubmitFault.{SubmitFault}
use Rattle.rs_message.specs.declared.fault.SubmitFault.TheVariants.{Full, NoMemory, Strange, Closed}
use Rattle.rs_message.specs.declared.fault.SubmitFault.TheVariants as submit_fault
use Rattle.rs_session.specs.Gate.{IsSubmitted, Mark}
use Rattle.rs_session.specs.Points.{Point}
use Rattle.rs_session.specs.Reasons.{reason_value}
use Rattle.rs_session.specs.declared.reason.ReasonCode.{ReasonCode}
use Rattle.rs_session.specs.declared.reason.ReasonCode.TheVariants.{Success, BadAuthenticationMethod, ImplementationSpecificError, QuotaExceeded, ReceiveMaximumExceeded, TopicAliasInvalid}
use Rattle.rs_session.specs.State.{State, opened, ended}
use Rattle.rs_session.specs.Table.{acknowledged_by, unreleased_id, unreleased_with, is_unreleased, is_one_too_many, topic_reason}
use Rattle.rs_session.specs.declared.open.Open.{Open}
use Rattle.rs_session.specs.declared.open.Effect.{Effect}
use Rattle.rs_session.specs.declared.open.Effect.TheVariants.{Replies, Closes, Leaves}
use Rattle.rs_session.specs.declared.phase.Closing.TheVariants.{ByServer}

-- the code of a CONNECT with an Authentication Method, or else with a will
abbrev pub connect_refusal : Bool → Bool → Option ReasonCode
connect_refusal true will = Some BadAuthenticationMethod
connect_refusal false true = Some ImplementationSpecificError
connect_refusal false false = None

-- the session is open, or the CONNACK was too long
abbrev pub IsAccepted : Reply → ℕ → Open → State → Option Reply → State → Type 0
IsAccepted connack maximum open_ old due new =
    ((length (reply_bytes connack) ≤ maximum) × (due ≡ Some connack) × (new ≡ opened old open_))
    ⊎ ((maximum < length (reply_bytes connack)) × (due ≡ None) × (new ≡ ended old (ByServer (reason_value Success))))

-- the code of a topic that is not a topic name
abbrev pub fault_refusal : TopicFault → Option ReasonCode
fault_refusal topic_fault.NoMemory = None
fault_refusal fault = Some (topic_reason fault)

abbrev pub topic_refusal : Result (List ℕ) TopicFault → Option ReasonCode
topic_refusal (Ok topic) = None
topic_refusal (Err fault) = fault_refusal fault

-- by its identifier: one that is not released yet, then one too many
abbrev pub effect_of_id : Bool → Bool → Option Reply → Option Effect
effect_of_id true many again = Some (Replies again)
effect_of_id false true again = Some (Closes ReceiveMaximumExceeded)
effect_of_id false false again = None

-- by a topic that is no topic name
abbrev pub effect_of_topic : Option ReasonCode → Option Effect → Option Effect
effect_of_topic (Some code) rest = Some (Closes code)
effect_of_topic None rest = rest

-- by a topic alias
abbrev pub effect_of_alias : Option ℕ → Option Effect → Option Effect
effect_of_alias (Some alias) rest = Some (Closes TopicAliasInvalid)
effect_of_alias None rest = rest

-- what a PUBLISH leads to before its topic is used: a topic alias, then a topic that is not a topic name, then
-- its identifier
abbrev pub effect_before : Publish → Open → Option Effect
effect_before p o =
    effect_of_alias p.alias (effect_of_topic (topic_refusal p.topic)
    (effect_of_id (is_unreleased (unreleased_id p.qos p.id) o.inbound) (is_one_too_many (unreleased_id p.qos p.id) o.inbound)
    (acknowledged_by p.qos p.id Success)))

-- what a submit leads to, by what became of the change
abbrev pub effect_of_submit : Result (Unit {0}) SubmitFault → Qos → Option ℕ → Effect
effect_of_submit (Ok done) qos id = Replies (acknowledged_by qos id Success)
effect_of_submit (Err Full) qos id = Replies (acknowledged_by qos id QuotaExceeded)
effect_of_submit (Err NoMemory) qos id = Replies (acknowledged_by qos id QuotaExceeded)
effect_of_submit (Err submit_fault.Open) qos id = Closes QuotaExceeded
effect_of_submit (Err Strange) qos id = Closes ImplementationSpecificError
effect_of_submit (Err Closed) qos id = Closes ImplementationSpecificError

-- what a submit leads to, with what stands then
abbrev pub IsConcluded : Operation → Qos → Option ℕ → Point Open → Effect → Point Open → Type 0
IsConcluded operation qos id from effect to =
    (IsSubmitted operation from.mark to.mark to.seen × (effect ≡ Replies (acknowledged_by qos id Success))
    × (to.state ≡ record from.state { inbound = unreleased_with (unreleased_id qos id) from.state.inbound }))
    ⊎ (((effect ≡ Replies (acknowledged_by qos id QuotaExceeded)) × (to.state ≡ from.state))
    ⊎ (((effect ≡ Closes QuotaExceeded) × (to.state ≡ from.state))
    ⊎ ((effect ≡ Closes ImplementationSpecificError) × (to.state ≡ from.state))))

-- what no memory for the change of a PUBLISH leads to, by the changes that are expected; it may be one that was sent ahead, and may
-- become an entry
abbrev pub effect_of_no_memory : List Operation → Qos → Option ℕ → Effect
effect_of_no_memory [] qos id = Replies (acknowledged_by qos id QuotaExceeded)
effect_of_no_memory (operation ∷ operations) qos id = Closes QuotaExceeded

-- A gate that stands for some list used no serial, and expected no change before.
abbrev pub NoSerialUsed : (List Entry → Type 0) → List Operation → Mark → Mark → Type 0
NoSerialUsed stands pending old new = (seen : List Entry) × stands seen × (pending ≡ []) × (new.serial ≡ old.serial)

-- an effect that ends the session
abbrev pub IsLast : Effect → Type 0
IsLast (Replies r) = ⊥
IsLast (Closes code) = Unit {0}
IsLast Leaves = Unit {0}

-- nothing was sent, and the session ends
abbrev pub IsUnsent : Mark → Mark → Effect → Type 0
IsUnsent old new effect = (new ≡ old) × IsLast effect

-- of the changes that were expected, none is left; or this was the first, and the rest is left; or all are
abbrev pub TakesPendingBy : Operation → Mark → Mark → Effect → List Operation → List Operation → Type 0
TakesPendingBy operation old_mark new_mark effect old new = (new ≡ [])
    ⊎ ((old ≡ operation ∷ new) ⊎ ((new ≡ old) × IsUnsent old_mark new_mark effect))
