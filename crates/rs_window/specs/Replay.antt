-- What holds of every list of calls of a window: sections 3.3.1.3, 3.8.4, 4.4, 4.6 and 4.9 of OASIS MQTT Version 5.0.
use Rattle.std.specs.Prelude.{◌≡◌, ◌≢◌, ℕ, ◌==◌, if◌then◌else◌, Option, Some, None, IfSome, option_and_then, Ok, Err, List, [], ◌∷◌, ◌++◌, map}
use Rattle.std.specs.FinMap as finite
use Rattle.rs_packet.specs.Grammar.{IdFits}
use Rattle.rs_message.specs.declared.qos.Qos.{Qos}
use Rattle.rs_message.specs.declared.qos.Qos.TheVariants.{AtMostOnce}
use Rattle.rs_window.specs.declared.identifiers.Kind.{Kind}
use Rattle.rs_window.specs.declared.waiting.Waiting.{Waiting}
use Rattle.rs_window.specs.Identifiers.{Kinds, kind_sent}
use Rattle.rs_window.specs.State.{State}
use Rattle.rs_window.specs.Waiting.{lesser_qos, granted_at, Carries, IsDropped, AllDropped}
use Rattle.rs_window.specs.Calls.{Call, Queue, Next, Acknowledge, kind_acknowledged, Step}

-- one call after the other
abbrev pub Run : State → List Call → State → Type 0
Run from [] to = to ≡ from
Run from (call ∷ calls) to = (mid : State) × Step from call mid × Run mid calls to

-- ---- what an identifier waits for, read from the calls

-- after a PUBLISH was given at this QoS, with this identifier or none
abbrev pub kind_given : ℕ → Qos → Option ℕ → Option Kind → Option Kind
kind_given id quality None kind = kind
kind_given id quality (Some given) kind = if id == given then kind_sent quality else kind

-- A call concerns an identifier if it gave a PUBLISH with it, or is an acknowledgement of it. After a PUBLISH
-- its QoS decides what the identifier waits for; after an acknowledgement, what it waited for before. No
-- other call changes it.
abbrev pub kind_by : ℕ → Call → Option Kind → Option Kind
kind_by id (Queue found granted subscription answer) kind = kind
kind_by id (Next now None) kind = kind
kind_by id (Next now (Some p)) kind = kind_given id p.qos p.id kind
kind_by id (Acknowledge ack other answer) kind = if id == other then option_and_then (kind_acknowledged ack) kind else kind

-- what it waits for after these calls, the last of them last
abbrev pub kind_from : ℕ → Option Kind → List Call → Option Kind
kind_from id kind [] = kind
kind_from id kind (call ∷ calls) = kind_from id (kind_by id call kind) calls

-- nothing at first
abbrev pub kind_after : ℕ → List Call → Option Kind
kind_after id calls = kind_from id None calls

-- a call gave a PUBLISH with this identifier, or is an acknowledgement of it
abbrev pub Concerns : ℕ → Call → Type 0
Concerns id (Queue found granted subscription answer) = ⊥
Concerns id (Next now None) = ⊥
Concerns id (Next now (Some p)) = p.id ≡ Some id
Concerns id (Acknowledge ack other answer) = other ≡ id

abbrev pub NoneConcerns : ℕ → List Call → Type 0
NoneConcerns id [] = Unit {0}
NoneConcerns id (call ∷ calls) = ¬ (Concerns id call) × NoneConcerns id calls

-- these are the identifiers that wait for an acknowledgement, each with what it waits for
abbrev pub AreUnacknowledged : List Call → Kinds → Type 0
AreUnacknowledged calls kinds = (id : ℕ) → finite.get kinds id ≡ kind_after id calls

-- ---- what was queued, and what became of it

-- what a call brought to what waits
abbrev pub brought : Call → List Waiting
brought (Queue found granted subscription (Ok done)) = map (granted_at granted subscription) found
brought (Queue found granted subscription (Err fault)) = []
brought (Next now given) = []
brought (Acknowledge ack id answer) = []

abbrev pub queued : List Call → List Waiting
queued [] = []
queued (call ∷ calls) = brought call ++ queued calls

-- what waits no more after a call: in a `next`, some that may be dropped at its time, and then
-- the one that its PUBLISH carries
abbrev pub Leaves : ℕ → Call → List Waiting → Type 0
Leaves packet_maximum (Queue found granted subscription answer) gone = gone ≡ []
Leaves packet_maximum (Next now None) gone = AllDropped packet_maximum now gone
Leaves packet_maximum (Next now (Some p)) gone = (dropped : List Waiting) × (w : Waiting) × (gone ≡ dropped ++ w ∷ [])
    × AllDropped packet_maximum now dropped × Carries packet_maximum now w p
Leaves packet_maximum (Acknowledge ack id answer) gone = gone ≡ []

-- all that waits no more after these calls, in order
abbrev pub HasLeft : ℕ → List Call → List Waiting → Type 0
HasLeft packet_maximum [] prefix = prefix ≡ []
HasLeft packet_maximum (call ∷ calls) prefix = (gone : List Waiting) × (rest : List Waiting) × (prefix ≡ gone ++ rest)
    × Leaves packet_maximum call gone × HasLeft packet_maximum calls rest

-- 4.6: what was queued is a prefix, each of it given once or dropped, and then what waits
pub record IsReplayed (packet_maximum : ℕ) (calls : List Call) (waiting : List Waiting) : Type 0 where
  pub prefix : List Waiting
  pub whole : queued calls ≡ prefix ++ waiting
  pub leaves : HasLeft packet_maximum calls prefix

-- ---- single calls of a run, after the calls before

-- 2.2.1: at QoS 0 no identifier; else one from 1 to 65,535 that waits for no acknowledgement
pub record IsFreeFor (before : List Call) (quality : Qos) (id : Option ℕ) : Type 0 where
  pub fits : IdFits quality id
  pub free : IfSome id (λ n. kind_after n before ≡ None)

-- 4.9: nothing waits, or the first message needs an identifier, is not to be dropped, and the quota is used up
abbrev pub MayGiveNothing : ℕ → ℕ → Kinds → ℕ → List Waiting → Type 0
MayGiveNothing packet_maximum now kinds quota [] = Unit {0}
MayGiveNothing packet_maximum now kinds quota (w ∷ ws) = (lesser_qos w ≢ AtMostOnce) × ¬ (IsDropped packet_maximum now w)
    × (finite.len kinds ≡ quota)
