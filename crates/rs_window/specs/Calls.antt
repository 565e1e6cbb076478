-- What each call of a window does: sections 4.3, 4.4 and 4.9 of OASIS MQTT Version 5.0.
use Rattle.std.specs.Prelude.{◌≡◌, ◌≢◌, ℕ, ◌+◌, ◌<◌, ◌≤◌, min, nat_lt, if◌then◌else◌, Option, Some, None, Result, Ok, Err, List, [], ◌∷◌, ◌++◌, length, map}
use Rattle.std.specs.FinMap as finite
use Rattle.rs_message.specs.declared.qos.Qos.{Qos}
use Rattle.rs_message.specs.declared.qos.Qos.TheVariants.{AtMostOnce}
use Rattle.rs_message.specs.declared.found.Found.{Found}
use Rattle.rs_window.specs.declared.fault.Ack.{Ack}
use Rattle.rs_window.specs.declared.fault.Ack.TheVariants.{Freed, Released, Unknown}
use Rattle.rs_window.specs.declared.fault.WindowFault.{WindowFault}
use Rattle.rs_window.specs.declared.fault.WindowFault.TheVariants.{TooManyWaiting, NoMemory, WrongKind, TooManyHeld}
use Rattle.rs_window.specs.declared.identifiers.Kind.{Kind}
use Rattle.rs_window.specs.declared.identifiers.Kind.TheVariants.{AtLeastOnce, ExactlyOnce, Received}
use Rattle.rs_window.specs.declared.waiting.Waiting.{Waiting}
use Rattle.rs_window.specs.declared.waiting.TheConstants.{MAX_WAITING}
use Rattle.rs_window.specs.declared.window.TheConstants.{MAX_QUOTA}
use Rattle.rs_window.specs.Values.{OutgoingValue}
use Rattle.rs_window.specs.Identifiers.{Kinds, IsNumbered, kinds_put, kinds_given}
use Rattle.rs_window.specs.State.{State}
use Rattle.rs_window.specs.Waiting.{lesser_qos, sendable, granted_at, Carries}

-- 4.9: nothing is in use and nothing waits. The quota is the lesser of the client's Receive Maximum and the greatest quota (ours)
abbrev pub fresh : ℕ → ℕ → State
fresh receive_maximum packet_maximum = record {
  kinds = finite.empty;
  waiting = [];
  quota = min receive_maximum MAX_QUOTA;
  packet_maximum = packet_maximum;
}

-- the acknowledgements of a client, and the code of a PUBREC
pub data Acknowledgement : Type 0 where
  Puback : Acknowledgement
  Pubrec : (code : ℕ) → Acknowledgement
  Pubcomp : Acknowledgement

-- a call, and what was answered
pub data Call : Type 0 where
  Queue : (found : List Found) (granted : Qos) (subscription : Option ℕ) (answer : Result (Unit {0}) WindowFault) → Call
  Next : (now : ℕ) (given : Option OutgoingValue) → Call
  Acknowledge : (ack : Acknowledgement) (id : ℕ) (answer : Result Ack WindowFault) → Call

-- ---- what an identifier waits for

-- 4.3.2, 4.3.3: a PUBACK ends QoS 1; at QoS 2 a PUBREC of 0x80 or more ends it, a lower one leaves it received, and a
-- PUBCOMP ends what is received. Any other acknowledgement changes nothing
abbrev pub kind_acknowledged : Acknowledgement → Kind → Option Kind
kind_acknowledged Puback AtLeastOnce = None
kind_acknowledged Puback ExactlyOnce = Some ExactlyOnce
kind_acknowledged Puback Received = Some Received
kind_acknowledged (Pubrec code) AtLeastOnce = Some AtLeastOnce
kind_acknowledged (Pubrec code) ExactlyOnce = if nat_lt code 0x80 then Some Received else None
kind_acknowledged (Pubrec code) Received = if nat_lt code 0x80 then Some Received else None
kind_acknowledged Pubcomp AtLeastOnce = Some AtLeastOnce
kind_acknowledged Pubcomp ExactlyOnce = Some ExactlyOnce
kind_acknowledged Pubcomp Received = None

-- the answer: nothing is waited for any more, a PUBREC leaves it received, or it was not the acknowledgement that is due
abbrev pub answer_left : Acknowledgement → Option Kind → Result Ack WindowFault
answer_left ack None = Ok Freed
answer_left (Pubrec code) (Some Received) = Ok Released
answer_left (Pubrec code) (Some AtLeastOnce) = Err WrongKind
answer_left (Pubrec code) (Some ExactlyOnce) = Err WrongKind
answer_left Puback (Some kind) = Err WrongKind
answer_left Pubcomp (Some kind) = Err WrongKind

abbrev pub answer_to : Acknowledgement → Option Kind → Result Ack WindowFault
answer_to ack None = Ok Unknown
answer_to ack (Some kind) = answer_left ack (kind_acknowledged ack kind)

abbrev pub kinds_acknowledged : Acknowledgement → ℕ → Option Kind → Kinds → Kinds
kinds_acknowledged ack id None kinds = kinds
kinds_acknowledged ack id (Some kind) kinds = kinds_put kinds id (kind_acknowledged ack kind)

-- ---- what each call does

-- all of them are appended in order, or none of them
abbrev pub IsQueued : List Found → Qos → Option ℕ → State → Result (Unit {0}) WindowFault → State → Type 0
IsQueued found granted subscription old (Ok done) new =
    (length old.waiting + length found ≤ MAX_WAITING)
    × (new ≡ record old { waiting = old.waiting ++ map (granted_at granted subscription) found })
IsQueued found granted subscription old (Err TooManyWaiting) new = (MAX_WAITING < length old.waiting + length found) × (new ≡ old)
IsQueued found granted subscription old (Err NoMemory) new = (length old.waiting + length found ≤ MAX_WAITING) × (new ≡ old)
IsQueued found granted subscription old (Err WrongKind) new = ⊥
IsQueued found granted subscription old (Err TooManyHeld) new = ⊥

-- 4.9: nothing waits, or the first needs an identifier and the quota is used up
abbrev pub NeedsQuota : Kinds → ℕ → List Waiting → Type 0
NeedsQuota kinds quota [] = Unit {0}
NeedsQuota kinds quota (w ∷ ws) = (lesser_qos w ≢ AtMostOnce) × (finite.len kinds ≡ quota)

-- 4.6: the first message that is to be sent leaves what waits, as this packet
pub record IsGiven (now : ℕ) (old : State) (p : OutgoingValue) (new : State) : Type 0 where
  pub first : Waiting
  pub leaves : sendable old.packet_maximum now old.waiting ≡ first ∷ new.waiting
  pub carries : Carries old.packet_maximum now first p
  pub numbered : IsNumbered old.kinds old.quota p.qos p.id
  pub becomes : new ≡ record old { kinds = kinds_given p.qos p.id old.kinds; waiting = new.waiting }

-- nothing is given only if nothing is left to be sent, or the quota is used up
abbrev pub IsNext : ℕ → State → Option OutgoingValue → State → Type 0
IsNext now old None new = (new ≡ record old { waiting = sendable old.packet_maximum now old.waiting })
    × NeedsQuota old.kinds old.quota (sendable old.packet_maximum now old.waiting)
IsNext now old (Some p) new = IsGiven now old p new

abbrev pub IsAcknowledged : Acknowledgement → ℕ → State → Result Ack WindowFault → State → Type 0
IsAcknowledged ack id old answer new =
    (answer ≡ answer_to ack (finite.get old.kinds id))
    × (new ≡ record old { kinds = kinds_acknowledged ack id (finite.get old.kinds id) old.kinds })

-- one call
abbrev pub Step : State → Call → State → Type 0
Step old (Queue found granted subscription answer) new = IsQueued found granted subscription old answer new
Step old (Next now given) new = IsNext now old given new
Step old (Acknowledge ack id answer) new = IsAcknowledged ack id old answer new
