-- A session between two inputs, and what it replies from what waits.
use Rattle.std.specs.Prelude.{◌≡◌, ℕ, Bool, true, false, nat_le, if◌then◌else◌, List, [], length, Option, Some, None, option_map}
use Rattle.rs_packet.specs.declared.reply.Reply.{Reply}
use Rattle.rs_packet.specs.Replies.{reply_bytes}
use Rattle.rs_message.specs.declared.entry.Entry.{Entry}
use Rattle.rs_window.specs.Calls.{IsNext}
use Rattle.rs_window.specs.Packets.{reply_of}
use Rattle.rs_window.specs.Values.{OutgoingValue}
use Rattle.rs_window.specs.declared.waiting.Waiting.{Waiting}
use Rattle.rs_session.specs.Gate.{Mark}
use Rattle.rs_session.specs.Points.{Point, point_at}
use Rattle.rs_session.specs.declared.open.Open.{Open}
use Rattle.rs_session.specs.declared.phase.Closing.{Closing}
use Rattle.rs_session.specs.declared.phase.Phase.{Phase}
use Rattle.rs_session.specs.declared.phase.Phase.TheVariants as phase
use Rattle.rs_session.specs.declared.phase.Step.{Step}
use Rattle.rs_session.specs.declared.phase.Step.TheVariants.{Go, End}
use Rattle.rs_session.specs.declared.session.Session.{Session}

-- the phase, with what an open session keeps, and the client identifier that the server would assign
pub record State : Type 0 where
  pub phase : Phase
  pub assigned : List ℕ

abbrev pub state_of : {G : Type 0} → Session G → State
state_of s = record { phase = s.phase; assigned = s.assigned }

-- the reply that is due before what waits
abbrev pub due_of : {G : Type 0} → Session G → Option Reply
due_of s = s.due

abbrev pub gate_of : {G : Type 0} → Session G → G
gate_of s = s.gate

-- where a session stands while its gate stands for this list
abbrev pub session_at : {G : Type 0} → (G → Mark) → Session G → List Entry → Point State
session_at mark_of s seen = point_at (state_of s) seen (mark_of (gate_of s))

abbrev pub fresh : List ℕ → State
fresh assigned = record { phase = phase.Before; assigned = assigned }

abbrev pub opened : State → Open → State
opened old o = record { phase = phase.Open o; assigned = old.assigned }

abbrev pub ended : State → Closing → State
ended old closing = record { phase = phase.Ended closing; assigned = old.assigned }

abbrev pub closing_of : Phase → Option Closing
closing_of phase.Before = None
closing_of (phase.Open o) = None
closing_of (phase.Ended closing) = Some closing

abbrev pub is_open : Phase → Bool
is_open phase.Before = false
is_open (phase.Open o) = true
is_open (phase.Ended closing) = false

abbrev pub step_of : Phase → Step
step_of phase.Before = Go
step_of (phase.Open o) = Go
step_of (phase.Ended closing) = End

abbrev pub waiting_of : Phase → List Waiting
waiting_of phase.Before = []
waiting_of (phase.Open o) = o.window.waiting
waiting_of (phase.Ended closing) = []

-- 3.1.2.11.4: a reply that the client takes; another is not sent, and counts as sent
abbrev pub within : ℕ → Reply → Option Reply
within maximum r = if nat_le (length (reply_bytes r)) maximum then Some r else None

-- what the window gives at a given time, as a reply
pub record IsSent (now : ℕ) (old : Open) (given : Option Reply) (new : Open) : Type 0 where
  pub publish : Option OutgoingValue
  pub next : IsNext now old.window publish new.window
  pub reply : given ≡ option_map reply_of publish
  pub rest : new ≡ record old { window = new.window }

-- of what waits, which only an open session has
abbrev pub IsReplayed : ℕ → Phase → Option Reply → Phase → Type 0
IsReplayed now phase.Before given new = (given ≡ None) × (new ≡ phase.Before)
IsReplayed now (phase.Open old) given new = (o : Open) × (new ≡ phase.Open o) × IsSent now old given o
IsReplayed now (phase.Ended closing) given new = (given ≡ None) × (new ≡ phase.Ended closing)

-- the reply that is due, and then what waits
abbrev pub IsGiven : ℕ → Option Reply → State → Option Reply → Option Reply → State → Type 0
IsGiven now (Some first) old given due new = (given ≡ Some first) × (due ≡ None) × (new ≡ old)
IsGiven now None old given due new = (due ≡ None) × (new.assigned ≡ old.assigned) × IsReplayed now old.phase given new.phase
