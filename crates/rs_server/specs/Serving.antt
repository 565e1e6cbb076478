-- A connection while it is served.
use Rattle.std.specs.Prelude.{◌≡◌, ◌≢◌, ◌≤◌, ℕ, Option, Some, None, List, [], length, Result}
use Rattle.std.specs.Io.KnownBytes.{Consumes}
use Rattle.rs_packet.specs.Prefixes.{IsMore}
use Rattle.rs_message.specs.declared.entry.Operation.{Operation}
use Rattle.rs_session.specs.declared.session.Session.{Session}
use Rattle.rs_session.specs.Pending.{AreChanges}
use Rattle.rs_session.specs.Points.{Given, Point}
use Rattle.rs_session.specs.State.{State, closing_of, due_of, gate_of, state_of}
use Rattle.rs_server.specs.Clock.{TellsInOrder}
use Rattle.rs_server.specs.Conversation.{AppendsReplies, Causes, GateView, IsConnection, Talks, Traffic, Transfer}
use Rattle.rs_server.specs.Writing.{IsWriteCause}
use Rattle.rs_server.specs.declared.connection.Served.{Served}
use Rattle.rs_server.specs.declared.serving.Serving.{Serving}
use Rattle.rs_server.specs.declared.writing.ServeFault.{ServeFault}

abbrev pub session_of : {G : Type 0} → Serving G → Session G
session_of serving = serving.session

-- no reply is due, and the session goes on
abbrev pub Waits : {G : Type 0} → Serving G → Type 0
Waits serving = (due_of serving.session ≡ None) × (closing_of (state_of serving.session).phase ≡ None)

-- what was transferred, by what contracts see of reader, writer and clock at first and now
abbrev pub transfer_from : Option (List ℕ) → Option (List ℕ) → Option (List ℕ) → Option (List ℕ) → Option (ℕ → ℕ) → Option (ℕ → ℕ) → Transfer
transfer_from unread rest written more told left = record {
  unread = unread;
  rest = rest;
  written = written;
  more = more;
  told = TellsInOrder told left;
}

-- the bytes were read, the times were told, and all replies were written
abbrev pub traffic_so_far : Transfer → Traffic
traffic_so_far transfer = record {
  consumed = Consumes transfer.unread transfer.rest;
  told = transfer.told;
  written = AppendsReplies transfer.written transfer.more;
}

-- From this point, with these changes expected first, a session was run, and what was decoded is being handled.
pub record IsBeingHandled (from : Point State) (first : List Operation) (most : ℕ) (gate : GateView) (state : State) (transfer : Transfer)
    (planned : List Given) (buffered : List ℕ) : Type 0 where
  pub talk : Talks from first gate state (traffic_so_far transfer) planned buffered
  pub expected : first ≡ [] → AreChanges planned gate.pending
  pub few : length planned ≤ most

-- The same, and all that was whole is handled.
pub record IsHandledAll (from : Point State) (first : List Operation) (most : ℕ) (gate : GateView) (state : State) (transfer : Transfer)
    (planned : List Given) (buffered : List ℕ) : Type 0 where
  pub handled : IsBeingHandled from first most gate state transfer planned buffered
  pub none_planned : planned ≡ []
  pub none_whole : IsMore buffered

-- From this point, with these changes expected first, the connection was served: a session was run over the bytes that were read, but for
-- those of a packet that is not whole yet. What was written are all its replies.
abbrev pub IsUnderway : {G : Type 0} → Point State → List Operation → ℕ → (G → GateView) → Transfer → Serving G → Type 0
IsUnderway from first most view transfer serving =
    IsHandledAll from first most (view (gate_of serving.session)) (state_of serving.session) transfer serving.planned.items serving.buffered.items

-- The same, but what was read last need not be handled yet. Some of it may be decoded.
abbrev pub IsRead : {G : Type 0} → Point State → List Operation → ℕ → (G → GateView) → Transfer → Serving G → Type 0
IsRead from first most view transfer serving =
    IsBeingHandled from first most (view (gate_of serving.session)) (state_of serving.session) transfer serving.planned.items serving.buffered.items

-- all that was whole is handled, or the connection ended so
abbrev pub HandlesAll : Option (Result Served ServeFault) → Point State → List Operation → ℕ → GateView → State → Transfer → List Given → List ℕ → Type 0
HandlesAll None from first most gate state transfer planned buffered = IsHandledAll from first most gate state transfer planned buffered
HandlesAll (Some end) from first most gate state transfer planned buffered = IsConnection from first most gate transfer end

-- the connection goes on, or it ended so
abbrev pub GoesOn : {G : Type 0} → Option (Result Served ServeFault) → Point State → List Operation → ℕ → (G → GateView) → Transfer → Serving G → Type 0
GoesOn None from first most view transfer serving = IsUnderway from first most view transfer serving
GoesOn (Some end) from first most view transfer serving = IsConnection from first most (view (gate_of serving.session)) transfer end

-- it was read from and goes on, or it ended so
abbrev pub Reads : {G : Type 0} → Option (Result Served ServeFault) → Point State → List Operation → ℕ → (G → GateView) → Transfer → Serving G → Type 0
Reads None from first most view transfer serving = IsRead from first most view transfer serving
Reads (Some end) from first most view transfer serving = IsConnection from first most (view (gate_of serving.session)) transfer end

-- of the bytes, if they are given, some were read
abbrev pub ReadsSome : Option (List ℕ) → Option (List ℕ) → Type 0
ReadsSome unread rest = (more : List ℕ) × (more ≢ []) × Consumes unread rest more

-- the failures of the reader and of the writer rise only at the fault that says so
abbrev pub CausesEnd : Option (Result Served ServeFault) → ℕ → ℕ → ℕ → ℕ → Type 0
CausesEnd None read_before read_after write_before write_after = (read_after ≡ read_before) × (write_after ≡ write_before)
CausesEnd (Some end) read_before read_after write_before write_after = Causes end read_before read_after write_before write_after

abbrev pub IsWriteEnd : Option (Result Served ServeFault) → ℕ → ℕ → Type 0
IsWriteEnd None before after = after ≡ before
IsWriteEnd (Some end) before after = IsWriteCause end before after
