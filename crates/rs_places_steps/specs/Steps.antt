-- A client of a store, between two of the steps by which it is served.
use Rattle.std.specs.Prelude.{ℕ, Some, List, Result}
use Rattle.rs_message.specs.declared.entry.Entry.{Entry}
use Rattle.rs_message.specs.declared.entry.Operation.{Operation}
use Rattle.rs_session.specs.Gate.{Mark}
use Rattle.rs_server.specs.Conversation.{Causes, GateView, IsConnection, assigned_of, gate_view, start}
use Rattle.rs_server.specs.Refusals.{gate_of}
use Rattle.rs_server.specs.Serving.{IsRead, IsUnderway}
use Rattle.rs_server.specs.declared.connection.Served.{Served}
use Rattle.rs_server.specs.declared.counted_gate.CountedGate.{CountedGate}
use Rattle.rs_server.specs.declared.serving.Serving.{Serving}
use Rattle.rs_server.specs.declared.writing.ServeFault.{ServeFault}
use Rattle.rs_places_steps.specs.Visits.{Place, ServedSoFar, transfer_of}
use Rattle.rs_places_steps.specs.Turns.{Connections, GivesNext, Streams}

-- what contracts see of a client's gate that counts what it refuses
abbrev pub counted_view : {G : Type 0} → (G → List Entry → Type 0) → (G → Mark) → (G → List Operation) → CountedGate G → GateView
counted_view {G} stands mark pending = gate_view (λ (it : CountedGate G). stands (gate_of it)) (λ (it : CountedGate G). mark (gate_of it))
    (λ (it : CountedGate G). pending (gate_of it))

-- After the connections that were served so far, the turn gave the next one.
pub record HasNext (limit : ℕ) (begun : Place) (number : ℕ) (connections : Connections) : Type 0 where
  pub before : Place
  pub given : Streams
  pub so_far : ServedSoFar limit begun number before
  pub gives : GivesNext before.connections (Some given) connections

-- It is served over these streams by now, and all that was whole is handled.
pub record IsBeingServed {G : Type 0} (limit most : ℕ) (view : CountedGate G → GateView) (begun : Place) (number : ℕ) (connections : Connections)
    (now : Streams) (serving : Serving (CountedGate G)) : Type 0 where
  pub next : HasNext limit begun number connections
  pub underway : IsUnderway (start (assigned_of next.before.gate.mark.place number) next.before.gate.known next.before.gate.mark)
      next.before.gate.pending most view (transfer_of next.given now) serving

-- It is served over these streams by now. What was read last need not be handled yet.
pub record WasRead {G : Type 0} (limit most : ℕ) (view : CountedGate G → GateView) (begun : Place) (number : ℕ) (connections : Connections)
    (now : Streams) (serving : Serving (CountedGate G)) : Type 0 where
  pub next : HasNext limit begun number connections
  pub read : IsRead (start (assigned_of next.before.gate.mark.place number) next.before.gate.known next.before.gate.mark)
      next.before.gate.pending most view (transfer_of next.given now) serving

-- It was served over these streams, and that ended so.
pub record WasServed (limit most : ℕ) (begun : Place) (number : ℕ) (connections : Connections) (now : Streams) (gate : GateView)
    (result : Result Served ServeFault) (read_failures write_failures : ℕ) : Type 0 where
  pub next : HasNext limit begun number connections
  pub connection : IsConnection (start (assigned_of next.before.gate.mark.place number) next.before.gate.known next.before.gate.mark)
      next.before.gate.pending most gate (transfer_of next.given now) result
  pub cause : Causes result 0 read_failures 0 write_failures
