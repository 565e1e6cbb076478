-- Lemmas on a connection while it is served.
use Rattle.std.proofs.Common.{[], ℕ, List, Option, Some, None, Err, refl, subst, sym, arith, ◌≡◌}
use Rattle.std.specs.Prelude.{Result}
use Rattle.rs_packet.specs.PacketReading.{answer}
use Rattle.rs_packet.specs.Prefixes.{IsMore}
use Rattle.rs_message.specs.declared.entry.Operation.{Operation}
use Rattle.rs_message.specs.declared.entry.Entry.{Entry}
use Rattle.rs_session.specs.Gate.{Mark}
use Rattle.rs_session.specs.Points.{Point}
use Rattle.rs_session.specs.State.{State, fresh, gate_of, state_of}
use Rattle.rs_server.specs.Conversation.{GateView, IsConnection, Transfer, gate_view, start}
use Rattle.rs_server.specs.Serving.{GoesOn, HandlesAll, transfer_from}
use Rattle.rs_server.specs.declared.connection.Served.{Served}
use Rattle.rs_server.specs.declared.serving.Serving.{Serving}
use Rattle.rs_server.specs.declared.writing.ServeFault.{ServeFault}
use Rattle.rs_server.specs.declared.writing.ServeFault.TheVariants.{NoMemory}
use Rattle.rs_server.proofs.Conversations.{talks_none}

-- what is handled of a connection is so of the connection
pub goes_on_as : {G : Type 0} (r : Option (Result Served ServeFault)) (from : Point State) (first : List Operation) (most : ℕ) (view : G → GateView) (transfer : Transfer) (serving : Serving G)
    → HandlesAll r from first most (view (gate_of serving.session)) (state_of serving.session) transfer serving.planned.items serving.buffered.items → GoesOn r from first most view transfer serving
goes_on_as None from first most view transfer serving h = h
goes_on_as (Some end) from first most view transfer serving h = h

-- no byte is a whole packet
pub no_byte : IsMore []
unfolding answer
no_byte = refl

-- the gate comes back as it is
pub connection_back : {G : Type 0} (stands : G → List Entry → Type 0) (mark : G → Mark) (pending : G → List Operation) (gate kept : G) (from : Point State) (first : List Operation) (most : ℕ) (transfer : Transfer) (result : Result Served ServeFault)
    → kept ≡ gate → IsConnection from first most (gate_view stands mark pending gate) transfer result → IsConnection from first most (gate_view stands mark pending kept) transfer result
connection_back {G} stands mark pending gate kept from first most transfer result e h =
    subst (λ (g : G). IsConnection from first most (gate_view stands mark pending g) transfer result) (sym e) h

-- if there is no memory for the identifier, nothing is read
pub none_served : (most : ℕ) (gate : GateView) (assigned : List ℕ) (read : Option (List ℕ)) (told : Option (ℕ → ℕ)) (wrote : Option (List ℕ)) (seen : List Entry)
    → gate.stands seen → IsConnection (start assigned seen gate.mark) gate.pending most gate (transfer_from read read wrote wrote told told) (Err NoMemory)
none_served most gate assigned read told wrote seen s = (fresh assigned, [], [], omega arith, talks_none Served gate assigned read told wrote seen s, tt)
