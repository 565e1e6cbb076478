-- Connections that were served one after the other, each from what the one before left.
use Rattle.std.specs.Prelude.{◌≡◌, ℕ, ◌+◌, ◌-◌, ◌^◌, min, None, List, [], ◌∷◌, ◌++◌, map}
use Rattle.rs_session.specs.Points.{Given}
use Rattle.rs_session.specs.Run.{Exchange}
use Rattle.rs_server.specs.Clock.{TellsInOrder}
use Rattle.rs_server.specs.Conversation.{Causes, Transfer, assigned_of, start}
use Rattle.rs_places_steps.specs.Serving.{IsServedAt}
use Rattle.rs_places_steps.specs.Shared.{SharedValue}
use Rattle.rs_places_steps.specs.Turns.{Connections, Ending, Gave, IsOut, Streams, TookBack}

-- the number of the connection after the one of this number. The greatest u64 is repeated
abbrev pub next_number : ℕ → ℕ
next_number number = min (number + 1) (2 ^ 64 - 1)

-- a connection that was served: what contracts see of it before and after, the exchanges of its session, what was decoded behind them
-- and not handled, and what the gate knew after it
pub record Visit : Type 0 where
  pub given : Streams
  pub ending : Ending
  pub exchanges : List Exchange
  pub planned : List Given
  pub gate : SharedValue

-- what a connection transferred, by what contracts see of its streams before and after
abbrev pub transfer_of : Streams → Streams → Transfer
transfer_of before after = record {
  unread = before.unread;
  rest = after.unread;
  written = before.written;
  more = after.written;
  told = TellsInOrder before.moments after.moments;
}

-- It was served under this number, from what the gate knew before, over these streams.
pub record IsConnectionServed (limit number : ℕ) (before : SharedValue) (visit : Visit) : Type 0 where
  pub connection : IsServedAt limit (start (assigned_of before.mark.place number) before.known before.mark) before.pending
      (transfer_of visit.given visit.ending.streams) visit.ending.result visit.gate
  pub exchanges : visit.exchanges ≡ connection.exchanges
  pub planned : visit.planned ≡ connection.planned
  -- its reader and its writer had not failed before; a fault says which of them did, or that memory was refused and none did
  pub cause : Causes visit.ending.result 0 visit.ending.read_failures 0 visit.ending.write_failures

-- Connections were served one after the other, each from what the one before left. They are numbered from this number on.
abbrev pub AreConnectionsServed : ℕ → ℕ → SharedValue → List Visit → SharedValue → Type 0
AreConnectionsServed limit number first [] last = last ≡ first
AreConnectionsServed limit number first (visit ∷ visits) last =
    IsConnectionServed limit number first visit × AreConnectionsServed limit (next_number number) visit.gate visits last

-- a place: what contracts see of its turn and of its gate
pub record Place : Type 0 where
  pub connections : Connections
  pub gate : SharedValue

abbrev pub place_at : Connections → SharedValue → Place
place_at connections gate = record { connections = connections; gate = gate }

-- From the first place to the one now these connections were served, numbered from 1 on. Whatever is served from now on, from this
-- number on, was served after them. The turn gave them and took them back, none is out, the place stays, and nothing is expected.
pub record ServedSoFar (limit : ℕ) (first : Place) (number : ℕ) (now : Place) : Type 0 where
  pub visits : List Visit
  pub extends : (more : List Visit) (last : SharedValue) → AreConnectionsServed limit number now.gate more last → AreConnectionsServed limit 1 first.gate (visits ++ more) last
  pub given : Gave first.connections.waiting (map (λ visit. visit.given) visits) now.connections.waiting
  pub ended : TookBack first.connections.ended (map (λ visit. visit.ending) visits) now.connections.ended
  pub out : IsOut None now.connections.out
  pub place : now.gate.mark.place ≡ first.gate.mark.place
  pub pending : now.gate.pending ≡ []
