-- The clients of a store, each with a line of its own, whose number is its place.
use Rattle.std.specs.Prelude.{◌≡◌, ℕ, List, [], ◌∷◌, map, Some}
use Rattle.rs_message.specs.declared.entry.Entry.{Entry}
use Rattle.rs_intake_queue.specs.Changes.{AreOfLine}
use Rattle.rs_intake_queue.specs.Ends.{Closed, IsClosed}
use Rattle.rs_places_steps.specs.Shared.{SharedValue}
use Rattle.rs_places_steps.specs.Turns.{AreAll, Connections, TookBack}
use Rattle.rs_places_steps.specs.Visits.{AreConnectionsServed, Place, Visit, place_at}

-- what is left of a place: what contracts see of its turn, the list that its gate knew last, and its line
pub record Left : Type 0 where
  pub connections : Connections
  pub told : List Entry
  pub line : Closed

abbrev pub left_at : Connections → List Entry → Closed → Left
left_at connections told line = record { connections = connections; told = told; line = line }

-- The connections of a place were served, from number 1 on. Then its line was closed.
pub record IsPlaceServed (limit : ℕ) (place : Place) (left : Left) : Type 0 where
  pub visits : List Visit
  pub last : SharedValue
  pub connections : AreConnectionsServed limit 1 place.gate visits last
  -- they are all that waited, in their order, and each was taken back as it ended
  pub all : AreAll place.connections.waiting (map (λ visit. visit.given) visits)
  pub ended : TookBack place.connections.ended (map (λ visit. visit.ending) visits) left.connections.ended
  -- what is left is what the gate had then
  pub told : left.told ≡ last.known
  pub number : left.line.place ≡ place.gate.mark.place
  pub sent : last.mark.sent ≡ Some left.line.sent
  pub closed : IsClosed left.line.place left.line.ends left.line.gone
  -- the serials of what was sent strictly rise
  pub line : AreOfLine left.line.place left.line.sent

-- the first turn with the first gate, and so on. What is left of the longer list is left out
abbrev pub places_of : List Connections → List SharedValue → List Place
places_of [] gates = []
places_of (connections ∷ turns) [] = []
places_of (connections ∷ turns) (gate ∷ gates) = place_at connections gate ∷ places_of turns gates
