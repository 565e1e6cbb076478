-- What a client began with.
use Rattle.rs_places_steps.specs.Shared.{SharedValue}
use Rattle.rs_places_steps.specs.Turns.{Connections}
use Rattle.rs_places_steps.specs.Visits.{Place, place_at}
use Rattle.rs_places_steps.specs.declared.begun.Begun.{Begun}

-- the place of the client that began so, by what contracts see of its turn and of its gate
abbrev pub place_of : {T G : Type 0} → (T → Connections) → (G → SharedValue) → Begun T G → Place
place_of connections shared begun = place_at (connections begun.turn.value) (shared begun.gate.value)
