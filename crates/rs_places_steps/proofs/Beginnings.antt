-- What a client began with is known by its parts.
use Rattle.std.proofs.Common.{◌≡◌}
use Rattle.rs_places_steps.specs.declared.begun.Begun.{Begun}

pub same_begun : {T G : Type 0} (a b : Begun T G) → a.turn.value ≡ b.turn.value → a.gate.value ≡ b.gate.value → a ≡ b
same_begun a b turn gate = λ i. record { turn = record { marker = a.turn.marker; value = turn i }; gate = record { marker = a.gate.marker; value = gate i } }
