use Rattle.std.proofs.Common.{refl}
use Rattle.tests_places.proofs.places.known.connections_in_memory_are_answered.Goals as goal

-- The connections of a list are known, by its definition.
pub answered-requires-clause-known : goal.answered-requires-clause-known
answered-requires-clause-known c κs within = λ k turn lt. refl
