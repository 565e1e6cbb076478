-- When messages below a spot expire.
use Rattle.std.specs.Prelude.{ℕ, min, List, [], ◌∷◌}
use Rattle.rs_tree_bucket.specs.Spots.{Spot}
use Rattle.rs_store.specs.Expiring.{ends_at}

-- the least of a bound and the moments from which on the messages are expired
abbrev pub earliest : ℕ → List Spot → ℕ
earliest bound [] = bound
earliest bound (s ∷ ss) = earliest (min bound (ends_at s.1.message)) ss
