-- What a Sweep leaves of a bucket.
use Rattle.std.specs.Prelude.{◌≡◌, ℕ, List, [], Option, Some, None}
use Rattle.std.specs.List.{filter}
use Rattle.rs_tree_bucket.specs.Spots.{Spot, IsFull}
use Rattle.rs_tree_bucket.specs.Sweeping.{spot_stays}

-- each message goes, or so much is left of them
abbrev pub IsSomeRest : ℕ → List Spot → Option (List Spot) → Type 0
IsSomeRest moment ss None = filter (spot_stays moment) ss ≡ []
IsSomeRest moment ss (Some left) = (left ≡ filter (spot_stays moment) ss) × IsFull left
