-- Paths, and messages with their paths.
use Rattle.std.proofs.Common.{ℕ, List}
use Rattle.rs_tree_bucket.specs.Spots.{Spot}

abbrev pub Path : Type 0
Path = List (List ℕ)

abbrev pub Spots : Type 0
Spots = List Spot
