-- The messages of a bucket, and where a path belongs among them.
use Rattle.std.specs.Prelude.{◌≡◌, ℕ, zero, suc, List, [], ◌∷◌}
use Rattle.std.specs.declared.cmp.Ordering.TheVariants.{Less, Equal, Greater}
use Rattle.rs_topic.specs.Order.{path_cmp}
use Rattle.rs_tree_bucket.specs.declared.leaf.Leaf.{Leaf}
use Rattle.rs_topic.specs.Rests.{levels_from}
use Rattle.rs_tree_bucket.specs.Spots.{Spot, spot_of}

abbrev pub spots_in : List Leaf → List Spot
spots_in [] = []
spots_in (l ∷ ls) = spot_of l.at l.found ∷ spots_in ls

-- the first so many leaves come before the path
abbrev pub IsPast : List (List ℕ) → List Leaf → ℕ → Type 0
IsPast path ls zero = Unit {0}
IsPast path [] (suc i) = ⊥
IsPast path (l ∷ ls) (suc i) = (path_cmp path (levels_from l.at l.found.topic) ≡ Greater) × IsPast path ls i

-- the path is that of the leaf behind them
abbrev pub IsHere : List (List ℕ) → List Leaf → ℕ → Type 0
IsHere path [] i = ⊥
IsHere path (l ∷ ls) zero = path_cmp path (levels_from l.at l.found.topic) ≡ Equal
IsHere path (l ∷ ls) (suc i) = (path_cmp path (levels_from l.at l.found.topic) ≡ Greater) × IsHere path ls i

-- the path comes before the leaf behind them, if there is one
abbrev pub IsGap : List (List ℕ) → List Leaf → ℕ → Type 0
IsGap path [] zero = Unit {0}
IsGap path [] (suc i) = ⊥
IsGap path (l ∷ ls) zero = path_cmp path (levels_from l.at l.found.topic) ≡ Less
IsGap path (l ∷ ls) (suc i) = (path_cmp path (levels_from l.at l.found.topic) ≡ Greater) × IsGap path ls i
