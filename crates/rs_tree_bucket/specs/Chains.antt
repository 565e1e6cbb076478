-- A chain of levels above messages.
use Rattle.std.specs.Prelude.{ℕ, ◌||◌, if◌then◌else◌, List, [], ◌∷◌, Option, Some, None}
use Rattle.std.specs.Str.{bytes_eq}
use Rattle.rs_topic.specs.Topics.{plus}
use Rattle.rs_topic.specs.Matching.{fits}
use Rattle.rs_tree_bucket.specs.Spots.{Spot, under}

-- the same messages below all of the levels
abbrev pub under_all : List (List ℕ) → List Spot → List Spot
under_all [] ss = ss
under_all (k ∷ ks) ss = under k (under_all ks ss)

-- what a path has behind the chain; none if it does not begin with the chain
abbrev pub behind : List (List ℕ) → List (List ℕ) → Option (List (List ℕ))
behind [] path = Some path
behind (k ∷ ks) [] = None
behind (k ∷ ks) (level ∷ path) = if bytes_eq k level then behind ks path else None

-- what a filter has left below the chain; none if it fits no path there
abbrev pub past : List (List ℕ) → List (List ℕ) → Option (List (List ℕ))
past [] pattern = Some pattern
past (k ∷ ks) [] = None
past (k ∷ ks) (level ∷ pattern) = if fits (level ∷ pattern) [] then Some (level ∷ pattern)
    else if bytes_eq level (plus ∷ []) || bytes_eq level k then past ks pattern else None
