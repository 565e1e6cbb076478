-- How a filter goes on below the children of a branch.
use Rattle.std.specs.Prelude.{◌≡◌, ℕ, Bool, true, false, List, ◌∷◌}
use Rattle.rs_topic.specs.Matching.{fits}
use Rattle.rs_tree_branch.specs.Values.{ChildValue}

-- below each level, one pattern fits what another one fits behind it
abbrev pub Steps : List (List ℕ) → List (List ℕ) → Type 0
Steps pattern rest = (level : List ℕ) (path : List (List ℕ)) → fits pattern (level ∷ path) ≡ fits rest path

-- the same below one child; a chunk has the whole paths
abbrev pub EntersAs : Bool → List ℕ → List (List ℕ) → List (List ℕ) → Type 0
EntersAs true level pattern rest = Unit {0}
EntersAs false level pattern rest = (path : List (List ℕ)) → fits pattern (level ∷ path) ≡ fits rest path

abbrev pub Enters : ChildValue → List (List ℕ) → List (List ℕ) → Type 0
Enters c pattern rest = EntersAs c.is_chunk c.level pattern rest
