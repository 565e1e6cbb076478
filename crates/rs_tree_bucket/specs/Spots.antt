-- Messages below one spot of the tree, with their paths, in the order of replay. A path is a list of levels.
use Rattle.std.specs.Prelude.{ℕ, Bool, true, false, List, [], ◌∷◌, Option}
use Rattle.std.specs.Map.{lookup}
use Rattle.std.specs.BTreeMap.{is_at}
use Rattle.std.specs.Option.{is_some}
use Rattle.rs_topic.specs.Order.{path_cmp}
use Rattle.rs_topic.specs.Rests.{levels_from}
use Rattle.rs_message.specs.declared.found.Found.{Found}

abbrev pub Spot : Type 0
Spot = List (List ℕ) × Found

-- a message at what its topic has from a byte on
abbrev pub spot_of : ℕ → Found → Spot
spot_of at f = (levels_from at f.topic, f)

-- the same messages one level further down
abbrev pub under : List ℕ → List Spot → List Spot
under level [] = []
under level (s ∷ ss) = (level ∷ s.0, s.1) ∷ under level ss

abbrev pub is_nothing : {X : Type 0} → List X → Bool
is_nothing [] = true
is_nothing (x ∷ xs) = false

-- the message at the path, if there is one
abbrev pub found_at : List (List ℕ) → List Spot → Option Found
found_at path ss = lookup (is_at (path_cmp path)) ss

-- there is a message at the path
abbrev pub is_there : List (List ℕ) → List Spot → Bool
is_there path ss = is_some (found_at path ss)

-- there is a message
abbrev pub IsFull : List Spot → Type 0
IsFull [] = ⊥
IsFull (s ∷ ss) = Unit {0}
