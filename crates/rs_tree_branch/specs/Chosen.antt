-- What a filter chooses of the whole tree's messages.
use Rattle.std.specs.Prelude.{ℕ, Bool, false, ◌&&◌, not, List, [], ◌∷◌}
use Rattle.rs_message.specs.declared.found.Found.{Found}
use Rattle.rs_topic.specs.Matching.{fits, is_wild, begins_with_dollar}
use Rattle.rs_tree_bucket.specs.Chosen.{chosen_by}
use Rattle.rs_tree_bucket.specs.Spots.{Spot}

abbrev pub is_dollar : List (List ℕ) → Bool
is_dollar [] = false
is_dollar (level ∷ more) = begins_with_dollar level

-- the paths are whole topics: a wildcard in the first level does not match a topic that begins with a dollar (4.7.2)
abbrev pub is_matched : List (List ℕ) → List (List ℕ) → Bool
is_matched pattern path = fits pattern path && not (is_wild pattern && is_dollar path)

abbrev pub chosen_at_root : List (List ℕ) → ℕ → List Spot → List Found
chosen_at_root pattern now ss = chosen_by (is_matched pattern) now ss

-- the same below a child that does not begin with a dollar
abbrev pub is_plain_below : List (List ℕ) → List (List ℕ) → Bool
is_plain_below pattern [] = false
is_plain_below pattern (level ∷ more) = not (begins_with_dollar level) && fits pattern more
