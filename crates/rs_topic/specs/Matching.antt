-- Which filter matches which name, as a relation and as a test.
use Rattle.std.specs.Prelude.{◌≡◌, ℕ, ◌⊎◌, Bool, false, ◌&&◌, ◌||◌, not, ◌==◌, List, [], ◌∷◌}
use Rattle.std.specs.Str.{bytes_eq}
use Rattle.rs_topic.specs.Topics.{plus, hash, dollar, levels, is_end}

-- 4.7.1: the levels of a filter fit those of a name
pub data Fits : List (List ℕ) → List (List ℕ) → Type 0 where
  ended : Fits [] []
  all_below : {name : List (List ℕ)} → Fits ((hash ∷ []) ∷ []) name
  any_level : {level : List ℕ} {filter name : List (List ℕ)} → Fits filter name → Fits ((plus ∷ []) ∷ filter) (level ∷ name)
  same_level : {level : List ℕ} {filter name : List (List ℕ)} → Fits filter name → Fits (level ∷ filter) (level ∷ name)

-- 4.7.2: the first level is a wildcard
abbrev pub BeginsWild : List (List ℕ) → Type 0
BeginsWild [] = ⊥
BeginsWild (level ∷ more) = (level ≡ plus ∷ []) ⊎ (level ≡ hash ∷ [])

abbrev pub BeginsWithDollar : List ℕ → Type 0
BeginsWithDollar [] = ⊥
BeginsWithDollar (c ∷ cs) = c ≡ dollar

-- 4.7.1, 4.7.2
abbrev pub Matches : List ℕ → List ℕ → Type 0
Matches filter name = Fits (levels filter) (levels name) × ¬ (BeginsWild (levels filter) × BeginsWithDollar name)

-- ---- the same as tests

abbrev pub fits : List (List ℕ) → List (List ℕ) → Bool
fits [] names = is_end names
fits (level ∷ more) [] = bytes_eq level (hash ∷ []) && is_end more
fits (level ∷ more) (name ∷ names) = (bytes_eq level (hash ∷ []) && is_end more) ||
    ((bytes_eq level (plus ∷ []) || bytes_eq level name) && fits more names)

abbrev pub is_wild : List (List ℕ) → Bool
is_wild [] = false
is_wild (level ∷ more) = bytes_eq level (plus ∷ []) || bytes_eq level (hash ∷ [])

abbrev pub begins_with_dollar : List ℕ → Bool
begins_with_dollar [] = false
begins_with_dollar (c ∷ cs) = c == dollar

abbrev pub matches : List ℕ → List ℕ → Bool
matches filter topic = fits (levels filter) (levels topic) && not (is_wild (levels filter) && begins_with_dollar topic)
