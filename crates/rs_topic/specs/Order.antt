-- The order of replay.
use Rattle.std.specs.Prelude.{ℕ, ◌<◌, ◌==◌, if◌then◌else◌, List, [], ◌∷◌}
use Rattle.std.specs.Cmp.Lexicographic.{slice_cmp}
use Rattle.std.specs.Ordering.{nat_cmp}
use Rattle.std.specs.declared.cmp.Ordering.{Ordering}
use Rattle.std.specs.declared.cmp.Ordering.TheVariants.{Less, Greater}
use Rattle.rs_topic.specs.Topics.{levels, slash}

-- ours: level by level, each by its bytes, a list before its extensions
pub data ComesBefore {X : Type 0} (IsLess : X → X → Type 0) : List X → List X → Type 0 where
  shorter : {y : X} {ys : List X} → ComesBefore IsLess [] (y ∷ ys)
  here : {x y : X} {xs ys : List X} → IsLess x y → ComesBefore IsLess (x ∷ xs) (y ∷ ys)
  later : {x : X} {xs ys : List X} → ComesBefore IsLess xs ys → ComesBefore IsLess (x ∷ xs) (x ∷ ys)

abbrev pub IsReplayedBefore : List ℕ → List ℕ → Type 0
IsReplayedBefore a b = ComesBefore (ComesBefore (λ c d. c < d)) (levels a) (levels b)

-- the same as a comparison
abbrev pub path_cmp : List (List ℕ) → List (List ℕ) → Ordering
path_cmp = slice_cmp (slice_cmp nat_cmp)

abbrev pub topic_cmp : List ℕ → List ℕ → Ordering
topic_cmp a b = path_cmp (levels a) (levels b)

-- two texts whose bytes first differ in these: a slash ends a level, and so comes first
abbrev pub differing_cmp : ℕ → ℕ → Ordering
differing_cmp x y = if x == slash then Less else if y == slash then Greater else nat_cmp x y
