-- What the children of a branch hold, and to which of them a level belongs.
use Rattle.std.specs.Prelude.{◌≡◌, ◌≢◌, ◌+◌, ℕ, suc, zero, max, Bool, true, false, List, [], ◌∷◌, ◌++◌, Option, Some, None}
use Rattle.std.specs.Cmp.Lexicographic.{slice_cmp}
use Rattle.std.specs.Ordering.{nat_cmp}
use Rattle.std.specs.declared.cmp.Ordering.TheVariants.{Less, Greater}
use Rattle.rs_topic.specs.Order.{path_cmp}
use Rattle.rs_tree_bucket.specs.Spots.{Spot, IsFull}
use Rattle.std.specs.List.{filter}
use Rattle.rs_tree_bucket.specs.Sweeping.{spot_stays}
use Rattle.rs_tree_branch.specs.Values.{ChildValue}

abbrev pub parts : List ChildValue → List Spot
parts [] = []
parts (c ∷ cs) = c.spots ++ parts cs

abbrev pub depth : List ChildValue → ℕ
depth [] = 0
depth (c ∷ cs) = max (c.depth + 1) (depth cs)

-- no path begins before the level
abbrev pub IsFrom : List ℕ → List Spot → Type 0
IsFrom level [] = Unit {0}
IsFrom level (s ∷ ss) = (path_cmp s.0 (level ∷ []) ≢ Less) × IsFrom level ss

-- each path begins before the level
abbrev pub IsUpTo : List ℕ → List Spot → Type 0
IsUpTo level [] = Unit {0}
IsUpTo level (s ∷ ss) = (path_cmp s.0 (level ∷ []) ≡ Less) × IsUpTo level ss

abbrev pub IsBefore : List Spot → List ChildValue → Type 0
IsBefore ss [] = Unit {0}
IsBefore ss (c ∷ cs) = IsUpTo c.level ss

-- no child is empty, none begins before its level, and each ends before the next one
abbrev pub IsChunk : List ChildValue → Type 0
IsChunk [] = Unit {0}
IsChunk (c ∷ cs) = IsFull c.spots × IsFrom c.level c.spots × IsBefore c.spots cs × IsChunk cs

-- ---- where a level belongs

-- the level is before that of the first child
abbrev pub IsPreceding : List ℕ → List ChildValue → Type 0
IsPreceding level [] = Unit {0}
IsPreceding level (c ∷ cs) = slice_cmp nat_cmp level c.level ≡ Less

-- the level is before that of the child at the index, and the child before that passes
abbrev pub IsEdge : (ChildValue → Type 0) → List ℕ → List ChildValue → ℕ → Type 0
IsEdge P level cs zero = IsPreceding level cs
IsEdge P level [] (suc i) = ⊥
IsEdge P level (c ∷ cs) (suc zero) = P c × IsPreceding level cs
IsEdge P level (c ∷ cs) (suc (suc i)) = IsEdge P level cs (suc i)

abbrev pub IsNotBefore : List ℕ → ChildValue → Type 0
IsNotBefore level c = slice_cmp nat_cmp level c.level ≢ Less

-- what is below the level belongs to the child
abbrev pub TakesAs : Bool → List ℕ → List ℕ → Type 0
TakesAs true own level = slice_cmp nat_cmp level own ≢ Less
TakesAs false own level = level ≡ own

abbrev pub Takes : List ℕ → ChildValue → Type 0
Takes level c = TakesAs c.is_chunk c.level level

-- the path is behind each of these
abbrev pub IsBehind : List (List ℕ) → List Spot → Type 0
IsBehind path [] = Unit {0}
IsBehind path (s ∷ ss) = (path_cmp path s.0 ≡ Greater) × IsBehind path ss

-- whatever is below the level is behind the child
abbrev pub Passes : List ℕ → ChildValue → Type 0
Passes level c = (rest : List (List ℕ)) → IsBehind (level ∷ rest) c.spots

-- the level belongs to the child at the index
abbrev pub IsIn : List ℕ → List ChildValue → ℕ → Type 0
IsIn level cs i = IsEdge (Takes level) level cs (suc i)

-- it belongs to no child, and would stand at the index
abbrev pub IsGap : List ℕ → List ChildValue → ℕ → Type 0
IsGap level cs i = IsEdge (Passes level) level cs i

-- what a child has to do with a path: a chunk has the whole path, another child what is behind its level
abbrev pub LeadsAs : Bool → List ℕ → List (List ℕ) → List (List ℕ) → Type 0
LeadsAs true level path rest = Unit {0}
LeadsAs false level path rest = path ≡ level ∷ rest

abbrev pub Leads : ChildValue → List (List ℕ) → List (List ℕ) → Type 0
Leads c path rest = LeadsAs c.is_chunk c.level path rest

-- two children that begin at the level and have these messages between them
pub record AreHalves (first : List ℕ) (spots : List Spot) (low high : ChildValue) : Type 0 where
  pub level : low.level ≡ first
  pub start : IsFrom first low.spots
  pub whole : low.spots ++ high.spots ≡ spots
  pub some : IsFull low.spots
  pub more : IsFull high.spots
  pub before : IsUpTo high.level low.spots
  pub from : IsFrom high.level high.spots

-- what a Sweep leaves of a child
abbrev pub IsLeft : ℕ → ChildValue → Option ChildValue → Type 0
IsLeft moment c None = filter (spot_stays moment) c.spots ≡ []
IsLeft moment c (Some d) = (d.level ≡ c.level) × (d.spots ≡ filter (spot_stays moment) c.spots) × IsFull d.spots

-- a Sweep that has noted of no message that it goes had noted none before, and leaves these as they are
abbrev pub Notes : ℕ → List Spot → Bool → Bool → Type 0
Notes moment ss old new = new ≡ false → (old ≡ false) × (filter (spot_stays moment) ss ≡ ss)
