-- What a Sweep leaves of a branch and of its children.
use Rattle.std.specs.Prelude.{◌≡◌, ℕ, Bool, true, false, List, [], Option, Some, None}
use Rattle.std.specs.List.{filter}
use Rattle.rs_tree_branch.specs.Chunks.{IsChunk, parts}
use Rattle.rs_tree_bucket.specs.Spots.{Spot, IsFull}
use Rattle.rs_tree_bucket.specs.Sweeping.{spot_stays}
use Rattle.rs_tree_branch.specs.Values.{BranchValue, ChildValue}
use Rattle.rs_tree_branch.specs.declared.branch.sweep.Rest.{Rest}
use Rattle.rs_tree_branch.specs.declared.branch.sweep.Rest.TheVariants.{All, Less, Nothing}

-- no message of the child goes, or so much is left of it, or each goes
abbrev pub IsRest : ℕ → ChildValue → Rest → Type 0
IsRest moment c All = filter (spot_stays moment) c.spots ≡ c.spots
IsRest moment c (Less d) = (d.level ≡ c.level) × (d.spots ≡ filter (spot_stays moment) c.spots) × IsFull d.spots
IsRest moment c Nothing = filter (spot_stays moment) c.spots ≡ []

-- no message of the children goes, or so much is left of them
abbrev pub IsRestOf : ℕ → List ChildValue → Bool → List ChildValue → Type 0
IsRestOf moment cs false left = filter (spot_stays moment) (parts cs) ≡ parts cs
IsRestOf moment cs true left = IsChunk left × (parts left ≡ filter (spot_stays moment) (parts cs))

-- the same of a branch
abbrev pub IsBranchRest : ℕ → List Spot → Option BranchValue → Type 0
IsBranchRest moment ss None = filter (spot_stays moment) ss ≡ ss
IsBranchRest moment ss (Some b) = b.spots ≡ filter (spot_stays moment) ss
