-- A branch and its children as contracts see them.
use Rattle.std.specs.Prelude.{ℕ, Bool, List}
use Rattle.rs_tree_bucket.specs.Spots.{Spot}

-- its messages with their paths, in the order of replay, and how deep it is
pub record BranchValue : Type 0 where
  pub spots : List Spot
  pub depth : ℕ

-- the level where it begins, whether it goes on to other levels, its messages with their paths from its level on, and how deep it is
pub record ChildValue : Type 0 where
  pub level : List ℕ
  pub is_chunk : Bool
  pub spots : List Spot
  pub depth : ℕ
