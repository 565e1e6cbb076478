-- What a child of a branch holds.
use Rattle.std.specs.Prelude.{◌+◌, ℕ, Bool, true, false, List}
use Rattle.rs_tree_bucket.specs.Chains.{under_all}
use Rattle.rs_topic.specs.Rests.{levels_from}
use Rattle.rs_tree_bucket.specs.Spots.{Spot, under}
use Rattle.rs_tree_branch.specs.declared.branch.Below.{Below}
use Rattle.rs_tree_branch.specs.declared.branch.Below.TheVariants.{Chunk, Few, Inner}
use Rattle.rs_tree_branch.specs.declared.branch.Stem.{Stem}

abbrev pub stem_spots : Stem → List Spot
stem_spots s = under_all (levels_from 1 s.chain.items) s.branch.spots

-- below a level; a chunk has the levels of its children
abbrev pub spots_of : List ℕ → Below → List Spot
spots_of level (Few b) = under level b
spots_of level (Inner s) = under level (stem_spots s.value)
spots_of level (Chunk b) = b.value.spots

abbrev pub is_chunk : Below → Bool
is_chunk (Few b) = false
is_chunk (Inner s) = false
is_chunk (Chunk b) = true

abbrev pub depth_of : Below → ℕ
depth_of (Few b) = 0
depth_of (Inner s) = s.value.branch.depth + 1
depth_of (Chunk b) = b.value.depth + 1
