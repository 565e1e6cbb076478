use Rattle.std.proofs.Common.{◌≡◌, ◌++◌, drop}
use Rattle.rs_tree_bucket.specs.Buckets.{spots_in}
use Rattle.rs_tree_bucket.specs.Chains.{under_all}
use Rattle.rs_topic.specs.Rests.{levels_from}
use Rattle.rs_tree_bucket.specs.Spots.{under}
use Rattle.rs_tree_bucket.proofs.leaves.copy_prefixed.Given as goal

abbrev pub invariant-loop-leaf : goal.invariant-loop-leaf
invariant-loop-leaf l = spots_in l.higher.items ++ under_all (levels_from 1 l.chain) (under l.level (spots_in (drop l.leaf-index l.leaves))) ≡ under_all (levels_from 1 l.chain) (under l.level (spots_in l.leaves))
