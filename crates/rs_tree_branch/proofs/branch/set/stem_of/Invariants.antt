use Rattle.std.proofs.Common.{◌≡◌, ◌++◌, drop}
use Rattle.rs_tree_bucket.specs.Buckets.{spots_in}
use Rattle.rs_tree_bucket.specs.Chains.{under_all}
use Rattle.rs_topic.specs.Rests.{levels_from}
use Rattle.rs_tree_bucket.proofs.Buckets.{Sorted}
use Rattle.rs_tree_branch.proofs.branch.set.stem_of.Given as goal

abbrev pub invariant-loop-leaf : goal.invariant-loop-leaf
invariant-loop-leaf l = (under_all (levels_from 1 l.chain.items) l.branch.spots ++ spots_in (drop l.leaf-index l.leaves) ≡ spots_in l.leaves) × Sorted (spots_in l.leaves)
