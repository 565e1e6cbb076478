use Rattle.std.proofs.Common.{◌≡◌, ◌++◌, drop}
use Rattle.rs_tree_bucket.specs.Buckets.{spots_in}
use Rattle.rs_tree_bucket.proofs.leaves.copies.Given as goal

abbrev pub invariant-loop-leaf : goal.invariant-loop-leaf
invariant-loop-leaf l = spots_in l.copies.items ++ spots_in (drop l.leaf-index l.leaves) ≡ spots_in l.leaves
