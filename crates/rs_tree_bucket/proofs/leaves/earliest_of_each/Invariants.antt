use Rattle.std.proofs.Common.{◌≡◌, drop}
use Rattle.rs_tree_bucket.specs.Buckets.{spots_in}
use Rattle.rs_tree_bucket.specs.Expiring.{earliest}
use Rattle.rs_tree_bucket.proofs.leaves.earliest_of_each.Given as goal

abbrev pub invariant-loop-leaf : goal.invariant-loop-leaf
invariant-loop-leaf l = earliest l.least (spots_in (drop l.leaf-index l.leaves)) ≡ earliest l.bound (spots_in l.leaves)
