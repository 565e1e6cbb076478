use Rattle.std.proofs.Common.{◌≡◌, ◌+◌, ◌<◌, ◌^◌, drop}
use Rattle.rs_tree_bucket.specs.Buckets.{spots_in}
use Rattle.rs_tree_bucket.specs.Weights.{weight}
use Rattle.rs_tree_bucket.proofs.leaves.add_bytes_of_each.Given as goal

abbrev pub invariant-loop-leaf : goal.invariant-loop-leaf
invariant-loop-leaf l =
    l.initial.bytes + weight (spots_in l.leaves) < 2 ^ 64
    → l.bytes + weight (spots_in (drop l.leaf-index l.leaves)) ≡ l.initial.bytes + weight (spots_in l.leaves)
