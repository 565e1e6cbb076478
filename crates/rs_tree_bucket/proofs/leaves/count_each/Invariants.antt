use Rattle.std.proofs.Common.{◌≡◌, ◌+◌, ◌≤◌, drop, length}
use Rattle.std.specs.List.{filter}
use Rattle.rs_tree_bucket.specs.Buckets.{spots_in}
use Rattle.rs_tree_bucket.specs.Sweeping.{is_expired_spot}
use Rattle.rs_store.specs.declared.limit.TheConstants.{MAX_TOPICS}
use Rattle.rs_tree_bucket.proofs.leaves.count_each.Given as goal

abbrev pub invariant-loop-leaf : goal.invariant-loop-leaf
invariant-loop-leaf l =
    l.initial.count + length (spots_in l.leaves) ≤ MAX_TOPICS
    → (l.count + length (filter (is_expired_spot l.now) (spots_in (drop l.leaf-index l.leaves))) ≡ l.initial.count + length (filter (is_expired_spot l.now) (spots_in l.leaves)))
    × (l.count + length (spots_in (drop l.leaf-index l.leaves)) ≤ MAX_TOPICS)
