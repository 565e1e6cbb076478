use Rattle.rs_tree_bucket.proofs.Buckets.{sorted_empty}
use Rattle.rs_tree_bucket.proofs.leaves.Leaves.new.Goals as goal

pub invariant_of-result : goal.invariant_of-result
invariant_of-result c = sorted_empty c.new.result.items c.new.ensures.items
