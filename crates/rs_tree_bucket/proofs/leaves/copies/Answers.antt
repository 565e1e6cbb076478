use Rattle.std.proofs.Common.{arith}
use Rattle.rs_tree_bucket.specs.Buckets.{spots_in}
use Rattle.rs_tree_bucket.proofs.Buckets.{copied_step}
use Rattle.rs_tree_bucket.proofs.leaves.copies.Goals as goal

pub loop-leaf-preserved : goal.loop-leaf-preserved
loop-leaf-preserved c =
    copied_step c.args.leaves.now c.loop-leaf.leaf-index c.leaf-item.result (omega arith) c.leaf-item.is c.in_ok-copy.field-0 c.loop-leaf.copies.items c.push.new.self.items (spots_in c.args.leaves.now) c.in_ok-copy.ensures c.in_ok-push.ensures.items c.loop-leaf.invariant
