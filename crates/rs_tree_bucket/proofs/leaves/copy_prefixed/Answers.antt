use Rattle.std.proofs.Common.{arith}
use Rattle.rs_tree_bucket.specs.Buckets.{spots_in}
use Rattle.rs_tree_bucket.specs.Chains.{under_all}
use Rattle.rs_topic.specs.Rests.{levels_from}
use Rattle.rs_tree_bucket.specs.Spots.{under}
use Rattle.rs_tree_bucket.proofs.Buckets.{risen_all, risen_step}
use Rattle.rs_tree_bucket.proofs.leaves.copy_prefixed.Goals as goal

pub loop-leaf-preserved : goal.loop-leaf-preserved
loop-leaf-preserved c =
    risen_step c.args.leaves.now c.loop-leaf.leaf-index c.leaf-item.result (omega arith) c.leaf-item.is (levels_from 1 c.args.chain.now) c.args.level.now c.in_ok-raised.raised c.rise.new.self c.loop-leaf.higher.items c.push.new.self.items
    (under_all (levels_from 1 c.args.chain.now) (under c.args.level.now (spots_in c.args.leaves.now))) c.in_ok-raised.ensures c.rise.ensures.same (c.rise.ensures.done c.if-not-rise.false) c.in_ok-push.ensures.items c.loop-leaf.invariant

pub returns : goal.returns
returns c = risen_all (levels_from 1 c.args.chain.now) c.args.level.now c.args.leaves.now c.loop-leaf.leaf-index (spots_in c.loop-leaf.higher.items) (under_all (levels_from 1 c.args.chain.now) (under c.args.level.now (spots_in c.args.leaves.now))) (omega arith) c.loop-leaf.invariant
