use Rattle.std.proofs.Common.{arith, ◌∙◌}
use Rattle.rs_topic.specs.Rests.{levels_from}
use Rattle.rs_tree_branch.proofs.Parting.{stem_none, stem_step, sorted_at}
use Rattle.rs_tree_branch.proofs.branch.set.stem_of.Goals as goal

pub loop-leaf-init : goal.loop-leaf-init
loop-leaf-init c =
    (stem_none (levels_from 1 c.in_ok-chain.chain.items) c.new-branch.result.spots c.as_slice-leaves.result.now c.new-branch.ensures, sorted_at c.as_slice-leaves.result.now c.args.bucket.now c.as_slice-leaves.ensures.same c.as_slice-leaves.ensures.sorted)

pub loop-leaf-preserved : goal.loop-leaf-preserved
loop-leaf-preserved c = (
  stem_step c.as_slice-leaves.result.now c.loop-leaf.leaf-index c.leaf-item.result (omega arith) c.leaf-item.is c.in_ok-chain.chain.items c.as_slice.result.now c.as_bytes.result.now c.in-Some.next c.in_ok-copy.field-0 c.loop-leaf.branch.spots c.hold.new.self.spots
      c.as_slice.ensures.value (c.as_bytes.ensures.bytes ∙ c.topic.ensures) c.in-Some.ensures.value c.in_ok-copy.ensures c.in_ok-hold.ensures.done c.loop-leaf.invariant.1 c.loop-leaf.invariant.0,
  c.loop-leaf.invariant.1,
)
