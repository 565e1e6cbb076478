use Rattle.std.proofs.Common.{arith, ◌+◌, ◌-◌, ◌/◌, refl}
use Rattle.rs_tree_branch.proofs.Chunks.{edge_end, high_end, high_step, low_step}
use Rattle.rs_tree_branch.proofs.branch.first_behind.Goals as goal

pub loop-low-init : goal.loop-low-init
loop-low-init c = record { ordered = omega arith; small = omega arith; low = tt; high = high_end c.args.level.now c.args.children.now }

pub loop-low-preserved-then-is_behind : goal.loop-low-preserved-then-is_behind
loop-low-preserved-then-is_behind c = record {
  ordered = omega arith;
  small = omega arith;
  low = c.loop-low.invariant.low;
  high = high_step c.args.level.now c.args.children.now _ c.index-children-middle.result (omega arith) c.index-children-middle.is (c.if-is_behind.ensures.yes refl);
}

pub loop-low-preserved : goal.loop-low-preserved
loop-low-preserved c = record {
  ordered = omega arith;
  small = omega arith;
  low = low_step c.args.level.now c.args.children.now (c.loop-low.low + (c.loop-low.high - c.loop-low.low) / 2) _ c.index-children-middle.result (omega arith) (omega arith) c.index-children-middle.is (c.if-is_behind.ensures.no refl);
  high = c.loop-low.invariant.high;
}

pub returns-clause-edge : goal.returns-clause-edge
returns-clause-edge c = edge_end c.args.level.now c.args.children.now c.loop-low.low c.loop-low.high (omega arith) c.loop-low.invariant.low c.loop-low.invariant.high
