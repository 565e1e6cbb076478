use Rattle.std.proofs.Common.{◌≡◌, ◌+◌, ◌*◌, ◌<◌, ◌^◌, drop}
use Rattle.rs_tree_bucket.specs.Weights.{weight}
use Rattle.rs_tree_branch.specs.Chunks.{depth, parts}
use Rattle.rs_tree_branch.proofs.branch.+weighing.Given as goal

abbrev pub invariant-weighing::add_each-loop-child : goal.invariant-weighing::add_each-loop-child
invariant-weighing::add_each-loop-child l =
    l.initial.bytes + weight (parts l.children) < 2 ^ 64
    → l.bytes + weight (parts (drop l.child-index l.children)) ≡ l.initial.bytes + weight (parts l.children)

-- thrice the depth, and more for the calls that leave the branch as it is
abbrev pub decreases-Branch::add_bytes : goal.decreases-Branch::add_bytes
decreases-Branch::add_bytes l = l.self.now.depth * 3 + 2

abbrev pub decreases-Child::add_bytes : goal.decreases-Child::add_bytes
decreases-Child::add_bytes l = l.self.now.depth * 3 + 3

abbrev pub decreases-weighing::add_each : goal.decreases-weighing::add_each
decreases-weighing::add_each l = depth l.children.now * 3 + 1
