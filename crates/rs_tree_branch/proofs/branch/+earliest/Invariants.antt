use Rattle.std.proofs.Common.{◌≡◌, ◌+◌, ◌*◌, drop}
use Rattle.rs_tree_bucket.specs.Expiring.{earliest}
use Rattle.rs_tree_branch.specs.Chunks.{depth, parts}
use Rattle.rs_tree_branch.proofs.branch.+earliest.Given as goal

abbrev pub invariant-earliest::earliest_of_each-loop-child : goal.invariant-earliest::earliest_of_each-loop-child
invariant-earliest::earliest_of_each-loop-child l = earliest l.least (parts (drop l.child-index l.children)) ≡ earliest l.bound (parts l.children)

-- thrice the depth, and more for the calls that leave the branch as it is
abbrev pub decreases-Branch::earliest : goal.decreases-Branch::earliest
decreases-Branch::earliest l = l.self.now.depth * 3 + 2

abbrev pub decreases-Child::earliest : goal.decreases-Child::earliest
decreases-Child::earliest l = l.self.now.depth * 3 + 3

abbrev pub decreases-earliest::earliest_of_each : goal.decreases-earliest::earliest_of_each
decreases-earliest::earliest_of_each l = depth l.children.now * 3 + 1
