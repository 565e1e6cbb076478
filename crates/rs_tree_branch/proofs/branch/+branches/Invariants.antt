use Rattle.std.proofs.Common.{◌+◌, ◌*◌}
use Rattle.rs_tree_branch.specs.Chunks.{depth}
use Rattle.rs_tree_branch.proofs.branch.+branches.Given as goal

-- thrice the depth, and more for the calls that leave the branch as it is
abbrev pub decreases-Branch::branches : goal.decreases-Branch::branches
decreases-Branch::branches l = l.self.now.depth * 3 + 2

abbrev pub decreases-Child::branches : goal.decreases-Child::branches
decreases-Child::branches l = l.self.now.depth * 3 + 3

abbrev pub decreases-count::branches_below : goal.decreases-count::branches_below
decreases-count::branches_below l = depth l.children.now * 3 + 1
