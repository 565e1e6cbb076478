use Rattle.std.proofs.Common.{◌+◌, ◌*◌}
use Rattle.rs_tree_branch.specs.Chunks.{depth}
use Rattle.rs_tree_branch.proofs.branch.+tallness.Given as goal

-- thrice the depth, and more for the calls that leave the branch as it is
abbrev pub decreases-Branch::tallness : goal.decreases-Branch::tallness
decreases-Branch::tallness l = l.self.now.depth * 3 + 2

abbrev pub decreases-Child::tallness : goal.decreases-Child::tallness
decreases-Child::tallness l = l.self.now.depth * 3 + 3

abbrev pub decreases-flat::tallest : goal.decreases-flat::tallest
decreases-flat::tallest l = depth l.children.now * 3 + 1
