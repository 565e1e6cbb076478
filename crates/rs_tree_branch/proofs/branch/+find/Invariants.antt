use Rattle.std.proofs.Common.{◌+◌, ◌*◌}
use Rattle.rs_tree_branch.proofs.branch.+find.Given as goal

-- twice the depth, and one more for the call that leaves the branch as it is
abbrev pub decreases-Branch::find : goal.decreases-Branch::find
decreases-Branch::find l = l.self.now.depth * 2

abbrev pub decreases-Child::find : goal.decreases-Child::find
decreases-Child::find l = l.self.now.depth * 2

abbrev pub decreases-Stem::find : goal.decreases-Stem::find
decreases-Stem::find l = l.self.now.branch.depth * 2 + 1
