use Rattle.std.proofs.Common.{◌+◌, ◌*◌}
use Rattle.std.specs.Arc.{arc_value}
use Rattle.rs_tree_branch.proofs.branch.+clear.Given as goal

-- four times the depth, and more for the calls that leave the branch as it is
abbrev pub decreases-Branch::clear : goal.decreases-Branch::clear
decreases-Branch::clear l = l.self.now.depth * 4

abbrev pub decreases-Branch::clear_in : goal.decreases-Branch::clear_in
decreases-Branch::clear_in l = (arc_value l.this.now).depth * 4 + 1

abbrev pub decreases-Stem::clear_here : goal.decreases-Stem::clear_here
decreases-Stem::clear_here l = l.self.now.branch.depth * 4 + 2

abbrev pub decreases-Stem::clear : goal.decreases-Stem::clear
decreases-Stem::clear l = (arc_value l.this.now).branch.depth * 4 + 3

abbrev pub decreases-Child::clear : goal.decreases-Child::clear
decreases-Child::clear l = l.self.now.depth * 4
