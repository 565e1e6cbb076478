use Rattle.std.proofs.Common.{◌+◌, ◌*◌}
use Rattle.std.specs.Arc.{arc_value}
use Rattle.rs_tree_branch.proofs.branch.+set.Given as goal

-- four times the depth, and more for the calls that leave the branch as it is
abbrev pub decreases-Branch::set : goal.decreases-Branch::set
decreases-Branch::set l = l.self.now.depth * 4

abbrev pub decreases-Branch::set_in : goal.decreases-Branch::set_in
decreases-Branch::set_in l = (arc_value l.this.now).depth * 4 + 1

abbrev pub decreases-Stem::set_here : goal.decreases-Stem::set_here
decreases-Stem::set_here l = l.self.now.branch.depth * 4 + 2

abbrev pub decreases-Stem::set : goal.decreases-Stem::set
decreases-Stem::set l = (arc_value l.this.now).branch.depth * 4 + 3

abbrev pub decreases-Child::set : goal.decreases-Child::set
decreases-Child::set l = l.self.now.depth * 4
