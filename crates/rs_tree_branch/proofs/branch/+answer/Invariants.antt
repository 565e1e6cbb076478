use Rattle.std.proofs.Common.{◌+◌, ◌*◌}
use Rattle.rs_topic.specs.Matching.{fits}
use Rattle.rs_topic.specs.Rests.{levels_from}
use Rattle.rs_tree_branch.specs.Chunks.{depth}
use Rattle.rs_tree_branch.proofs.Choosing.{IsSoFar}
use Rattle.rs_tree_branch.proofs.branch.+answer.Given as goal

abbrev pub invariant-answers::answer_each-loop-child : goal.invariant-answers::answer_each-loop-child
invariant-answers::answer_each-loop-child l = IsSoFar (fits (levels_from l.at l.filter)) l.now l.initial.answer l.answer l.children l.child-index

-- four times the depth, and more for the calls that leave the branch as it is
abbrev pub decreases-Branch::answer : goal.decreases-Branch::answer
decreases-Branch::answer l = l.self.now.depth * 4 + 2

abbrev pub decreases-Child::answer : goal.decreases-Child::answer
decreases-Child::answer l = l.self.now.depth * 4 + 4

abbrev pub decreases-Stem::answer : goal.decreases-Stem::answer
decreases-Stem::answer l = l.self.now.branch.depth * 4 + 3

abbrev pub decreases-answers::answer_each : goal.decreases-answers::answer_each
decreases-answers::answer_each l = depth l.children.now * 4 + 1
