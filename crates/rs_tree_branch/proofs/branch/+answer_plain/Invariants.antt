use Rattle.std.proofs.Common.{◌+◌, ◌*◌}
use Rattle.rs_tree_branch.specs.Chosen.{is_plain_below}
use Rattle.rs_topic.specs.Rests.{levels_from}
use Rattle.rs_tree_branch.specs.Chunks.{depth}
use Rattle.rs_tree_branch.proofs.Choosing.{IsSoFar}
use Rattle.rs_tree_branch.proofs.branch.+answer_plain.Given as goal

abbrev pub invariant-answers::answer_plain-loop-child : goal.invariant-answers::answer_plain-loop-child
invariant-answers::answer_plain-loop-child l = IsSoFar (is_plain_below (levels_from l.next l.filter)) l.now l.initial.answer l.answer l.children l.child-index

-- thrice the depth, and more for the calls that leave the branch as it is
abbrev pub decreases-Branch::answer_plain : goal.decreases-Branch::answer_plain
decreases-Branch::answer_plain l = l.self.now.depth * 3 + 2

abbrev pub decreases-Child::answer_plain : goal.decreases-Child::answer_plain
decreases-Child::answer_plain l = l.self.now.depth * 3 + 3

abbrev pub decreases-answers::answer_plain : goal.decreases-answers::answer_plain
decreases-answers::answer_plain l = depth l.children.now * 3 + 1
