use Rattle.std.proofs.Common.{◌≡◌, ◌+◌, ◌*◌, true, take}
use Rattle.rs_tree_branch.specs.Rests.{IsRestOf}
use Rattle.rs_tree_branch.specs.Chunks.{depth}
use Rattle.rs_tree_branch.proofs.branch.+swept.Given as goal

abbrev pub invariant-sweep::sweep_each-loop-i : goal.invariant-sweep::sweep_each-loop-i
invariant-sweep::sweep_each-loop-i l = IsRestOf l.moment (take l.i l.children) l.goes l.left.items × (l.initial.goes ≡ true → l.goes ≡ true)

-- four times the depth, and more for the calls that leave the branch as it is
abbrev pub decreases-Branch::without_expired : goal.decreases-Branch::without_expired
decreases-Branch::without_expired l = l.self.now.depth * 4 + 2

abbrev pub decreases-Child::without_expired : goal.decreases-Child::without_expired
decreases-Child::without_expired l = l.self.now.depth * 4 + 3

abbrev pub decreases-sweep::sweep_each : goal.decreases-sweep::sweep_each
decreases-sweep::sweep_each l = depth l.children.now * 4 + 1

abbrev pub decreases-sweep::sweep_one : goal.decreases-sweep::sweep_one
decreases-sweep::sweep_one l = depth l.children.now * 4
