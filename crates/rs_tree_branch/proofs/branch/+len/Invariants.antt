use Rattle.std.proofs.Common.{◌≡◌, ◌+◌, ◌*◌, ◌≤◌, drop, length}
use Rattle.rs_store.specs.declared.limit.TheConstants.{MAX_TOPICS}
use Rattle.rs_tree_branch.specs.Chunks.{depth, parts}
use Rattle.rs_tree_branch.proofs.branch.+len.Given as goal

abbrev pub invariant-len::len_of_each-loop-child : goal.invariant-len::len_of_each-loop-child
invariant-len::len_of_each-loop-child l = length (parts l.children) ≤ MAX_TOPICS → l.count + length (parts (drop l.child-index l.children)) ≡ length (parts l.children)

-- thrice the depth, and more for the calls that leave the branch as it is
abbrev pub decreases-Branch::len : goal.decreases-Branch::len
decreases-Branch::len l = l.self.now.depth * 3 + 2

abbrev pub decreases-Child::len : goal.decreases-Child::len
decreases-Child::len l = l.self.now.depth * 3 + 3

abbrev pub decreases-len::len_of_each : goal.decreases-len::len_of_each
decreases-len::len_of_each l = depth l.children.now * 3 + 1
