use Rattle.std.proofs.Common.{◌≡◌, ◌+◌, ◌*◌, ◌++◌, take}
use Rattle.rs_tree_branch.specs.Chunks.{IsChunk, depth, parts}
use Rattle.rs_tree_branch.proofs.branch.+flat.Given as goal

abbrev pub invariant-flat::flatten_each-loop-i : goal.invariant-flat::flatten_each-loop-i
invariant-flat::flatten_each-loop-i l = IsChunk l.flat.items × (parts l.flat.items ≡ parts l.initial.flat.items ++ parts (take l.i l.children))

-- thrice the depth, and more for the calls that leave the branch as it is
abbrev pub decreases-Branch::flatten_into : goal.decreases-Branch::flatten_into
decreases-Branch::flatten_into l = l.self.now.depth * 3 + 2

abbrev pub decreases-Child::flatten_into : goal.decreases-Child::flatten_into
decreases-Child::flatten_into l = l.self.now.depth * 3 + 3

abbrev pub decreases-flat::flatten_each : goal.decreases-flat::flatten_each
decreases-flat::flatten_each l = depth l.children.now * 3 + 1
