use Rattle.std.proofs.Common.{◌≡◌, take}
use Rattle.rs_tree_branch.proofs.branch.copies.Given as goal

abbrev pub invariant-loop-child : goal.invariant-loop-child
invariant-loop-child l = l.copies.items ≡ take l.child-index l.children
