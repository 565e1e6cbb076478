use Rattle.std.proofs.Common.{◌≡◌, List, ◌+◌, ◌≤◌, ◌∷◌, [], ap, arith, length, length-append}
use Rattle.rs_topic.specs.Rests.{levels_from}
use Rattle.rs_tree_branch.specs.Spots.{own}
use Rattle.rs_tree_branch.proofs.Ends.{many_chain}
use Rattle.rs_tree_branch.specs.Chunks.{depth, parts}
use Rattle.rs_tree_branch.specs.Values.{BranchValue, ChildValue}
use Rattle.rs_tree_branch.proofs.Expiring.{many_step, none_left}
use Rattle.rs_tree_bucket.proofs.Spots.{Spots}
use Rattle.rs_tree_branch.proofs.Chunks.{deep_child}
use Rattle.rs_tree_branch.proofs.branch.+len.Goals as goal

pub len::len_of_each-loop-child-init : goal.len::len_of_each-loop-child-init
len::len_of_each-loop-child-init t c = λ small. omega arith

pub len::len_of_each-loop-child-preserved : goal.len::len_of_each-loop-child-preserved
len::len_of_each-loop-child-preserved t c = λ small.
    let before = c.loop-child.invariant small in
    let many = many_step c.args.children.now c.loop-child.child-index c.child-item.result (omega arith) c.child-item.is in
    let counted = c.len.ensures (omega (arith, small, before, many)) in
    omega (arith, small, before, many, counted)

pub len::len_of_each-len-requires : goal.len::len_of_each-len-requires
len::len_of_each-len-requires t c =
    let deep : c.child-item.result.depth + 1 ≤ depth c.args.children.now = deep_child c.args.children.now c.loop-child.child-index c.child-item.result (omega arith) c.child-item.is in
    omega arith

pub len::len_of_each-returns : goal.len::len_of_each-returns
len::len_of_each-returns t c = λ small.
    let last = c.loop-child.invariant small in
    let none = ap (λ (w : Spots). length w) (none_left c.args.children.now c.loop-child.child-index (omega arith)) in
    omega (arith, last, none)

pub Branch::len-returns : goal.Branch::len-returns
Branch::len-returns t c = λ small.
    let retained = c.self.inside.retained in
    let es = c.self.inside.children.items in
    let view = ap (λ (v : BranchValue). length v.spots) c.self.view_is in
    let whole = length-append (own retained) (parts es) in
    let same = ap (λ (w : List ChildValue). length (parts w)) c.as_slice.ensures.value in
    let below = c.len_of_each.ensures (omega (arith, small, whole, view, same)) in
    omega (arith, small, below, c.retained_len-own.ensures, whole, view, same)

pub Branch::len-len_of_each-requires : goal.Branch::len-len_of_each-requires
Branch::len-len_of_each-requires t c =
    let whole : depth c.self.inside.children.items ≡ c.args.self.now.depth = ap (λ (v : BranchValue). v.depth) c.self.view_is in
    let same : depth c.as_slice.result.now ≡ depth c.self.inside.children.items = ap depth c.as_slice.ensures.value in
    omega arith

pub Child::len-returns-in-Few : goal.Child::len-returns-in-Few
Child::len-returns-in-Few t c = λ small.
    let many = many_chain (c.self.inside.level ∷ []) c.in-Few.bucket in
    let view = rw c.in-Few.is at (ap (λ (v : ChildValue). length v.spots) c.self.view_is) in
    omega (arith, c.len.ensures, many, view)

pub Child::len-returns-in-Inner : goal.Child::len-returns-in-Inner
Child::len-returns-in-Inner t c = λ small.
    let stem = c.in-Inner.stem.value in
    let many = many_chain (c.self.inside.level ∷ levels_from 1 stem.chain.items) stem.branch.spots in
    let view = rw c.in-Inner.is at (ap (λ (v : ChildValue). length v.spots) c.self.view_is) in
    let counted = (rw c.deref.ensures at c.len-in-Inner.ensures) (omega (arith, small, many, view)) in
    omega (arith, counted, many, view)
