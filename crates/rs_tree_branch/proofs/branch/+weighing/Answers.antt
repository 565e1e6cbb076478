use Rattle.std.proofs.Common.{◌≡◌, List, ◌+◌, ◌<◌, ◌≤◌, ◌^◌, ◌∷◌, [], refl, ap, sym, ◌∙◌, arith}
use Rattle.rs_topic.specs.Rests.{levels_from}
use Rattle.rs_tree_branch.specs.Spots.{own}
use Rattle.rs_tree_bucket.specs.Weights.{weight}
use Rattle.rs_tree_branch.proofs.Weighing.{weight_both, weight_chain, weight_none, weight_step}
use Rattle.rs_tree_branch.specs.Chunks.{depth, parts}
use Rattle.rs_tree_branch.specs.Values.{BranchValue, ChildValue}
use Rattle.rs_tree_branch.proofs.Chunks.{deep_child}
use Rattle.rs_tree_branch.proofs.branch.+weighing.Goals as goal

pub weighing::add_each-loop-child-init : goal.weighing::add_each-loop-child-init
weighing::add_each-loop-child-init t c = λ small. refl

pub weighing::add_each-loop-child-preserved : goal.weighing::add_each-loop-child-preserved
weighing::add_each-loop-child-preserved t c = λ small.
    let before = c.loop-child.invariant small in
    let step = weight_step c.args.children.now c.loop-child.child-index c.child-item.result (omega arith) c.child-item.is in
    let added = c.add_bytes.ensures (omega (arith, small, before, step)) in
    omega (arith, before, step, added)

pub weighing::add_each-add_bytes-requires : goal.weighing::add_each-add_bytes-requires
weighing::add_each-add_bytes-requires t c =
    let deep : c.child-item.result.depth + 1 ≤ depth c.args.children.now = deep_child c.args.children.now c.loop-child.child-index c.child-item.result (omega arith) c.child-item.is in
    omega arith

pub weighing::add_each-returns : goal.weighing::add_each-returns
weighing::add_each-returns t c = λ small.
    let last = c.loop-child.invariant small in
    omega (arith, last, weight_none c.args.children.now c.loop-child.child-index (omega arith))

pub Branch::add_bytes-returns : goal.Branch::add_bytes-returns
Branch::add_bytes-returns t c = λ small.
    let retained = c.self.inside.retained in
    let es = c.self.inside.children.items in
    let view = ap (λ (v : BranchValue). weight v.spots) c.self.view_is in
    let whole = weight_both (own retained) (parts es) in
    let same = ap (λ (w : List ChildValue). weight (parts w)) c.as_slice.ensures.value in
    let first = c.add_retained.ensures (omega (arith, small, whole, view)) in
    let others = c.add_each.ensures (omega (arith, small, whole, view, first, same)) in
    omega (arith, first, others, same, whole, view)

pub Branch::add_bytes-add_each-requires : goal.Branch::add_bytes-add_each-requires
Branch::add_bytes-add_each-requires t c =
    let whole : depth c.self.inside.children.items ≡ c.args.self.now.depth = ap (λ (v : BranchValue). v.depth) c.self.view_is in
    let same : depth c.as_slice.result.now ≡ depth c.self.inside.children.items = ap depth c.as_slice.ensures.value in
    omega arith

pub Child::add_bytes-returns-in-Few : goal.Child::add_bytes-returns-in-Few
Child::add_bytes-returns-in-Few t c = λ small.
    let view = rw c.in-Few.is at (ap (λ (v : ChildValue). weight v.spots) c.self.view_is) in
    let chain = weight_chain (c.self.inside.level ∷ []) c.in-Few.bucket in
    let added = c.add_bytes.ensures (omega (arith, small, chain, view)) in
    omega (arith, added, chain, view)

pub Child::add_bytes-returns-in-Inner : goal.Child::add_bytes-returns-in-Inner
Child::add_bytes-returns-in-Inner t c = λ small.
    let stem = c.in-Inner.stem.value in
    let view = rw c.in-Inner.is at (ap (λ (v : ChildValue). weight v.spots) c.self.view_is) in
    let chain = weight_chain (c.self.inside.level ∷ levels_from 1 stem.chain.items) stem.branch.spots in
    let added = (rw c.deref.ensures at c.add_bytes-in-Inner.ensures) (omega (arith, small, chain, view)) in
    omega (arith, added, chain, view)
