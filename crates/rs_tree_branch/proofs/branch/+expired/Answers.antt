use Rattle.std.proofs.Common.{◌≡◌, List, ◌+◌, ◌≤◌, ◌∷◌, [], refl, ap, sym, ◌∙◌, arith, length, length-append}
use Rattle.std.specs.List.{filter}
use Rattle.rs_topic.specs.Rests.{levels_from}
use Rattle.rs_tree_branch.specs.Spots.{own}
use Rattle.rs_tree_bucket.specs.Sweeping.{is_expired_spot}
use Rattle.rs_tree_branch.proofs.Ends.{gone_both, gone_chain, gone_few, many_chain}
use Rattle.rs_tree_branch.specs.Chunks.{depth, parts}
use Rattle.rs_tree_branch.specs.Values.{BranchValue, ChildValue}
use Rattle.rs_tree_branch.proofs.Expiring.{gone_step, many_step, none_left}
use Rattle.rs_tree_bucket.proofs.Spots.{Spots}
use Rattle.rs_tree_branch.proofs.Chunks.{deep_child}
use Rattle.rs_tree_branch.proofs.branch.+expired.Goals as goal

pub expired::count_each-loop-child-init : goal.expired::count_each-loop-child-init
expired::count_each-loop-child-init t c = λ small. (refl, small)

pub expired::count_each-loop-child-preserved : goal.expired::count_each-loop-child-preserved
expired::count_each-loop-child-preserved t c = λ small.
    let before = c.loop-child.invariant small in
    let many = many_step c.args.children.now c.loop-child.child-index c.child-item.result (omega arith) c.child-item.is in
    let gone = gone_step c.args.children.now c.loop-child.child-index c.child-item.result (omega arith) c.child-item.is c.args.now in
    let counted = c.count_expired.ensures (omega (arith, before.1, many)) in
    (omega (arith, counted, before.0, gone), omega (arith, counted, before.1, many, gone_few c.args.now c.child-item.result.spots))

pub expired::count_each-count_expired-requires : goal.expired::count_each-count_expired-requires
expired::count_each-count_expired-requires t c =
    let deep : c.child-item.result.depth + 1 ≤ depth c.args.children.now = deep_child c.args.children.now c.loop-child.child-index c.child-item.result (omega arith) c.child-item.is in
    omega arith

pub expired::count_each-returns : goal.expired::count_each-returns
expired::count_each-returns t c = λ small.
    let last = c.loop-child.invariant small in
    let none = none_left c.args.children.now c.loop-child.child-index (omega arith) in
    omega (arith, last.0, ap (λ (w : Spots). length (filter (is_expired_spot c.args.now) w)) none)

pub Branch::count_expired-returns : goal.Branch::count_expired-returns
Branch::count_expired-returns t c = λ small.
    let retained = c.self.inside.retained in
    let es = c.self.inside.children.items in
    let view = ap (λ (v : BranchValue). length v.spots) c.self.view_is in
    let whole = length-append (own retained) (parts es) in
    let same = ap (λ (w : List ChildValue). length (parts w)) c.as_slice.ensures.value in
    let own_counted = c.count_retained.ensures (omega (arith, small, whole, view)) in
    let few = gone_few c.args.now (own retained) in
    let counted = c.count_each.ensures (omega (arith, small, whole, view, own_counted, few, same)) in
    let gone = ap (λ (w : List ChildValue). length (filter (is_expired_spot c.args.now) (parts w))) c.as_slice.ensures.value in
    rw (← c.self.view_is) (omega (arith, counted, own_counted, gone, gone_both c.args.now (own retained) (parts es)))

pub Branch::count_expired-count_each-requires : goal.Branch::count_expired-count_each-requires
Branch::count_expired-count_each-requires t c =
    let whole : depth c.self.inside.children.items ≡ c.args.self.now.depth = ap (λ (v : BranchValue). v.depth) c.self.view_is in
    let same : depth c.as_slice.result.now ≡ depth c.self.inside.children.items = ap depth c.as_slice.ensures.value in
    omega arith

pub Child::count_expired-returns-in-Few : goal.Child::count_expired-returns-in-Few
Child::count_expired-returns-in-Few t c = λ small.
    let view = rw c.in-Few.is at (ap (λ (v : ChildValue). length v.spots) c.self.view_is) in
    let counted = c.count_expired.ensures (omega (arith, small, many_chain (c.self.inside.level ∷ []) c.in-Few.bucket, view)) in
    rw (← c.self.view_is, c.in-Few.is) (counted ∙ ap (λ n. c.args.count.now + n) (sym (gone_chain c.args.now (c.self.inside.level ∷ []) c.in-Few.bucket)))

pub Child::count_expired-returns-in-Inner : goal.Child::count_expired-returns-in-Inner
Child::count_expired-returns-in-Inner t c = λ small.
    let stem = c.in-Inner.stem.value in
    let view = rw c.in-Inner.is at (ap (λ (v : ChildValue). length v.spots) c.self.view_is) in
    let few : c.args.count.now + length stem.branch.spots ≤ 65536 = omega (arith, small, many_chain (c.self.inside.level ∷ levels_from 1 stem.chain.items) stem.branch.spots, view) in
    let counted = (rw c.deref.ensures at c.count_expired-in-Inner.ensures) few in
    rw (← c.self.view_is, c.in-Inner.is) (counted ∙ ap (λ n. c.args.count.now + n) (sym (gone_chain c.args.now (c.self.inside.level ∷ levels_from 1 stem.chain.items) stem.branch.spots)))
