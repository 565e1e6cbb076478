use Rattle.std.proofs.Common.{◌≡◌, ℕ, ◌+◌, ◌≤◌, ◌∷◌, [], refl, ap, sym, ◌∙◌, arith}
use Rattle.rs_tree_bucket.specs.Expiring.{earliest}
use Rattle.rs_topic.specs.Rests.{levels_from}
use Rattle.rs_tree_branch.specs.Spots.{own}
use Rattle.rs_tree_branch.proofs.Ends.{earliest_both, earliest_chain}
use Rattle.rs_tree_branch.specs.Chunks.{depth, parts}
use Rattle.rs_tree_branch.specs.Values.{BranchValue}
use Rattle.rs_tree_branch.proofs.Expiring.{earliest_step, none_left}
use Rattle.rs_tree_branch.proofs.Chunks.{deep_child}
use Rattle.rs_tree_branch.proofs.branch.+earliest.Goals as goal

pub earliest::earliest_of_each-loop-child-init : goal.earliest::earliest_of_each-loop-child-init
earliest::earliest_of_each-loop-child-init t c = refl

pub earliest::earliest_of_each-loop-child-preserved : goal.earliest::earliest_of_each-loop-child-preserved
earliest::earliest_of_each-loop-child-preserved t c =
    earliest_step c.args.children.now c.loop-child.child-index c.child-item.result (omega arith) c.child-item.is c.loop-child.least c.earliest-least.result _ c.earliest-least.ensures c.loop-child.invariant

pub earliest::earliest_of_each-earliest-least-requires : goal.earliest::earliest_of_each-earliest-least-requires
earliest::earliest_of_each-earliest-least-requires t c =
    let deep : c.child-item.result.depth + 1 ≤ depth c.args.children.now = deep_child c.args.children.now c.loop-child.child-index c.child-item.result (omega arith) c.child-item.is in
    omega arith

pub earliest::earliest_of_each-returns : goal.earliest::earliest_of_each-returns
earliest::earliest_of_each-returns t c = ap (earliest c.loop-child.least) (sym (none_left c.args.children.now c.loop-child.child-index (omega arith))) ∙ c.loop-child.invariant

pub Branch::earliest-returns : goal.Branch::earliest-returns
Branch::earliest-returns t c =
    let retained = c.self.inside.retained in
    let es = c.self.inside.children.items in
    rw (← c.self.view_is) (c.earliest_of_each.ensures ∙ (ap (λ es. earliest c.earliest_of_retained-least.result (parts es)) c.as_slice.ensures.value ∙ (ap (λ (b : ℕ). earliest b (parts es)) c.earliest_of_retained-least.ensures ∙ sym (earliest_both c.args.bound (own retained) (parts es)))))

pub Branch::earliest-earliest_of_each-requires : goal.Branch::earliest-earliest_of_each-requires
Branch::earliest-earliest_of_each-requires t c =
    let whole : depth c.self.inside.children.items ≡ c.args.self.now.depth = ap (λ (v : BranchValue). v.depth) c.self.view_is in
    let same : depth c.as_slice.result.now ≡ depth c.self.inside.children.items = ap depth c.as_slice.ensures.value in
    omega arith

pub Child::earliest-returns-in-Few : goal.Child::earliest-returns-in-Few
Child::earliest-returns-in-Few t c = rw (← c.self.view_is, c.in-Few.is) (c.earliest.ensures ∙ sym (earliest_chain c.args.bound (c.self.inside.level ∷ []) c.in-Few.bucket))

pub Child::earliest-returns-in-Inner : goal.Child::earliest-returns-in-Inner
Child::earliest-returns-in-Inner t c =
    let stem = c.in-Inner.stem.value in
    rw (← c.self.view_is, c.in-Inner.is) ((rw c.deref.ensures at c.earliest-in-Inner.ensures) ∙ sym (earliest_chain c.args.bound (c.self.inside.level ∷ levels_from 1 stem.chain.items) stem.branch.spots))
