use Rattle.std.proofs.Common.{◌≡◌, ◌+◌, ◌≤◌, ◌∷◌, [], ℕ, List, false, subst, arith, refl, sym, ap, ◌∙◌}
use Rattle.std.proofs.lemmas.Result.{on_ok_weaker}
use Rattle.std.specs.List.{filter}
use Rattle.rs_tree_bucket.specs.Sweeping.{spot_stays}
use Rattle.rs_topic.specs.Rests.{levels_from}
use Rattle.rs_tree_bucket.specs.Spots.{IsFull, under}
use Rattle.rs_tree_branch.specs.Nodes.{stem_spots}
use Rattle.rs_tree_branch.specs.Rests.{IsRestOf}
use Rattle.rs_tree_branch.specs.Chunks.{depth}
use Rattle.rs_tree_branch.specs.Values.{BranchValue, ChildValue}
use Rattle.rs_tree_branch.proofs.Leaving.{chain_gone, chain_left, chain_stays, full_at, full_not, joined_left, level_left, none_is, rest_again, rest_gone, rest_unchanged, rest_none, rest_put, rest_whole, stays_all}
use Rattle.rs_tree_bucket.specs.Chains.{under_all}
use Rattle.rs_tree_branch.proofs.Stems.{full_below}
use Rattle.rs_tree_bucket.proofs.Spots.{Spots}
use Rattle.rs_tree_branch.proofs.Chunks.{deep_child}
use Rattle.rs_tree_branch.proofs.branch.+swept.Goals as goal

pub sweep::sweep_one-without_expired-requires : goal.sweep::sweep_one-without_expired-requires
sweep::sweep_one-without_expired-requires t c =
    let deep : c.index-children-i.result.depth + 1 ≤ depth c.args.children.now = deep_child c.args.children.now c.args.i c.index-children-i.result c.requires.within c.index-children-i.is in
    (omega arith, full_at c.args.children.now c.args.i c.index-children-i.result c.requires.within c.index-children-i.is c.requires.chunk)

pub sweep::sweep_each-loop-i-init : goal.sweep::sweep_each-loop-i-init
sweep::sweep_each-loop-i-init t c = (rest_none c.args.moment c.args.children.now c.new-left.result.items 0 c.args.goes.now c.new-left.ensures.items refl, λ h. h)

pub sweep::sweep_each-sweep_one-requires : goal.sweep::sweep_each-sweep_one-requires
sweep::sweep_each-sweep_one-requires t c = (omega arith, (c.requires, (omega (arith, c.loop-i-test.true), c.loop-i.invariant.0)))

pub sweep::sweep_each-loop-i-preserved : goal.sweep::sweep_each-loop-i-preserved
sweep::sweep_each-loop-i-preserved t c = (c.in_ok-sweep_one.ensures.left, λ h. c.sweep_one.ensures.noted (c.loop-i.invariant.1 h))

pub sweep::sweep_each-returns-clause-left : goal.sweep::sweep_each-returns-clause-left
sweep::sweep_each-returns-clause-left t c =
    let P : List ChildValue → Type 0 = λ l. IsRestOf c.args.moment c.args.children.now c.loop-i.goes l in
    subst P (sym c.shrink_to_fit.ensures.items) (rest_whole c.args.moment c.args.children.now c.loop-i.left.items c.loop-i.i c.loop-i.goes (omega (arith, c.loop-i-test.false)) c.loop-i.invariant.0)

pub Branch::without_expired-sweep_each-requires : goal.Branch::without_expired-sweep_each-requires
Branch::without_expired-sweep_each-requires t c =
    let whole : depth c.self.inside.children.items ≡ c.args.self.now.depth = ap (λ (v : BranchValue). v.depth) c.self.view_is in
    let same : depth c.as_slice.result.now ≡ depth c.self.inside.children.items = ap depth c.as_slice.ensures.value in
    (omega arith, rw c.as_slice.ensures.value c.self.invariant)

pub Child::without_expired-returns-then-moment-earliest : goal.Child::without_expired-returns-then-moment-earliest
Child::without_expired-returns-then-moment-earliest t c =
    let stays = stays_all c.args.moment c.in-Few.bucket (omega (arith, c.earliest.ensures, c.if-moment-earliest.true)) in
    rw (← c.self.view_is, c.in-Few.is) (chain_stays c.args.moment (c.self.inside.level ∷ []) c.in-Few.bucket stays)

pub Child::without_expired-returns-in_default : goal.Child::without_expired-returns-in_default
Child::without_expired-returns-in_default t c = rw (← c.self.view_is, c.in-Few.is) (chain_gone c.args.moment (c.self.inside.level ∷ []) c.in-Few.bucket [] (sym (rw c.in_default.is at c.in_ok-left-in-Few.ensures)) refl)

pub Child::without_expired-returns-in_ok-level-in-Few : goal.Child::without_expired-returns-in_ok-level-in-Few
Child::without_expired-returns-in_ok-level-in-Few t c =
    let left : (c.in-Some.left ≡ filter (spot_stays c.args.moment) c.in-Few.bucket) × IsFull c.in-Some.left = rw c.in-Some.is at c.in_ok-left-in-Few.ensures in
    rw (← c.self.view_is, c.in-Few.is) (level_left c.args.moment c.self.inside.level c.in_ok-level-in-Few.level c.in-Few.bucket c.in-Some.left c.in_ok-level-in-Few.ensures left.0 left.1)

pub Child::without_expired-returns-in_default-2 : goal.Child::without_expired-returns-in_default-2
Child::without_expired-returns-in_default-2 t c =
    let stem = c.in-Inner.stem.value in
    let stays : filter (spot_stays c.args.moment) stem.branch.spots ≡ stem.branch.spots = rw (c.deref.ensures, c.in_default-2.is) at c.in_ok-branch-in-Inner.ensures in
    rw (← c.self.view_is, c.in-Inner.is) (chain_stays c.args.moment (c.self.inside.level ∷ levels_from 1 stem.chain.items) stem.branch.spots stays)

pub Child::without_expired-returns-then-is_empty : goal.Child::without_expired-returns-then-is_empty
Child::without_expired-returns-then-is_empty t c =
    let stem = c.in-Inner.stem.value in
    let branch = c.in-Some-2.branch in
    let left : branch.spots ≡ filter (spot_stays c.args.moment) stem.branch.spots = rw (c.deref.ensures, c.in-Some-2.is) at c.in_ok-branch-in-Inner.ensures in
    rw (← c.self.view_is, c.in-Inner.is) (chain_gone c.args.moment (c.self.inside.level ∷ levels_from 1 stem.chain.items) stem.branch.spots branch.spots left (none_is branch.spots (sym c.is_empty.ensures ∙ c.if-is_empty.true)))

pub Child::without_expired-returns-in_ok-left-in-Inner : goal.Child::without_expired-returns-in_ok-left-in-Inner
Child::without_expired-returns-in_ok-left-in-Inner t c =
    let stem = c.in-Inner.stem.value in
    let branch = c.in-Some-2.branch in
    let new = c.in_ok-left-in-Inner.left.value in
    let ks = levels_from 1 stem.chain.items in
    let left : branch.spots ≡ filter (spot_stays c.args.moment) stem.branch.spots = rw (c.deref.ensures, c.in-Some-2.is) at c.in_ok-branch-in-Inner.ensures in
    let chain : c.in_ok-chain-in-Inner.chain.items ≡ stem.chain.items = rw (c.as_slice.ensures.value, c.deref-in-Inner.ensures) at c.in_ok-chain-in-Inner.ensures.items in
    let some : IsFull branch.spots = full_not branch.spots (sym c.is_empty.ensures ∙ c.if-is_empty.false) in
    let made : stem_spots new ≡ under_all ks branch.spots = ap stem_spots c.in_ok-left-in-Inner.ensures.ok ∙ ap (λ (l : List ℕ). under_all (levels_from 1 l) branch.spots) chain in
    let full : IsFull (stem_spots new) = (let P : Spots → Type 0 = λ w. IsFull w in subst P (sym made) (full_below ks branch.spots some)) in
    let level = c.self.inside.level in
    let was : ChildValue = record { level = level; is_chunk = false; spots = under level (stem_spots stem); depth = stem.branch.depth + 1 } in
    let built : ChildValue = record { level = c.in_ok-level-in-Inner.level; is_chunk = false; spots = under c.in_ok-level-in-Inner.level (stem_spots new); depth = new.branch.depth + 1 } in
    rw (← c.self.view_is, c.in-Inner.is) (joined_left c.args.moment was built c.join.new.self c.join.ensures.level c.join.ensures.same (level_left c.args.moment c.self.inside.level c.in_ok-level-in-Inner.level (stem_spots stem) (stem_spots new) c.in_ok-level-in-Inner.ensures (made ∙ chain_left c.args.moment ks stem.branch.spots branch.spots left) full))

pub sweep::sweep_one-returns-then-not-goes-clause-left : goal.sweep::sweep_one-returns-then-not-goes-clause-left
sweep::sweep_one-returns-then-not-goes-clause-left t c =
    rest_unchanged c.args.moment c.args.children.now c.args.i c.index-children-i.result c.requires.within c.index-children-i.is c.requires.chunk c.args.goes.now c.args.left.now.items c.if-not-goes.true c.requires.before (rw c.in-All.is at c.in_ok-without_expired.ensures)

pub sweep::sweep_one-returns-in_ok-push-in-All-clause-left : goal.sweep::sweep_one-returns-in_ok-push-in-All-clause-left
sweep::sweep_one-returns-in_ok-push-in-All-clause-left t c =
    rest_again c.args.moment c.args.children.now c.args.i c.index-children-i.result c.requires.within c.index-children-i.is c.requires.chunk c.args.goes.now c.args.left.now.items c.push.new.self.items c.in_ok-copy-in-All.field-0 c.if-not-goes.false c.requires.before c.in_ok-push-in-All.ensures.items c.in_ok-copy-in-All.ensures (rw c.in-All.is at c.in_ok-without_expired.ensures)
    (full_at c.args.children.now c.args.i c.index-children-i.result c.requires.within c.index-children-i.is c.requires.chunk)

pub sweep::sweep_one-returns-in_ok-push-in-Less-clause-left : goal.sweep::sweep_one-returns-in_ok-push-in-Less-clause-left
sweep::sweep_one-returns-in_ok-push-in-Less-clause-left t c =
    rest_put c.args.moment c.args.children.now c.args.i c.index-children-i.result c.requires.within c.index-children-i.is c.requires.chunk c.args.goes.now c.begin.new.goes c.args.left.now.items c.begin.new.left.items c.push-in-Less.new.self.items c.in-Less.less c.requires.before c.in_ok-begin-in-Less.ensures.left c.in_ok-begin-in-Less.ensures.begun c.in_ok-push-in-Less.ensures.items (rw c.in-Less.is at c.in_ok-without_expired.ensures)

pub sweep::sweep_one-returns-in-Nothing-clause-left : goal.sweep::sweep_one-returns-in-Nothing-clause-left
sweep::sweep_one-returns-in-Nothing-clause-left t c =
    on_ok_weaker c.begin-in-Nothing.result (λ h. rest_gone c.args.moment c.args.children.now c.args.i c.index-children-i.result c.requires.within c.index-children-i.is c.requires.chunk c.args.goes.now c.begin-in-Nothing.new.goes c.args.left.now.items c.begin-in-Nothing.new.left.items c.requires.before h c.begin-in-Nothing.ensures.begun (rw c.in-Nothing.is at c.in_ok-without_expired.ensures)) c.begin-in-Nothing.ensures.left
