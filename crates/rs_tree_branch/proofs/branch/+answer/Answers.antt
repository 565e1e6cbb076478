use Rattle.std.proofs.Common.{◌≡◌, ℕ, List, ◌+◌, ◌≤◌, subst, Err, ◌<◌, ◌∷◌, [], true, false, length, refl, sym, ap, ◌∙◌, arith, Some, None}
use Rattle.rs_topic.specs.Matching.{fits}
use Rattle.rs_tree_bucket.specs.Chains.{past}
use Rattle.rs_tree_bucket.specs.Chosen.{chosen, own_chosen}
use Rattle.rs_topic.specs.Rests.{levels_from}
use Rattle.rs_tree_branch.proofs.Stems.{chosen_past, none_past}
use Rattle.rs_tree_branch.specs.Nodes.{stem_spots}
use Rattle.rs_tree_branch.specs.Chunks.{IsGap, IsIn, Takes, depth, parts}
use Rattle.rs_tree_branch.specs.Values.{BranchValue, ChildValue}
use Rattle.rs_tree_branch.proofs.Choosing.{all_of, ended, exact_gap, exact_in, gives_none, gives_of, gives_same, gives_stop, gives_then, hash_steps, plus_of, plus_steps, so_far_end, so_far_more, so_far_stop, steps_in, takes_in}
use Rattle.rs_tree_branch.proofs.Chosen.{goes}
use Rattle.rs_tree_branch.proofs.Chunks.{deep_child, edge_at}
use Rattle.rs_tree_branch.proofs.branch.+answer.Goals as goal

pub answers::answer_each-loop-child-init : goal.answers::answer_each-loop-child-init
answers::answer_each-loop-child-init t c = (refl, refl)

pub answers::answer_each-loop-child-preserved : goal.answers::answer_each-loop-child-preserved
answers::answer_each-loop-child-preserved t c =
    so_far_more (fits (levels_from c.args.at c.args.filter.now)) c.args.now c.args.answer.now c.loop-child.answer c.answer.new.answer c.args.children.now c.loop-child.child-index c.child-item.result (omega arith) c.child-item.is c.loop-child.invariant c.in-Ok.ensures

pub answers::answer_each-answer-requires : goal.answers::answer_each-answer-requires
answers::answer_each-answer-requires t c =
    let deep : c.child-item.result.depth + 1 ≤ depth c.args.children.now = deep_child c.args.children.now c.loop-child.child-index c.child-item.result (omega arith) c.child-item.is in
    (omega arith, steps_in c.child-item.result (levels_from c.args.at c.args.filter.now) (levels_from c.args.next c.args.filter.now) c.requires)

pub answers::answer_each-returns-in-Err : goal.answers::answer_each-returns-in-Err
answers::answer_each-returns-in-Err t c =
    so_far_stop (fits (levels_from c.args.at c.args.filter.now)) c.args.now c.args.answer.now c.loop-child.answer c.answer.new.answer c.args.children.now c.loop-child.child-index c.child-item.result c.in-Err.stop (omega arith) c.child-item.is c.loop-child.invariant c.in-Err.ensures

pub answers::answer_each-returns : goal.answers::answer_each-returns
answers::answer_each-returns t c = so_far_end (fits (levels_from c.args.at c.args.filter.now)) c.args.now c.args.answer.now c.loop-child.answer c.loop-child.answer c.args.children.now c.loop-child.child-index (omega arith) c.loop-child.invariant

pub Child::answer-returns-in-Few : goal.Child::answer-returns-in-Few
Child::answer-returns-in-Few t c =
    let pattern = levels_from c.args.at c.args.filter.now in
    let rest = levels_from c.args.next c.args.filter.now in
    let enters : (p : List (List ℕ)) → fits pattern (c.self.inside.level ∷ p) ≡ fits rest p = rw (← c.self.view_is, c.in-Few.is) at c.requires in
    rw (← c.self.view_is, c.in-Few.is)
    (gives_same c.answer.result c.args.answer.now c.answer.new.answer _ _ (sym (goes (fits pattern) (fits rest) c.args.now c.self.inside.level enters c.in-Few.bucket)) (gives_of c.answer.result c.args.answer.now c.answer.new.answer _ c.answer.ensures.done c.answer.ensures.stop c.answer.ensures.room))

pub Child::answer-returns-in-Inner : goal.Child::answer-returns-in-Inner
Child::answer-returns-in-Inner t c =
    let pattern = levels_from c.args.at c.args.filter.now in
    let rest = levels_from c.args.next c.args.filter.now in
    let spots = stem_spots c.in-Inner.stem.value in
    let enters : (p : List (List ℕ)) → fits pattern (c.self.inside.level ∷ p) ≡ fits rest p = rw (← c.self.view_is, c.in-Inner.is) at c.requires in
    rw (← c.self.view_is, c.in-Inner.is)
    (gives_same c.answer-in-Inner.result c.args.answer.now c.answer-in-Inner.new.answer _ _ (sym (goes (fits pattern) (fits rest) c.args.now c.self.inside.level enters spots)) (rw c.deref.ensures at c.answer-in-Inner.ensures))

pub Stem::answer-returns-in-Some : goal.Stem::answer-returns-in-Some
Stem::answer-returns-in-Some t c =
    let stem = c.args.self.now in
    let there : Some (levels_from c.in-Some.next c.args.filter.now) ≡ past (levels_from 1 stem.chain.items) (levels_from c.args.at c.args.filter.now) = rw c.as_slice.ensures.value at c.in-Some.ensures in
    let same = chosen_past (levels_from 1 stem.chain.items) (levels_from c.args.at c.args.filter.now) (levels_from c.in-Some.next c.args.filter.now) c.args.now stem.branch.spots (sym there) in
    gives_same c.answer.result c.args.answer.now c.answer.new.answer _ _ (sym same) c.answer.ensures

pub Stem::answer-returns-in-None : goal.Stem::answer-returns-in-None
Stem::answer-returns-in-None t c =
    let stem = c.args.self.now in
    let none : None ≡ past (levels_from 1 stem.chain.items) (levels_from c.args.at c.args.filter.now) = rw c.as_slice.ensures.value at c.in-None.ensures in
    gives_none c.args.answer.now _ (none_past (levels_from 1 stem.chain.items) (levels_from c.args.at c.args.filter.now) c.args.now stem.branch.spots (sym none))

pub Branch::answer-returns-in_default : goal.Branch::answer-returns-in_default
Branch::answer-returns-in_default t c =
    rw (c.in_default.ensures.ended, ← c.self.view_is) (gives_same c.answer_retained.result c.args.answer.now c.answer_retained.new.answer _ _ (sym (ended c.self.inside.retained c.self.inside.children.items c.args.now c.self.invariant)) c.answer_retained.ensures)

pub Branch::answer-returns-in-Err : goal.Branch::answer-returns-in-Err
Branch::answer-returns-in-Err t c =
    let filter = c.args.filter.now in
    let ends = sym c.is_all_below.ensures ∙ c.if-is_all_below.true in
    let es = c.self.inside.children.items in
    rw (← c.self.view_is) (gives_same {T = Unit {0}} (Err c.in-Err.stop) c.args.answer.now c.answer_retained-then-is_all_below.new.answer _ _ (all_of (levels_from c.args.at filter) c.in-Some.level.now (levels_from c.in-Some.next filter) c.self.inside.retained es c.args.now c.in-Some.ensures.more ends)
    (gives_stop c.in-Err.stop c.args.answer.now c.answer_retained-then-is_all_below.new.answer (own_chosen c.args.now c.self.inside.retained) (chosen (levels_from c.args.at filter) c.args.now (parts es)) c.in-Err.ensures))

pub Branch::answer-answer_each-requires : goal.Branch::answer-answer_each-requires
Branch::answer-answer_each-requires t c =
    let filter = c.args.filter.now in
    let ends = sym c.is_all_below.ensures ∙ c.if-is_all_below.true in
    let whole : depth c.self.inside.children.items ≡ c.args.self.now.depth = ap (λ (v : BranchValue). v.depth) c.self.view_is in
    let same : depth c.as_slice.result.now ≡ depth c.self.inside.children.items = ap depth c.as_slice.ensures.value in
    (omega arith, hash_steps (levels_from c.args.at filter) c.in-Some.level.now (levels_from c.in-Some.next filter) c.in-Some.ensures.more ends)

pub Branch::answer-answer_each-requires-then-is_plus : goal.Branch::answer-answer_each-requires-then-is_plus
Branch::answer-answer_each-requires-then-is_plus t c =
    let filter = c.args.filter.now in
    let more = levels_from c.in-Some.next filter in
    let ends : fits (c.in-Some.level.now ∷ more) [] ≡ false = sym c.is_all_below.ensures ∙ c.if-is_all_below.false in
    let whole : depth c.self.inside.children.items ≡ c.args.self.now.depth = ap (λ (v : BranchValue). v.depth) c.self.view_is in
    let same : depth c.as_slice-then-is_plus.result.now ≡ depth c.self.inside.children.items = ap depth c.as_slice-then-is_plus.ensures.value in
    (omega arith, plus_steps (levels_from c.args.at filter) c.in-Some.level.now more c.in-Some.ensures.more ends (sym c.is_plus.ensures ∙ c.if-is_plus.true))

pub Branch::answer-answer-requires : goal.Branch::answer-answer-requires
Branch::answer-answer-requires t c =
    let filter = c.args.filter.now in
    let ends = sym c.is_all_below.ensures ∙ c.if-is_all_below.false in
    let es = c.self.inside.children.items in
    let here : IsIn c.in-Some.level.now es c.in-Ok.i = rw c.as_slice-2.ensures.value at c.in-Ok.ensures.found in
    let small : c.in-Ok.i < length es = rw c.as_slice-2.ensures.value at c.in-Ok.ensures.within in
    let deep : c.index.result.now.depth + 1 ≤ depth es = deep_child es c.in-Ok.i c.index.result.now small c.index.ensures in
    let whole : depth es ≡ c.args.self.now.depth = ap (λ (v : BranchValue). v.depth) c.self.view_is in
    let takes : Takes c.in-Some.level.now c.index.result.now = (let P : ChildValue → Type 0 = λ w. Takes c.in-Some.level.now w in subst P (sym c.index.ensures) (edge_at (Takes c.in-Some.level.now) c.in-Some.level.now es c.in-Ok.i c.index.result.now here)) in
    (omega arith, rw c.in-Some.ensures.more (takes_in c.in-Some.level.now (levels_from c.in-Some.next filter) c.index.result.now (sym c.is_plus.ensures ∙ c.if-is_plus.false) ends takes))

pub Branch::answer-returns-in-Ok : goal.Branch::answer-returns-in-Ok
Branch::answer-returns-in-Ok t c =
    let filter = c.args.filter.now in
    let ends = sym c.is_all_below.ensures ∙ c.if-is_all_below.false in
    let es = c.self.inside.children.items in
    let here : IsIn c.in-Some.level.now es c.in-Ok.i = rw c.as_slice-2.ensures.value at c.in-Ok.ensures.found in
    let small : c.in-Ok.i < length es = rw c.as_slice-2.ensures.value at c.in-Ok.ensures.within in
    rw (← c.self.view_is) (gives_same c.answer.result c.args.answer.now c.answer.new.answer _ _ (rw c.in-Some.ensures.more (exact_in c.in-Some.level.now (levels_from c.in-Some.next filter) c.args.now (sym c.is_plus.ensures ∙ c.if-is_plus.false) ends c.self.inside.retained es c.self.invariant c.in-Ok.i c.index.result.now small here c.index.ensures)) c.answer.ensures)

pub Branch::answer-returns-in-Err-index_of : goal.Branch::answer-returns-in-Err-index_of
Branch::answer-returns-in-Err-index_of t c =
    let filter = c.args.filter.now in
    let more = levels_from c.in-Some.next filter in
    let ends : fits (c.in-Some.level.now ∷ more) [] ≡ false = sym c.is_all_below.ensures ∙ c.if-is_all_below.false in
    let es = c.self.inside.children.items in
    let here : IsGap c.in-Some.level.now es c.in-Err-index_of.field-0 = rw c.as_slice-2.ensures.value at c.in-Err-index_of.ensures.found in
    rw (← c.self.view_is) (gives_none c.args.answer.now _ (rw c.in-Some.ensures.more (exact_gap c.in-Some.level.now more c.args.now (sym c.is_plus.ensures ∙ c.if-is_plus.false) ends c.self.inside.retained es c.self.invariant c.in-Err-index_of.field-0 here)))

pub Branch::answer-returns-then-is_all_below : goal.Branch::answer-returns-then-is_all_below
Branch::answer-returns-then-is_all_below t c =
    let filter = c.args.filter.now in
    let more = levels_from c.in-Some.next filter in
    let ends : fits (c.in-Some.level.now ∷ more) [] ≡ true = sym c.is_all_below.ensures ∙ c.if-is_all_below.true in
    let es = c.self.inside.children.items in
    rw (← c.self.view_is) (gives_same c.answer_each.result c.args.answer.now c.answer_each.new.answer _ _ (all_of (levels_from c.args.at filter) c.in-Some.level.now more c.self.inside.retained es c.args.now c.in-Some.ensures.more ends)
    (gives_then c.answer_each.result c.args.answer.now c.answer_retained-then-is_all_below.new.answer c.answer_each.new.answer (own_chosen c.args.now c.self.inside.retained) (chosen (levels_from c.args.at filter) c.args.now (parts es)) c.in_default-answer_retained.ensures.0 c.in_default-answer_retained.ensures.1
    (rw c.as_slice.ensures.value at c.answer_each.ensures)))

pub Branch::answer-returns-then-is_plus : goal.Branch::answer-returns-then-is_plus
Branch::answer-returns-then-is_plus t c =
    let filter = c.args.filter.now in
    let more = levels_from c.in-Some.next filter in
    let ends : fits (c.in-Some.level.now ∷ more) [] ≡ false = sym c.is_all_below.ensures ∙ c.if-is_all_below.false in
    let es = c.self.inside.children.items in
    rw (← c.self.view_is) (gives_same c.answer_each-then-is_plus.result c.args.answer.now c.answer_each-then-is_plus.new.answer _ _ (plus_of (levels_from c.args.at filter) c.in-Some.level.now more c.self.inside.retained es c.args.now c.in-Some.ensures.more ends)
    (rw c.as_slice-then-is_plus.ensures.value at c.answer_each-then-is_plus.ensures))
