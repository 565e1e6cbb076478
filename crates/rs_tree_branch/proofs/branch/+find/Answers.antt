use Rattle.std.proofs.Common.{◌≡◌, ◌+◌, ◌<◌, ◌≤◌, ◌∷◌, arith, length, sym, ap, ◌∙◌, Some, None}
use Rattle.rs_tree_bucket.specs.Chains.{behind}
use Rattle.rs_topic.specs.Rests.{levels_from}
use Rattle.rs_tree_branch.proofs.Stems.{none_behind, found_behind}
use Rattle.rs_tree_branch.specs.Nodes.{stem_spots}
use Rattle.rs_tree_branch.specs.Chunks.{IsGap, IsIn, depth}
use Rattle.rs_tree_branch.specs.Values.{BranchValue}
use Rattle.rs_tree_branch.proofs.Chunks.{deep_child, leads_child, found_child, found_gap, found_own, found_under}
use Rattle.rs_tree_branch.proofs.branch.+find.Goals as goal

pub Branch::find-returns-in_default : goal.Branch::find-returns-in_default
Branch::find-returns-in_default t c = rw (c.in_default.ensures.ended, ← c.self.view_is) (c.as_ref.ensures.value ∙ sym (found_own c.self.inside.retained c.self.inside.children.items c.self.invariant))

pub Branch::find-find-requires : goal.Branch::find-find-requires
Branch::find-find-requires t c =
    let es = c.self.inside.children.items in
    let here : IsIn c.in-Some.level.now es c.in-Ok.i = rw c.as_slice.ensures.value at c.in-Ok.ensures.found in
    let small : c.in-Ok.i < length es = rw c.as_slice.ensures.value at c.in-Ok.ensures.within in
    let deep : c.index.result.now.depth + 1 ≤ depth es = deep_child es c.in-Ok.i c.index.result.now small c.index.ensures in
    let whole : depth es ≡ c.args.self.now.depth = ap (λ (v : BranchValue). v.depth) c.self.view_is in
    (omega arith, rw c.in-Some.ensures.more (leads_child c.self.inside.retained es c.self.invariant c.in-Some.level.now (levels_from c.in-Some.next c.args.topic.now) c.in-Ok.i c.index.result.now here c.index.ensures))

pub Branch::find-returns-in-Ok : goal.Branch::find-returns-in-Ok
Branch::find-returns-in-Ok t c =
    let es = c.self.inside.children.items in
    let here : IsIn c.in-Some.level.now es c.in-Ok.i = rw c.as_slice.ensures.value at c.in-Ok.ensures.found in
    let small : c.in-Ok.i < length es = rw c.as_slice.ensures.value at c.in-Ok.ensures.within in
    rw (← c.self.view_is) (c.find.ensures ∙ rw c.in-Some.ensures.more (found_child c.self.inside.retained es c.self.invariant c.in-Some.level.now (levels_from c.in-Some.next c.args.topic.now) c.in-Ok.i c.index.result.now small here c.index.ensures))

pub Branch::find-returns-in-Err : goal.Branch::find-returns-in-Err
Branch::find-returns-in-Err t c =
    let es = c.self.inside.children.items in
    let here : IsGap c.in-Some.level.now es c.in-Err.field-0 = rw c.as_slice.ensures.value at c.in-Err.ensures.found in
    rw (c.in-Some.ensures.more, ← c.self.view_is) (sym (found_gap c.self.inside.retained es c.self.invariant c.in-Some.level.now (levels_from c.in-Some.next c.args.topic.now) c.in-Err.field-0 here))

pub Child::find-returns-in-Few : goal.Child::find-returns-in-Few
Child::find-returns-in-Few t c =
    let leads : levels_from c.args.at c.args.topic.now ≡ c.self.inside.level ∷ levels_from c.args.next c.args.topic.now = rw (← c.self.view_is, c.in-Few.is) at c.requires in
    rw (← c.self.view_is, c.in-Few.is) (c.find.ensures ∙ found_under c.self.inside.level (levels_from c.args.next c.args.topic.now) (levels_from c.args.at c.args.topic.now) c.in-Few.bucket leads)

pub Child::find-returns-in-Inner : goal.Child::find-returns-in-Inner
Child::find-returns-in-Inner t c =
    let leads : levels_from c.args.at c.args.topic.now ≡ c.self.inside.level ∷ levels_from c.args.next c.args.topic.now = rw (← c.self.view_is, c.in-Inner.is) at c.requires in
    rw (← c.self.view_is, c.in-Inner.is) (c.find-in-Inner.ensures ∙ (rw c.deref.ensures (found_under c.self.inside.level (levels_from c.args.next c.args.topic.now) (levels_from c.args.at c.args.topic.now) (stem_spots c.in-Inner.stem.value) leads)))

pub Stem::find-returns-in-Some : goal.Stem::find-returns-in-Some
Stem::find-returns-in-Some t c =
    let stem = c.args.self.now in
    let there : Some (levels_from c.in-Some.next c.args.topic.now) ≡ behind (levels_from 1 stem.chain.items) (levels_from c.args.at c.args.topic.now) = rw c.as_slice.ensures.value at c.in-Some.ensures.value in
    c.find.ensures ∙ sym (found_behind (levels_from 1 stem.chain.items) (levels_from c.args.at c.args.topic.now) (levels_from c.in-Some.next c.args.topic.now) stem.branch.spots (sym there))

pub Stem::find-returns-in-None : goal.Stem::find-returns-in-None
Stem::find-returns-in-None t c =
    let stem = c.args.self.now in
    let none : None ≡ behind (levels_from 1 stem.chain.items) (levels_from c.args.at c.args.topic.now) = rw c.as_slice.ensures.value at c.in-None.ensures.value in
    sym (none_behind (levels_from 1 stem.chain.items) (levels_from c.args.at c.args.topic.now) stem.branch.spots (sym none))
