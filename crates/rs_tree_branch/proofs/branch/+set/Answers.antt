use Rattle.std.proofs.Common.{◌≡◌, ◌+◌, ◌<◌, ◌≤◌, ◌∷◌, [], List, arith, length, refl, sym, ap, ◌∙◌, Some}
use Rattle.std.proofs.lemmas.Result.{on_ok_weaker, on_err_weaker}
use Rattle.rs_topic.specs.Rests.{levels_from}
use Rattle.rs_tree_bucket.specs.Spots.{IsFull, spot_of, under}
use Rattle.rs_tree_branch.proofs.Under.{if_err}
use Rattle.rs_tree_branch.specs.Chunks.{IsGap, IsIn, depth}
use Rattle.rs_tree_bucket.specs.Chains.{behind, under_all}
use Rattle.rs_tree_bucket.proofs.Chains.{behind_is}
use Rattle.rs_tree_branch.proofs.Stems.{full_inside, set_whole, found_whole}
use Rattle.rs_tree_branch.specs.Nodes.{stem_spots}
use Rattle.rs_tree_branch.specs.Values.{BranchValue, ChildValue}
use Rattle.rs_tree_branch.proofs.Growing.{chunk_grown, chunk_new, chunk_same, full_child, grown_gap, grown_in, grown_under, own_first, same_in, was_under}
use Rattle.rs_tree_branch.proofs.Chunks.{deep_child, leads_child, found_child, found_gap, found_own}
use Rattle.rs_tree_branch.proofs.branch.+set.Goals as goal

pub Branch::set-returns-in_default-clause-done : goal.Branch::set-returns-in_default-clause-done
Branch::set-returns-in_default-clause-done t c =
    let e : levels_from c.args.at c.args.found.topic ≡ [] = rw (c.as_bytes.ensures.bytes, c.topic.ensures) at c.in_default.ensures.ended in
    rw (e, ← c.self.view_is, c.replace.ensures.after) (own_first c.self.inside.retained c.args.found c.self.inside.children.items c.self.invariant)

pub Branch::set-returns-in_default-clause-replaced : goal.Branch::set-returns-in_default-clause-replaced
Branch::set-returns-in_default-clause-replaced t c =
    let e : levels_from c.args.at c.args.found.topic ≡ [] = rw (c.as_bytes.ensures.bytes, c.topic.ensures) at c.in_default.ensures.ended in
    rw (e, ← c.self.view_is) (c.replace.ensures.value ∙ sym (found_own c.self.inside.retained c.self.inside.children.items c.self.invariant))

pub Branch::set-set-requires : goal.Branch::set-set-requires
Branch::set-set-requires t c =
    let es = c.self.inside.children.items in
    let e : levels_from c.args.at c.args.found.topic ≡ c.in-Some.level.now ∷ levels_from c.in-Some.next c.args.found.topic = rw (c.as_bytes.ensures.bytes, c.topic.ensures) at c.in-Some.ensures.more in
    let here : IsIn c.in-Some.level.now es c.in-Ok.i = rw c.as_slice.ensures.value at c.in-Ok.ensures.found in
    let small : c.in-Ok.i < length es = rw c.as_slice.ensures.value at c.in-Ok.ensures.within in
    let deep : c.index_mut.result.now.depth + 1 ≤ depth es = deep_child es c.in-Ok.i c.index_mut.result.now small c.index_mut.ensures.value in
    let whole : depth es ≡ c.args.self.now.depth = ap (λ (v : BranchValue). v.depth) c.self.view_is in (
      omega arith,
      (
        full_child c.self.inside.retained es c.self.invariant c.in-Some.level.now (levels_from c.in-Some.next c.args.found.topic) c.args.found c.in-Ok.i c.index_mut.result.now small c.index_mut.ensures.value,
        rw e (leads_child c.self.inside.retained es c.self.invariant c.in-Some.level.now (levels_from c.in-Some.next c.args.found.topic) c.in-Ok.i c.index_mut.result.now here c.index_mut.ensures.value),
      ),
    )

pub Branch::set-invariant_of-self-in_err-old-in-Ok : goal.Branch::set-invariant_of-self-in_err-old-in-Ok
Branch::set-invariant_of-self-in_err-old-in-Ok t c =
    let es = c.self.inside.children.items in
    let here : IsIn c.in-Some.level.now es c.in-Ok.i = rw c.as_slice.ensures.value at c.in-Ok.ensures.found in
    let small : c.in-Ok.i < length es = rw c.as_slice.ensures.value at c.in-Ok.ensures.within in
    chunk_same c.self.inside.retained es c.self.invariant c.in-Some.level.now (levels_from c.in-Some.next c.args.found.topic) c.args.found c.in-Ok.i c.index_mut.result.now c.set.new.self small here c.index_mut.ensures.value c.set.ensures.level c.in_err-old-in-Ok.ensures.refused

pub Branch::set-invariant_of-self-then-is_some : goal.Branch::set-invariant_of-self-then-is_some
Branch::set-invariant_of-self-then-is_some t c =
    let es = c.self.inside.children.items in
    let e : levels_from c.args.at c.args.found.topic ≡ c.in-Some.level.now ∷ levels_from c.in-Some.next c.args.found.topic = rw (c.as_bytes.ensures.bytes, c.topic.ensures) at c.in-Some.ensures.more in
    let here : IsIn c.in-Some.level.now es c.in-Ok.i = rw c.as_slice.ensures.value at c.in-Ok.ensures.found in
    let small : c.in-Ok.i < length es = rw c.as_slice.ensures.value at c.in-Ok.ensures.within in
    chunk_grown c.self.inside.retained es c.self.invariant c.in-Some.level.now (levels_from c.in-Some.next c.args.found.topic) c.args.found c.in-Ok.i c.index_mut.result.now c.set.new.self small here c.index_mut.ensures.value c.set.ensures.level (rw e at c.in_ok-old-in-Ok.ensures.done)

pub Branch::set-invariant_of-self-in-Ok : goal.Branch::set-invariant_of-self-in-Ok
Branch::set-invariant_of-self-in-Ok t c =
    let es = c.self.inside.children.items in
    let e : levels_from c.args.at c.args.found.topic ≡ c.in-Some.level.now ∷ levels_from c.in-Some.next c.args.found.topic = rw (c.as_bytes.ensures.bytes, c.topic.ensures) at c.in-Some.ensures.more in
    let here : IsIn c.in-Some.level.now es c.in-Ok.i = rw c.as_slice.ensures.value at c.in-Ok.ensures.found in
    let small : c.in-Ok.i < length es = rw c.as_slice.ensures.value at c.in-Ok.ensures.within in
    chunk_grown c.self.inside.retained es c.self.invariant c.in-Some.level.now (levels_from c.in-Some.next c.args.found.topic) c.args.found c.in-Ok.i c.index_mut.result.now c.set.new.self small here c.index_mut.ensures.value c.set.ensures.level (rw e at c.in_ok-old-in-Ok.ensures.done)

pub Branch::set-invariant_of-self-in-Err : goal.Branch::set-invariant_of-self-in-Err
Branch::set-invariant_of-self-in-Err t c =
    let es = c.self.inside.children.items in
    let here : IsGap c.in-Some.level.now es c.in-Err.i = rw c.as_slice.ensures.value at c.in-Err.ensures.found in
    let level = c.in_ok-child-in-Err.ensures.level ∙ c.in_ok-label-in-Err.ensures in
    let spots : c.in_ok-child-in-Err.child.spots ≡ (c.in-Some.level.now ∷ levels_from c.in-Some.next c.args.found.topic, c.args.found) ∷ [] = c.in_ok-child-in-Err.ensures.spots ∙ ap (λ (k : List _). under k (spot_of c.in-Some.next c.args.found ∷ [])) c.in_ok-label-in-Err.ensures in
    rw (c.in_ok-insert_at-in-Err.ensures.done) (chunk_new c.in-Some.level.now (levels_from c.in-Some.next c.args.found.topic) c.args.found es c.in-Err.i c.in_ok-child-in-Err.child c.self.invariant here level spots)

pub Branch::set-returns-then-is_some-clause-done : goal.Branch::set-returns-then-is_some-clause-done
Branch::set-returns-then-is_some-clause-done t c =
    let es = c.self.inside.children.items in
    let e : levels_from c.args.at c.args.found.topic ≡ c.in-Some.level.now ∷ levels_from c.in-Some.next c.args.found.topic = rw (c.as_bytes.ensures.bytes, c.topic.ensures) at c.in-Some.ensures.more in
    let here : IsIn c.in-Some.level.now es c.in-Ok.i = rw c.as_slice.ensures.value at c.in-Ok.ensures.found in
    let small : c.in-Ok.i < length es = rw c.as_slice.ensures.value at c.in-Ok.ensures.within in
    rw (e, ← c.self.view_is) (grown_in c.self.inside.retained es c.self.invariant c.in-Some.level.now (levels_from c.in-Some.next c.args.found.topic) c.args.found c.in-Ok.i c.index_mut.result.now c.set.new.self small here c.index_mut.ensures.value (rw e at c.in_ok-old-in-Ok.ensures.done))

pub Branch::set-returns-else-is_some-clause-done : goal.Branch::set-returns-else-is_some-clause-done
Branch::set-returns-else-is_some-clause-done t c =
    let es = c.self.inside.children.items in
    let e : levels_from c.args.at c.args.found.topic ≡ c.in-Some.level.now ∷ levels_from c.in-Some.next c.args.found.topic = rw (c.as_bytes.ensures.bytes, c.topic.ensures) at c.in-Some.ensures.more in
    let here : IsIn c.in-Some.level.now es c.in-Ok.i = rw c.as_slice.ensures.value at c.in-Ok.ensures.found in
    let small : c.in-Ok.i < length es = rw c.as_slice.ensures.value at c.in-Ok.ensures.within in
    rw (e, ← c.self.view_is) (c.divide.ensures ∙ grown_in c.self.inside.retained es c.self.invariant c.in-Some.level.now (levels_from c.in-Some.next c.args.found.topic) c.args.found c.in-Ok.i c.index_mut.result.now c.set.new.self small here c.index_mut.ensures.value (rw e at c.in_ok-old-in-Ok.ensures.done))

pub Branch::set-returns-then-is_some-clause-replaced : goal.Branch::set-returns-then-is_some-clause-replaced
Branch::set-returns-then-is_some-clause-replaced t c =
    let es = c.self.inside.children.items in
    let e : levels_from c.args.at c.args.found.topic ≡ c.in-Some.level.now ∷ levels_from c.in-Some.next c.args.found.topic = rw (c.as_bytes.ensures.bytes, c.topic.ensures) at c.in-Some.ensures.more in
    let here : IsIn c.in-Some.level.now es c.in-Ok.i = rw c.as_slice.ensures.value at c.in-Ok.ensures.found in
    let small : c.in-Ok.i < length es = rw c.as_slice.ensures.value at c.in-Ok.ensures.within in
    rw (e, ← c.self.view_is) (((rw e at c.in_ok-old-in-Ok.ensures.replaced) ∙ found_child c.self.inside.retained es c.self.invariant c.in-Some.level.now (levels_from c.in-Some.next c.args.found.topic) c.in-Ok.i c.index_mut.result.now small here c.index_mut.ensures.value))

pub Branch::set-returns-else-is_some-clause-replaced : goal.Branch::set-returns-else-is_some-clause-replaced
Branch::set-returns-else-is_some-clause-replaced t c =
    let es = c.self.inside.children.items in
    let e : levels_from c.args.at c.args.found.topic ≡ c.in-Some.level.now ∷ levels_from c.in-Some.next c.args.found.topic = rw (c.as_bytes.ensures.bytes, c.topic.ensures) at c.in-Some.ensures.more in
    let here : IsIn c.in-Some.level.now es c.in-Ok.i = rw c.as_slice.ensures.value at c.in-Ok.ensures.found in
    let small : c.in-Ok.i < length es = rw c.as_slice.ensures.value at c.in-Ok.ensures.within in
    rw (e, ← c.self.view_is) (((rw e at c.in_ok-old-in-Ok.ensures.replaced) ∙ found_child c.self.inside.retained es c.self.invariant c.in-Some.level.now (levels_from c.in-Some.next c.args.found.topic) c.in-Ok.i c.index_mut.result.now small here c.index_mut.ensures.value))

pub Branch::set-returns-in_err-old-in-Ok-clause-refused : goal.Branch::set-returns-in_err-old-in-Ok-clause-refused
Branch::set-returns-in_err-old-in-Ok-clause-refused t c =
    let es = c.self.inside.children.items in
    let small : c.in-Ok.i < length es = rw c.as_slice.ensures.value at c.in-Ok.ensures.within in
    let same = same_in c.self.inside.retained es c.self.invariant c.in-Some.level.now (levels_from c.in-Some.next c.args.found.topic) c.args.found c.in-Ok.i c.index_mut.result.now c.set.new.self small c.index_mut.ensures.value c.in_err-old-in-Ok.ensures.refused in
    rw (← c.self.view_is) (if_err c.from_residual.result same)

pub Branch::set-returns-in_ok-insert_at-in-Err-clause-done : goal.Branch::set-returns-in_ok-insert_at-in-Err-clause-done
Branch::set-returns-in_ok-insert_at-in-Err-clause-done t c =
    let es = c.self.inside.children.items in
    let e : levels_from c.args.at c.args.found.topic ≡ c.in-Some.level.now ∷ levels_from c.in-Some.next c.args.found.topic = rw (c.as_bytes.ensures.bytes, c.topic.ensures) at c.in-Some.ensures.more in
    let here : IsGap c.in-Some.level.now es c.in-Err.i = rw c.as_slice.ensures.value at c.in-Err.ensures.found in
    let small : c.in-Err.i ≤ length es = rw c.as_slice.ensures.value at c.in-Err.ensures.up_to in
    let spots : c.in_ok-child-in-Err.child.spots ≡ (c.in-Some.level.now ∷ levels_from c.in-Some.next c.args.found.topic, c.args.found) ∷ [] = c.in_ok-child-in-Err.ensures.spots ∙ ap (λ (k : List _). under k (spot_of c.in-Some.next c.args.found ∷ [])) c.in_ok-label-in-Err.ensures in
    rw (e, ← c.self.view_is, c.in_ok-insert_at-in-Err.ensures.done) (grown_gap c.self.inside.retained es c.self.invariant c.in-Some.level.now (levels_from c.in-Some.next c.args.found.topic) c.args.found c.in-Err.i c.in_ok-child-in-Err.child small here spots)

pub Branch::set-returns-in_ok-insert_at-in-Err-clause-replaced : goal.Branch::set-returns-in_ok-insert_at-in-Err-clause-replaced
Branch::set-returns-in_ok-insert_at-in-Err-clause-replaced t c =
    let es = c.self.inside.children.items in
    let e : levels_from c.args.at c.args.found.topic ≡ c.in-Some.level.now ∷ levels_from c.in-Some.next c.args.found.topic = rw (c.as_bytes.ensures.bytes, c.topic.ensures) at c.in-Some.ensures.more in
    let here : IsGap c.in-Some.level.now es c.in-Err.i = rw c.as_slice.ensures.value at c.in-Err.ensures.found in
    rw (e, ← c.self.view_is) (sym (found_gap c.self.inside.retained es c.self.invariant c.in-Some.level.now (levels_from c.in-Some.next c.args.found.topic) c.in-Err.i here))

pub Child::set-returns-in-Few-clause-done : goal.Child::set-returns-in-Few-clause-done
Child::set-returns-in-Few-clause-done t c = rw (← c.self.view_is) (on_ok_weaker c.hold-done.result (λ h. c.split.ensures.same ∙ h) c.hold-done.ensures.done)

pub Child::set-returns-in-Few-clause-replaced : goal.Child::set-returns-in-Few-clause-replaced
Child::set-returns-in-Few-clause-replaced t c = rw (← c.self.view_is) c.hold-done.ensures.replaced

pub Child::set-returns-in-Few-clause-refused : goal.Child::set-returns-in-Few-clause-refused
Child::set-returns-in-Few-clause-refused t c = rw (← c.self.view_is) (on_err_weaker c.hold-done.result (λ h. c.split.ensures.same ∙ h) c.hold-done.ensures.refused)

pub Child::set-returns-in-Inner-clause-done : goal.Child::set-returns-in-Inner-clause-done
Child::set-returns-in-Inner-clause-done t c =
    let leads : levels_from c.args.at c.args.found.topic ≡ c.self.inside.level ∷ levels_from c.args.next c.args.found.topic = rw (← c.self.view_is, c.in-Inner.is) at c.requires.leads in
    rw (← c.self.view_is, c.in-Inner.is) (on_ok_weaker c.set.result (grown_under c.self.inside.level (levels_from c.args.next c.args.found.topic) (levels_from c.args.at c.args.found.topic) c.args.found leads (stem_spots c.in-Inner.stem.value) (stem_spots c.set.new.this.value)) c.set.ensures.done)

pub Child::set-returns-in-Inner-clause-replaced : goal.Child::set-returns-in-Inner-clause-replaced
Child::set-returns-in-Inner-clause-replaced t c =
    let leads : levels_from c.args.at c.args.found.topic ≡ c.self.inside.level ∷ levels_from c.args.next c.args.found.topic = rw (← c.self.view_is, c.in-Inner.is) at c.requires.leads in
    rw (← c.self.view_is, c.in-Inner.is) (was_under c.self.inside.level (levels_from c.args.next c.args.found.topic) (levels_from c.args.at c.args.found.topic) c.args.found leads c.set.result (stem_spots c.in-Inner.stem.value) c.set.ensures.replaced)

pub Child::set-returns-in-Inner-clause-refused : goal.Child::set-returns-in-Inner-clause-refused
Child::set-returns-in-Inner-clause-refused t c =
    rw (← c.self.view_is, c.in-Inner.is) (on_err_weaker c.set.result (λ h. ap (under c.self.inside.level) h) c.set.ensures.refused)

pub Child::set-set-requires : goal.Child::set-set-requires
Child::set-set-requires t c =
    let stem = c.in-Inner.stem.value in
    let deep : stem.branch.depth + 1 ≡ c.args.self.now.depth = rw c.in-Inner.is at (ap (λ (v : ChildValue). v.depth) c.self.view_is) in
    let full : IsFull (under c.self.inside.level (stem_spots stem)) = rw (← c.self.view_is, c.in-Inner.is) at c.requires.full in
    (omega arith, full_inside (c.self.inside.level ∷ levels_from 1 stem.chain.items) stem.branch.spots full)

pub Stem::set_here-returns-then-is_some-clause-done : goal.Stem::set_here-returns-then-is_some-clause-done
Stem::set_here-returns-then-is_some-clause-done t c =
    let stem = c.args.self.now in
    let ks = levels_from 1 stem.chain.items in
    let path = levels_from c.args.at c.args.found.topic in
    let rest = levels_from c.in-Some.next c.args.found.topic in
    let there : Some rest ≡ behind ks path = rw (c.as_slice.ensures.value, c.as_bytes.ensures.bytes, c.topic.ensures) at c.in-Some.ensures.value in
    set_whole ks path rest c.args.found stem.branch.spots c.set.new.self.spots (stem_spots stem) refl (behind_is ks path rest (sym there)) c.in_ok-old.ensures.done

pub Stem::set_here-returns-clause-done : goal.Stem::set_here-returns-clause-done
Stem::set_here-returns-clause-done t c =
    let stem = c.args.self.now in
    let ks = levels_from 1 stem.chain.items in
    let path = levels_from c.args.at c.args.found.topic in
    let rest = levels_from c.in-Some.next c.args.found.topic in
    let there : Some rest ≡ behind ks path = rw (c.as_slice.ensures.value, c.as_bytes.ensures.bytes, c.topic.ensures) at c.in-Some.ensures.value in
    ap (under_all ks) c.fold.ensures ∙ set_whole ks path rest c.args.found stem.branch.spots c.set.new.self.spots (stem_spots stem) refl (behind_is ks path rest (sym there)) c.in_ok-old.ensures.done

pub Stem::set_here-returns-then-is_some-clause-replaced : goal.Stem::set_here-returns-then-is_some-clause-replaced
Stem::set_here-returns-then-is_some-clause-replaced t c =
    let stem = c.args.self.now in
    let ks = levels_from 1 stem.chain.items in
    let path = levels_from c.args.at c.args.found.topic in
    let rest = levels_from c.in-Some.next c.args.found.topic in
    let there : Some rest ≡ behind ks path = rw (c.as_slice.ensures.value, c.as_bytes.ensures.bytes, c.topic.ensures) at c.in-Some.ensures.value in
    c.in_ok-old.ensures.replaced ∙ found_whole ks path rest stem.branch.spots (stem_spots stem) refl (behind_is ks path rest (sym there))

pub Stem::set_here-returns-clause-replaced : goal.Stem::set_here-returns-clause-replaced
Stem::set_here-returns-clause-replaced t c =
    let stem = c.args.self.now in
    let ks = levels_from 1 stem.chain.items in
    let path = levels_from c.args.at c.args.found.topic in
    let rest = levels_from c.in-Some.next c.args.found.topic in
    let there : Some rest ≡ behind ks path = rw (c.as_slice.ensures.value, c.as_bytes.ensures.bytes, c.topic.ensures) at c.in-Some.ensures.value in
    c.in_ok-old.ensures.replaced ∙ found_whole ks path rest stem.branch.spots (stem_spots stem) refl (behind_is ks path rest (sym there))
