use Rattle.std.proofs.Common.{◌≡◌, ◌+◌, ◌<◌, ◌≤◌, ◌∷◌, ◌++◌, List, arith, length, refl, subst, sym, ap, ◌∙◌, Some, None, is_some}
use Rattle.std.proofs.Math.ListN.{length-set}
use Rattle.rs_tree_bucket.specs.Chains.{behind, under_all}
use Rattle.rs_topic.specs.Rests.{levels_from}
use Rattle.rs_tree_branch.specs.Spots.{own}
use Rattle.rs_tree_bucket.specs.Spots.{under}
use Rattle.rs_tree_bucket.specs.Clearing.{Clears, ClearsAs}
use Rattle.rs_tree_branch.specs.Nodes.{stem_spots}
use Rattle.rs_tree_branch.specs.Chunks.{IsGap, IsIn, depth, parts}
use Rattle.rs_tree_branch.specs.Values.{BranchValue, ChildValue}
use Rattle.rs_tree_branch.proofs.Clearing.{chunk_cleared, chunk_removed, chunk_unchanged, clears_chain, clears_child, clears_last, clears_left, clears_level, clears_missing, clears_none, clears_same, remove_set}
use Rattle.rs_tree_bucket.proofs.Spots.{Spots}
use Rattle.rs_tree_branch.proofs.Chunks.{deep_child, leads_child, found_gap}
use Rattle.rs_tree_bucket.specs.declared.cleared.Cleared.TheVariants.{Last, Left, Missing}
use Rattle.rs_tree_branch.proofs.branch.+clear.Goals as goal

pub Child::clear-returns-in-Few-clause-cleared : goal.Child::clear-returns-in-Few-clause-cleared
Child::clear-returns-in-Few-clause-cleared t c =
    let leads : levels_from c.args.at c.args.topic.now ≡ c.self.inside.level ∷ levels_from c.args.next c.args.topic.now = rw (← c.self.view_is, c.in-Few.is) at c.requires in
    rw (← c.self.view_is, c.in-Few.is) (clears_level c.self.inside.level (levels_from c.args.next c.args.topic.now) (levels_from c.args.at c.args.topic.now) c.clear_few.result c.in-Few.bucket c.clear_few.new.self leads c.clear_few.ensures)

pub Child::clear-returns-in-Inner-clause-cleared : goal.Child::clear-returns-in-Inner-clause-cleared
Child::clear-returns-in-Inner-clause-cleared t c =
    let old = stem_spots c.in-Inner.stem.value in
    let new = stem_spots c.clear-cleared.new.this.value in
    let path = levels_from c.args.at c.args.topic.now in
    let leads : path ≡ c.self.inside.level ∷ levels_from c.args.next c.args.topic.now = rw (← c.self.view_is, c.in-Inner.is) at c.requires in
    let P : Spots → Type 0 = λ w. Clears c.clear-cleared.result (under c.self.inside.level old) w path in
    rw (← c.self.view_is, c.in-Inner.is)
    (subst P (sym c.join.ensures.same) (clears_level c.self.inside.level (levels_from c.args.next c.args.topic.now) path c.clear-cleared.result old new leads c.clear-cleared.ensures))

pub Child::clear-clear-cleared-requires : goal.Child::clear-clear-cleared-requires
Child::clear-clear-cleared-requires t c =
    let deep : c.in-Inner.stem.value.branch.depth + 1 ≡ c.args.self.now.depth = rw c.in-Inner.is at (ap (λ (v : ChildValue). v.depth) c.self.view_is) in
    (omega arith, tt)

pub Stem::clear_here-returns : goal.Stem::clear_here-returns
Stem::clear_here-returns t c =
    let stem = c.args.self.now in
    let there : Some (levels_from c.in-Some.next c.args.topic.now) ≡ behind (levels_from 1 stem.chain.items) (levels_from c.args.at c.args.topic.now) = rw c.as_slice.ensures.value at c.in-Some.ensures.value in
    let path = levels_from c.args.at c.args.topic.now in
    let P : Spots → Type 0 = λ w. Clears c.clear-cleared.result (stem_spots stem) w path in
    subst P (sym (ap (under_all (levels_from 1 stem.chain.items)) c.fold.ensures))
    (clears_chain (levels_from 1 stem.chain.items) path (levels_from c.in-Some.next c.args.topic.now) c.clear-cleared.result stem.branch.spots c.clear-cleared.new.self.spots (sym there) c.clear-cleared.ensures)

pub Stem::clear_here-returns-in_default : goal.Stem::clear_here-returns-in_default
Stem::clear_here-returns-in_default t c =
    let stem = c.args.self.now in
    let none : None ≡ behind (levels_from 1 stem.chain.items) (levels_from c.args.at c.args.topic.now) = rw c.as_slice.ensures.value at c.in_default.ensures.value in
    clears_none (levels_from 1 stem.chain.items) (levels_from c.args.at c.args.topic.now) stem.branch.spots (sym none)

pub Branch::clear-returns-in_default : goal.Branch::clear-returns-in_default
Branch::clear-returns-in_default t c =
    rw c.in_default.ensures.ended c.clear_retained.ensures

pub Branch::clear-clear-requires : goal.Branch::clear-clear-requires
Branch::clear-clear-requires t c =
    let es = c.self.inside.children.items in
    let e : levels_from c.args.at c.args.topic.now ≡ c.in-Some.level.now ∷ levels_from c.in-Some.next c.args.topic.now = c.in-Some.ensures.more in
    let here : IsIn c.in-Some.level.now es c.in-Ok.i = rw c.as_slice.ensures.value at c.in-Ok.ensures.found in
    let small : c.in-Ok.i < length es = rw c.as_slice.ensures.value at c.in-Ok.ensures.within in
    let deep : c.index_mut.result.now.depth + 1 ≤ depth es = deep_child es c.in-Ok.i c.index_mut.result.now small c.index_mut.ensures.value in
    let whole : depth es ≡ c.args.self.now.depth = ap (λ (v : BranchValue). v.depth) c.self.view_is in
    (omega arith, rw e (leads_child c.self.inside.retained es c.self.invariant c.in-Some.level.now (levels_from c.in-Some.next c.args.topic.now) c.in-Ok.i c.index_mut.result.now here c.index_mut.ensures.value))

pub Branch::clear-returns-in_default-index_of : goal.Branch::clear-returns-in_default-index_of
Branch::clear-returns-in_default-index_of t c =
    let es = c.self.inside.children.items in
    let here : IsGap c.in-Some.level.now es c.in_default-index_of.field-0 = rw c.as_slice.ensures.value at c.in_default-index_of.ensures.found in
    rw (c.in-Some.ensures.more, ← c.self.view_is) (ap is_some (found_gap c.self.inside.retained es c.self.invariant c.in-Some.level.now (levels_from c.in-Some.next c.args.topic.now) c.in_default-index_of.field-0 here), refl)

pub Branch::clear-invariant_of-self : goal.Branch::clear-invariant_of-self
Branch::clear-invariant_of-self t c =
    let es = c.self.inside.children.items in
    let e : levels_from c.args.at c.args.topic.now ≡ c.in-Some.level.now ∷ levels_from c.in-Some.next c.args.topic.now = c.in-Some.ensures.more in
    let here : IsIn c.in-Some.level.now es c.in-Ok.i = rw c.as_slice.ensures.value at c.in-Ok.ensures.found in
    let small : c.in-Ok.i < length es = rw c.as_slice.ensures.value at c.in-Ok.ensures.within in
    chunk_cleared c.self.inside.retained es c.self.invariant c.in-Some.level.now (levels_from c.in-Some.next c.args.topic.now) c.in-Ok.i c.index_mut.result.now c.clear.new.self small here c.index_mut.ensures.value c.clear.ensures.level c.clear.result (rw e at c.clear.ensures.cleared)

pub Branch::clear-invariant_of-self-in-Ok-Left : goal.Branch::clear-invariant_of-self-in-Ok-Left
Branch::clear-invariant_of-self-in-Ok-Left t c =
    let es = c.self.inside.children.items in
    let e : levels_from c.args.at c.args.topic.now ≡ c.in-Some.level.now ∷ levels_from c.in-Some.next c.args.topic.now = c.in-Some.ensures.more in
    let here : IsIn c.in-Some.level.now es c.in-Ok.i = rw c.as_slice.ensures.value at c.in-Ok.ensures.found in
    let small : c.in-Ok.i < length es = rw c.as_slice.ensures.value at c.in-Ok.ensures.within in
    chunk_cleared c.self.inside.retained es c.self.invariant c.in-Some.level.now (levels_from c.in-Some.next c.args.topic.now) c.in-Ok.i c.index_mut.result.now c.clear.new.self small here c.index_mut.ensures.value c.clear.ensures.level c.clear.result (rw e at c.clear.ensures.cleared)

pub Branch::clear-invariant_of-self-in-Err : goal.Branch::clear-invariant_of-self-in-Err
Branch::clear-invariant_of-self-in-Err t c =
    let es = c.self.inside.children.items in
    let e : levels_from c.args.at c.args.topic.now ≡ c.in-Some.level.now ∷ levels_from c.in-Some.next c.args.topic.now = c.in-Some.ensures.more in
    let here : IsIn c.in-Some.level.now es c.in-Ok.i = rw c.as_slice.ensures.value at c.in-Ok.ensures.found in
    let small : c.in-Ok.i < length es = rw c.as_slice.ensures.value at c.in-Ok.ensures.within in
    chunk_cleared c.self.inside.retained es c.self.invariant c.in-Some.level.now (levels_from c.in-Some.next c.args.topic.now) c.in-Ok.i c.index_mut.result.now c.clear.new.self small here c.index_mut.ensures.value c.clear.ensures.level c.clear.result (rw e at c.clear.ensures.cleared)

pub Branch::clear-invariant_of-self-in-Ok-Last : goal.Branch::clear-invariant_of-self-in-Ok-Last
Branch::clear-invariant_of-self-in-Ok-Last t c =
    let es = c.self.inside.children.items in
    let e : levels_from c.args.at c.args.topic.now ≡ c.in-Some.level.now ∷ levels_from c.in-Some.next c.args.topic.now = c.in-Some.ensures.more in
    let here : IsIn c.in-Some.level.now es c.in-Ok.i = rw c.as_slice.ensures.value at c.in-Ok.ensures.found in
    let small : c.in-Ok.i < length es = rw c.as_slice.ensures.value at c.in-Ok.ensures.within in
    rw (c.remove_at.ensures, remove_set) (chunk_removed es c.in-Ok.i c.self.invariant)

pub Branch::clear-returns-in-Ok-Missing : goal.Branch::clear-returns-in-Ok-Missing
Branch::clear-returns-in-Ok-Missing t c =
    let es = c.self.inside.children.items in
    let e : levels_from c.args.at c.args.topic.now ≡ c.in-Some.level.now ∷ levels_from c.in-Some.next c.args.topic.now = c.in-Some.ensures.more in
    let here : IsIn c.in-Some.level.now es c.in-Ok.i = rw c.as_slice.ensures.value at c.in-Ok.ensures.found in
    let small : c.in-Ok.i < length es = rw c.as_slice.ensures.value at c.in-Ok.ensures.within in
    let cleared : ClearsAs Missing c.index_mut.result.now.spots c.clear.new.self.spots (c.in-Some.level.now ∷ levels_from c.in-Some.next c.args.topic.now) = rw (e, c.in-Ok-Missing.field-0-is) at c.in-Ok-Missing.ensures.cleared in
    rw (e, ← c.self.view_is) (clears_missing c.self.inside.retained es c.self.invariant c.in-Some.level.now (levels_from c.in-Some.next c.args.topic.now) c.in-Ok.i c.index_mut.result.now c.clear.new.self small here c.index_mut.ensures.value c.clear.ensures.level cleared)

pub Branch::clear-returns-in-Ok-Left : goal.Branch::clear-returns-in-Ok-Left
Branch::clear-returns-in-Ok-Left t c =
    let es = c.self.inside.children.items in
    let e : levels_from c.args.at c.args.topic.now ≡ c.in-Some.level.now ∷ levels_from c.in-Some.next c.args.topic.now = c.in-Some.ensures.more in
    let here : IsIn c.in-Some.level.now es c.in-Ok.i = rw c.as_slice.ensures.value at c.in-Ok.ensures.found in
    let small : c.in-Ok.i < length es = rw c.as_slice.ensures.value at c.in-Ok.ensures.within in
    let cleared : ClearsAs Left c.index_mut.result.now.spots c.clear.new.self.spots (c.in-Some.level.now ∷ levels_from c.in-Some.next c.args.topic.now) = rw (e, c.in-Ok-Left.field-0-is) at c.in-Ok-Left.ensures.cleared in
    let path = c.in-Some.level.now ∷ levels_from c.in-Some.next c.args.topic.now in
    let P : Spots → Type 0 = λ w. ClearsAs Left (own c.self.inside.retained ++ parts es) w path in
    rw (e, ← c.self.view_is) (subst P (sym (c.unfold.ensures ∙ c.divide.ensures)) (clears_left c.self.inside.retained es c.self.invariant c.in-Some.level.now (levels_from c.in-Some.next c.args.topic.now) c.in-Ok.i c.index_mut.result.now c.clear.new.self small here c.index_mut.ensures.value c.clear.ensures.level cleared))

pub Branch::clear-returns-in-Err : goal.Branch::clear-returns-in-Err
Branch::clear-returns-in-Err t c =
    let es = c.self.inside.children.items in
    let e : levels_from c.args.at c.args.topic.now ≡ c.in-Some.level.now ∷ levels_from c.in-Some.next c.args.topic.now = c.in-Some.ensures.more in
    let here : IsIn c.in-Some.level.now es c.in-Ok.i = rw c.as_slice.ensures.value at c.in-Ok.ensures.found in
    let small : c.in-Ok.i < length es = rw c.as_slice.ensures.value at c.in-Ok.ensures.within in
    rw (← c.self.view_is) (clears_same c.self.inside.retained es c.self.invariant c.in-Some.level.now (levels_from c.in-Some.next c.args.topic.now) c.in-Ok.i c.index_mut.result.now c.clear.new.self small here c.index_mut.ensures.value c.clear.ensures.level c.in-Err.ensures.cleared)

pub Branch::clear-returns-then-is_lone : goal.Branch::clear-returns-then-is_lone
Branch::clear-returns-then-is_lone t c =
    let es = c.self.inside.children.items in
    let e : levels_from c.args.at c.args.topic.now ≡ c.in-Some.level.now ∷ levels_from c.in-Some.next c.args.topic.now = c.in-Some.ensures.more in
    let here : IsIn c.in-Some.level.now es c.in-Ok.i = rw c.as_slice.ensures.value at c.in-Ok.ensures.found in
    let small : c.in-Ok.i < length es = rw c.as_slice.ensures.value at c.in-Ok.ensures.within in
    let cleared : ClearsAs Last c.index_mut.result.now.spots c.clear.new.self.spots (c.in-Some.level.now ∷ levels_from c.in-Some.next c.args.topic.now) = rw (e, c.in-Ok-Last.field-0-is) at c.in-Ok-Last.ensures.cleared in
    let size : length c.as_slice-in-Ok-Last.result.now ≡ length es = ap (λ (l : List ChildValue). length l) c.as_slice-in-Ok-Last.ensures.value ∙ length-set es c.in-Ok.i c.clear.new.self in
    let lone = c.if-is_lone.ensures.lone refl in
    rw (e, ← c.self.view_is) (clears_last c.self.inside.retained es c.self.invariant c.in-Some.level.now (levels_from c.in-Some.next c.args.topic.now) c.in-Ok.i c.index_mut.result.now c.clear.new.self small here c.index_mut.ensures.value c.clear.ensures.level lone.0 (sym size ∙ lone.1) cleared)

pub Branch::clear-invariant_of-self-then-is_lone : goal.Branch::clear-invariant_of-self-then-is_lone
Branch::clear-invariant_of-self-then-is_lone t c =
    let es = c.self.inside.children.items in
    let e : levels_from c.args.at c.args.topic.now ≡ c.in-Some.level.now ∷ levels_from c.in-Some.next c.args.topic.now = c.in-Some.ensures.more in
    let here : IsIn c.in-Some.level.now es c.in-Ok.i = rw c.as_slice.ensures.value at c.in-Ok.ensures.found in
    let small : c.in-Ok.i < length es = rw c.as_slice.ensures.value at c.in-Ok.ensures.within in
    let cleared : ClearsAs Last c.index_mut.result.now.spots c.clear.new.self.spots (c.in-Some.level.now ∷ levels_from c.in-Some.next c.args.topic.now) = rw (e, c.in-Ok-Last.field-0-is) at c.in-Ok-Last.ensures.cleared in
    chunk_unchanged c.self.inside.retained es c.self.invariant c.in-Some.level.now (levels_from c.in-Some.next c.args.topic.now) c.in-Ok.i c.index_mut.result.now c.clear.new.self small here c.index_mut.ensures.value c.clear.ensures.level cleared.2

pub Branch::clear-returns-else-is_lone : goal.Branch::clear-returns-else-is_lone
Branch::clear-returns-else-is_lone t c =
    let es = c.self.inside.children.items in
    let e : levels_from c.args.at c.args.topic.now ≡ c.in-Some.level.now ∷ levels_from c.in-Some.next c.args.topic.now = c.in-Some.ensures.more in
    let here : IsIn c.in-Some.level.now es c.in-Ok.i = rw c.as_slice.ensures.value at c.in-Ok.ensures.found in
    let small : c.in-Ok.i < length es = rw c.as_slice.ensures.value at c.in-Ok.ensures.within in
    let cleared : ClearsAs Last c.index_mut.result.now.spots c.clear.new.self.spots (c.in-Some.level.now ∷ levels_from c.in-Some.next c.args.topic.now) = rw (e, c.in-Ok-Last.field-0-is) at c.in-Ok-Last.ensures.cleared in
    let size : length c.as_slice-in-Ok-Last.result.now ≡ length es = ap (λ (l : List ChildValue). length l) c.as_slice-in-Ok-Last.ensures.value ∙ length-set es c.in-Ok.i c.clear.new.self in
    let path = c.in-Some.level.now ∷ levels_from c.in-Some.next c.args.topic.now in
    let P : Spots → Type 0 = λ w. ClearsAs Left (own c.self.inside.retained ++ parts es) w path in
    rw (e, ← c.self.view_is) (subst P (sym c.unfold-in-Ok-Last.ensures) (clears_child c.self.inside.retained es c.self.invariant c.in-Some.level.now (levels_from c.in-Some.next c.args.topic.now) c.in-Ok.i c.index_mut.result.now c.clear.new.self small here c.index_mut.ensures.value c.clear.ensures.level c.remove_at.new.children.items c.remove_at.ensures (λ none one. c.if-is_lone.ensures.more refl none (size ∙ one)) cleared))
