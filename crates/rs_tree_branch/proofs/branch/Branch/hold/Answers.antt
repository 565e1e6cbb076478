use Rattle.std.proofs.Common.{◌≡◌, ◌<◌, ◌≤◌, ◌∷◌, [], List, length, sym, ap, ◌∙◌}
use Rattle.std.proofs.lemmas.Result.{on_ok_weaker, on_err_weaker}
use Rattle.rs_topic.specs.Rests.{levels_from}
use Rattle.rs_tree_bucket.specs.Spots.{spot_of, under}
use Rattle.rs_tree_branch.proofs.Under.{was_by}
use Rattle.rs_tree_branch.specs.Chunks.{IsGap, IsIn}
use Rattle.rs_tree_branch.proofs.Growing.{chunk_new, chunk_put, grown_gap, grown_in, own_first, same_in}
use Rattle.rs_tree_branch.proofs.Chunks.{leads_child, found_child, found_gap, found_own}
use Rattle.rs_tree_branch.proofs.branch.Branch.hold.Goals as goal

pub returns-in_default-clause-done : goal.returns-in_default-clause-done
returns-in_default-clause-done c =
    let e : levels_from c.args.at c.args.found.topic ≡ [] = rw (c.as_bytes.ensures.bytes, c.topic.ensures) at c.in_default.ensures.ended in
    rw (e, ← c.self.view_is, c.replace.ensures.after) (own_first c.self.inside.retained c.args.found c.self.inside.children.items c.self.invariant)

pub returns-in_default-clause-replaced : goal.returns-in_default-clause-replaced
returns-in_default-clause-replaced c =
    let e : levels_from c.args.at c.args.found.topic ≡ [] = rw (c.as_bytes.ensures.bytes, c.topic.ensures) at c.in_default.ensures.ended in
    rw (e, ← c.self.view_is) (c.replace.ensures.value ∙ sym (found_own c.self.inside.retained c.self.inside.children.items c.self.invariant))

pub hold-requires : goal.hold-requires
hold-requires c =
    let es = c.self.inside.children.items in
    let e : levels_from c.args.at c.args.found.topic ≡ c.in-Some.level.now ∷ levels_from c.in-Some.next c.args.found.topic = rw (c.as_bytes.ensures.bytes, c.topic.ensures) at c.in-Some.ensures.more in
    let here : IsIn c.in-Some.level.now es c.in-Ok.i = rw c.as_slice.ensures.value at c.in-Ok.ensures.found in
    rw e (leads_child c.self.inside.retained es c.self.invariant c.in-Some.level.now (levels_from c.in-Some.next c.args.found.topic) c.in-Ok.i c.index_mut.result.now here c.index_mut.ensures.value)

pub invariant_of-self-in-Ok : goal.invariant_of-self-in-Ok
invariant_of-self-in-Ok c =
    let es = c.self.inside.children.items in
    let e : levels_from c.args.at c.args.found.topic ≡ c.in-Some.level.now ∷ levels_from c.in-Some.next c.args.found.topic = rw (c.as_bytes.ensures.bytes, c.topic.ensures) at c.in-Some.ensures.more in
    let here : IsIn c.in-Some.level.now es c.in-Ok.i = rw c.as_slice.ensures.value at c.in-Ok.ensures.found in
    let small : c.in-Ok.i < length es = rw c.as_slice.ensures.value at c.in-Ok.ensures.within in
    chunk_put c.self.inside.retained es c.self.invariant c.in-Some.level.now (levels_from c.in-Some.next c.args.found.topic) c.args.found c.in-Ok.i c.hold.result c.index_mut.result.now c.hold.new.self small here c.index_mut.ensures.value c.hold.ensures.level
    (rw e at c.hold.ensures.done) c.hold.ensures.refused

pub invariant_of-self-in-Err : goal.invariant_of-self-in-Err
invariant_of-self-in-Err c =
    let es = c.self.inside.children.items in
    let here : IsGap c.in-Some.level.now es c.in-Err.i = rw c.as_slice.ensures.value at c.in-Err.ensures.found in
    let level = c.in_ok-child-in-Err.ensures.level ∙ c.in_ok-label-in-Err.ensures in
    let spots : c.in_ok-child-in-Err.child.spots ≡ (c.in-Some.level.now ∷ levels_from c.in-Some.next c.args.found.topic, c.args.found) ∷ [] = c.in_ok-child-in-Err.ensures.spots ∙ ap (λ (k : List _). under k (spot_of c.in-Some.next c.args.found ∷ [])) c.in_ok-label-in-Err.ensures in
    rw (c.in_ok-insert_at-in-Err.ensures.done) (chunk_new c.in-Some.level.now (levels_from c.in-Some.next c.args.found.topic) c.args.found es c.in-Err.i c.in_ok-child-in-Err.child c.self.invariant here level spots)

pub returns-in-Ok-clause-done : goal.returns-in-Ok-clause-done
returns-in-Ok-clause-done c =
    let es = c.self.inside.children.items in
    let e : levels_from c.args.at c.args.found.topic ≡ c.in-Some.level.now ∷ levels_from c.in-Some.next c.args.found.topic = rw (c.as_bytes.ensures.bytes, c.topic.ensures) at c.in-Some.ensures.more in
    let here : IsIn c.in-Some.level.now es c.in-Ok.i = rw c.as_slice.ensures.value at c.in-Ok.ensures.found in
    let small : c.in-Ok.i < length es = rw c.as_slice.ensures.value at c.in-Ok.ensures.within in
    rw (e, ← c.self.view_is) (on_ok_weaker c.hold.result (grown_in c.self.inside.retained es c.self.invariant c.in-Some.level.now (levels_from c.in-Some.next c.args.found.topic) c.args.found c.in-Ok.i c.index_mut.result.now c.hold.new.self small here c.index_mut.ensures.value)
    (rw e at c.hold.ensures.done))

pub returns-in-Ok-clause-replaced : goal.returns-in-Ok-clause-replaced
returns-in-Ok-clause-replaced c =
    let es = c.self.inside.children.items in
    let e : levels_from c.args.at c.args.found.topic ≡ c.in-Some.level.now ∷ levels_from c.in-Some.next c.args.found.topic = rw (c.as_bytes.ensures.bytes, c.topic.ensures) at c.in-Some.ensures.more in
    let here : IsIn c.in-Some.level.now es c.in-Ok.i = rw c.as_slice.ensures.value at c.in-Ok.ensures.found in
    let small : c.in-Ok.i < length es = rw c.as_slice.ensures.value at c.in-Ok.ensures.within in
    rw (e, ← c.self.view_is) (was_by c.hold.result _ _ (rw e at c.hold.ensures.replaced) (found_child c.self.inside.retained es c.self.invariant c.in-Some.level.now (levels_from c.in-Some.next c.args.found.topic) c.in-Ok.i c.index_mut.result.now small here c.index_mut.ensures.value))

pub returns-in-Ok-clause-refused : goal.returns-in-Ok-clause-refused
returns-in-Ok-clause-refused c =
    let es = c.self.inside.children.items in
    let small : c.in-Ok.i < length es = rw c.as_slice.ensures.value at c.in-Ok.ensures.within in
    rw (← c.self.view_is) (on_err_weaker c.hold.result (same_in c.self.inside.retained es c.self.invariant c.in-Some.level.now (levels_from c.in-Some.next c.args.found.topic) c.args.found c.in-Ok.i c.index_mut.result.now c.hold.new.self small c.index_mut.ensures.value) c.hold.ensures.refused)

pub returns-in_ok-insert_at-in-Err-clause-done : goal.returns-in_ok-insert_at-in-Err-clause-done
returns-in_ok-insert_at-in-Err-clause-done c =
    let es = c.self.inside.children.items in
    let e : levels_from c.args.at c.args.found.topic ≡ c.in-Some.level.now ∷ levels_from c.in-Some.next c.args.found.topic = rw (c.as_bytes.ensures.bytes, c.topic.ensures) at c.in-Some.ensures.more in
    let here : IsGap c.in-Some.level.now es c.in-Err.i = rw c.as_slice.ensures.value at c.in-Err.ensures.found in
    let small : c.in-Err.i ≤ length es = rw c.as_slice.ensures.value at c.in-Err.ensures.up_to in
    let spots : c.in_ok-child-in-Err.child.spots ≡ (c.in-Some.level.now ∷ levels_from c.in-Some.next c.args.found.topic, c.args.found) ∷ [] = c.in_ok-child-in-Err.ensures.spots ∙ ap (λ (k : List _). under k (spot_of c.in-Some.next c.args.found ∷ [])) c.in_ok-label-in-Err.ensures in
    rw (e, ← c.self.view_is, c.in_ok-insert_at-in-Err.ensures.done) (grown_gap c.self.inside.retained es c.self.invariant c.in-Some.level.now (levels_from c.in-Some.next c.args.found.topic) c.args.found c.in-Err.i c.in_ok-child-in-Err.child small here spots)

pub returns-in_ok-insert_at-in-Err-clause-replaced : goal.returns-in_ok-insert_at-in-Err-clause-replaced
returns-in_ok-insert_at-in-Err-clause-replaced c =
    let es = c.self.inside.children.items in
    let e : levels_from c.args.at c.args.found.topic ≡ c.in-Some.level.now ∷ levels_from c.in-Some.next c.args.found.topic = rw (c.as_bytes.ensures.bytes, c.topic.ensures) at c.in-Some.ensures.more in
    let here : IsGap c.in-Some.level.now es c.in-Err.i = rw c.as_slice.ensures.value at c.in-Err.ensures.found in
    rw (e, ← c.self.view_is) (sym (found_gap c.self.inside.retained es c.self.invariant c.in-Some.level.now (levels_from c.in-Some.next c.args.found.topic) c.in-Err.i here))
