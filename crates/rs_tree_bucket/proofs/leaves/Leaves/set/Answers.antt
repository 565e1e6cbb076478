use Rattle.std.proofs.Common.{◌≡◌, ◌∙◌, Some, None, ap}
use Rattle.std.specs.BTreeMap.{insert_entry}
use Rattle.rs_topic.specs.Order.{path_cmp}
use Rattle.rs_tree_bucket.specs.Buckets.{spots_in}
use Rattle.rs_topic.specs.Rests.{levels_from}
use Rattle.rs_tree_bucket.specs.Spots.{found_at}
use Rattle.rs_tree_bucket.specs.declared.leaf.Leaf.{Leaf}
use Rattle.rs_tree_bucket.proofs.Buckets.{found_is, new_is, none_is, put_is, sorted_set}
use Rattle.rs_tree_bucket.proofs.Spots.{Spots}
use Rattle.rs_tree_bucket.proofs.leaves.Leaves.set.Goals as goal

pub invariant_of-self : goal.invariant_of-self
invariant_of-self c =
    sorted_set (spots_in c.self.inside.leaves.items) _ (levels_from c.args.at c.args.found.topic) c.args.found c.self.invariant
    (rw c.replace-old.ensures.after (put_is c.args.at c.in-Ok.i c.as_bytes.result.now c.as_slice.result.now c.self.inside.leaves.items c.as_slice.ensures.value c.args.found (c.as_bytes.ensures.bytes ∙ c.topic.ensures) c.in-Ok.ensures.found))

pub invariant_of-self-in-Err : goal.invariant_of-self-in-Err
invariant_of-self-in-Err c =
    sorted_set (spots_in c.self.inside.leaves.items) (spots_in c.insert.new.self.items) (levels_from c.args.at c.args.found.topic) c.args.found c.self.invariant
    (new_is c.args.at c.in-Err.i c.as_bytes.result.now c.as_slice.result.now c.self.inside.leaves.items c.as_slice.ensures.value c.args.found c.reserve_exact.new.self.items c.insert.new.self.items (c.as_bytes.ensures.bytes ∙ c.topic.ensures) c.reserve_exact.ensures.items c.in_ok-insert-in-Err.ensures.items c.in-Err.ensures.found)

pub returns-in-Ok-clause-done : goal.returns-in-Ok-clause-done
returns-in-Ok-clause-done c =
    rw c.replace-old.ensures.after (put_is c.args.at c.in-Ok.i c.as_bytes.result.now c.as_slice.result.now c.self.inside.leaves.items c.as_slice.ensures.value c.args.found (c.as_bytes.ensures.bytes ∙ c.topic.ensures) c.in-Ok.ensures.found)
    ∙ ap (λ (w : Spots). insert_entry path_cmp w (levels_from c.args.at c.args.found.topic) c.args.found) c.self.view_is

pub returns-in-Ok-clause-replaced : goal.returns-in-Ok-clause-replaced
returns-in-Ok-clause-replaced c =
    let was : Some c.index_mut.result.now.found ≡ found_at (levels_from c.args.at c.as_bytes.result.now) c.args.self.now =
    found_is c.args.at c.in-Ok.i c.as_bytes.result.now c.as_slice.result.now c.self.inside.leaves.items c.as_slice.ensures.value c.args.self.now c.index_mut.result.now c.self.view_is c.in-Ok.ensures.found c.index_mut.ensures.value in
    ap (λ (l : Leaf). Some l.found) c.replace-old.ensures.value ∙ (rw (c.as_bytes.ensures.bytes, c.topic.ensures) at was)

pub returns-in_ok-insert-in-Err-clause-done : goal.returns-in_ok-insert-in-Err-clause-done
returns-in_ok-insert-in-Err-clause-done c =
    new_is c.args.at c.in-Err.i c.as_bytes.result.now c.as_slice.result.now c.self.inside.leaves.items c.as_slice.ensures.value c.args.found c.reserve_exact.new.self.items c.insert.new.self.items (c.as_bytes.ensures.bytes ∙ c.topic.ensures) c.reserve_exact.ensures.items c.in_ok-insert-in-Err.ensures.items c.in-Err.ensures.found
    ∙ ap (λ (w : Spots). insert_entry path_cmp w (levels_from c.args.at c.args.found.topic) c.args.found) c.self.view_is

pub returns-in_ok-insert-in-Err-clause-replaced : goal.returns-in_ok-insert-in-Err-clause-replaced
returns-in_ok-insert-in-Err-clause-replaced c =
    let gone : None ≡ found_at (levels_from c.args.at c.as_bytes.result.now) c.args.self.now = none_is c.args.at c.in-Err.i c.as_bytes.result.now c.as_slice.result.now c.self.inside.leaves.items c.as_slice.ensures.value c.args.self.now c.self.view_is c.self.invariant c.in-Err.ensures.found in
    rw (c.as_bytes.ensures.bytes, c.topic.ensures) at gone
