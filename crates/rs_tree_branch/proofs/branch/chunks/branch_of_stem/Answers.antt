use Rattle.std.proofs.Common.{List, ℕ, ◌+◌, ap, ◌∙◌, false, refl}
use Rattle.rs_tree_bucket.specs.Spots.{under}
use Rattle.rs_tree_bucket.specs.Labels.{text_of}
use Rattle.rs_tree_branch.specs.Nodes.{stem_spots}
use Rattle.rs_tree_branch.specs.Values.{ChildValue}
use Rattle.rs_tree_branch.specs.declared.branch.Stem.{Stem}
use Rattle.rs_tree_branch.proofs.Dividing.{chunk_single, parts_single}
use Rattle.rs_tree_branch.proofs.branch.chunks.branch_of_stem.Goals as goal

pub invariant_of-result : goal.invariant_of-result
invariant_of-result c =
    let level = text_of c.level.inside.text in
    let child : ChildValue = record { level = level; is_chunk = false; spots = under level (stem_spots c.in_ok-new.field-0.value); depth = c.in_ok-new.field-0.value.branch.depth + 1 } in
    chunk_single level (stem_spots c.args.stem) child c.push.new.self.items (rw (c.in_ok-push.ensures.items, c.in_ok-children.ensures.items) refl) refl (ap (λ (s : Stem). under level (stem_spots s)) c.in_ok-new.ensures.ok) c.requires

pub returns : goal.returns
returns c =
    let level = text_of c.level.inside.text in
    let child : ChildValue = record { level = level; is_chunk = false; spots = under level (stem_spots c.in_ok-new.field-0.value); depth = c.in_ok-new.field-0.value.branch.depth + 1 } in
    parts_single child c.push.new.self.items (rw (c.in_ok-push.ensures.items, c.in_ok-children.ensures.items) refl)
    ∙ (ap (λ (s : Stem). under level (stem_spots s)) c.in_ok-new.ensures.ok ∙ ap (λ (k : List ℕ). under k (stem_spots c.args.stem)) c.level.view_is)
