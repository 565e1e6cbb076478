use Rattle.std.proofs.Common.{◌≡◌, ℕ, List, [], ◌∷◌, Some, ap, refl, ◌∙◌}
use Rattle.rs_tree_bucket.specs.Chains.{behind}
use Rattle.rs_topic.specs.Rests.{levels_from}
use Rattle.rs_tree_bucket.specs.Spots.{spot_of, under}
use Rattle.rs_tree_branch.proofs.Joining.{lone}
use Rattle.rs_tree_branch.proofs.branch.join.child_of_message.Goals as goal

pub returns-clause-spots : goal.returns-clause-spots
returns-clause-spots c =
    let f = c.args.found.now in
    let g = c.in_ok-copy-2.field-0 in
    let at = c.saturating_sub-at.result in
    let ks = levels_from 1 c.args.chain.now in
    let there : Some (levels_from c.in-Some.next f.topic) ≡ behind ks (levels_from at f.topic) = rw (c.as_bytes-topic.ensures.bytes, c.topic.ensures) at c.in-Some.ensures.value in
    let ended : levels_from c.in-Some.next f.topic ≡ [] = rw (c.as_bytes-topic.ensures.bytes, c.topic.ensures) at c.in-None.ensures.ended in
    c.in_ok-child.ensures.spots
    ∙ (ap (λ (k : List ℕ). under k (spot_of at g ∷ [])) c.in_ok-copy.ensures ∙ ap (under c.args.level.now) (lone ks at f g (levels_from c.in-Some.next f.topic) (spot_of at g ∷ []) there ended c.in_ok-copy-2.ensures refl))
