use Rattle.std.proofs.Common.{◌≡◌, ◌∷◌, ◌++◌, ap, ◌∙◌}
use Rattle.rs_tree_bucket.specs.Chains.{under_all}
use Rattle.rs_topic.specs.Rests.{levels_from}
use Rattle.rs_tree_branch.proofs.Stems.{joined}
use Rattle.rs_tree_branch.specs.Values.{BranchValue}
use Rattle.rs_tree_branch.proofs.branch.Stem.copy_prefixed.Goals as goal

pub returns : goal.returns
returns c =
    let stem = c.args.self.now in
    let new = c.in_ok-join_chains.field-0.items in
    let chain : levels_from 1 new ≡ levels_from 1 c.args.chain.now ++ c.args.level.now ∷ levels_from 1 stem.chain.items = rw c.as_slice.ensures.value at c.in_ok-join_chains.ensures in
    ap (λ (b : BranchValue). under_all (levels_from 1 new) b.spots) c.in_ok-copy.ensures
    ∙ rw chain (joined (levels_from 1 c.args.chain.now) (c.args.level.now ∷ levels_from 1 stem.chain.items) stem.branch.spots)
