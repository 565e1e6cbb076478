use Rattle.std.proofs.Common.{◌≡◌, ◌∷◌, ◌++◌, sym, ap, ◌∙◌, drop, ◌-◌}
use Rattle.rs_tree_bucket.specs.Chains.{under_all}
use Rattle.rs_topic.specs.Rests.{levels_from}
use Rattle.rs_tree_bucket.specs.Spots.{under}
use Rattle.rs_tree_branch.proofs.Cutting.{cut_levels}
use Rattle.rs_tree_branch.proofs.Stems.{full_below, joined}
use Rattle.rs_tree_branch.proofs.branch.Stem.cut.Goals as goal

pub branch_of_stem-requires : goal.branch_of_stem-requires
branch_of_stem-requires c = rw c.in_ok-copy.ensures (full_below (levels_from 1 c.in_ok-from_slice.field-0.items) c.args.self.now.branch.spots c.requires.full)

pub returns-clause-same : goal.returns-clause-same
returns-clause-same c =
    let chain = c.args.self.now.chain.items in
    let lower = levels_from 1 c.in_ok-from_slice.field-0.items in
    let upper = levels_from 1 c.args.upper.items in
    let more : levels_from c.args.at chain ≡ c.in-Some.level.now ∷ levels_from c.in-Some.next chain = rw c.as_slice.ensures.value at c.in-Some.ensures.more in
    let rest : c.in_ok-from_slice.field-0.items ≡ drop (c.in-Some.next - 1) chain = c.in_ok-from_slice.ensures.items ∙ (c.split_at.ensures.back ∙ ap (drop (c.in-Some.next - 1)) c.as_slice-2.ensures.value) in
    let whole : levels_from 1 chain ≡ upper ++ c.in-Some.level.now ∷ lower = cut_levels chain c.args.upper.items c.in_ok-from_slice.field-0.items c.in-Some.level.now c.args.at c.in-Some.next c.requires.upper more rest c.in-Some.ensures.further.0 in
    let spots : c.in_ok-self.field-0.spots ≡ under c.in-Some.level.now (under_all lower c.args.self.now.branch.spots) = rw (c.in_ok-label.ensures, c.in_ok-copy.ensures) at c.in_ok-self.ensures in
    rw (spots, whole) (sym (joined upper (c.in-Some.level.now ∷ lower) c.args.self.now.branch.spots))
