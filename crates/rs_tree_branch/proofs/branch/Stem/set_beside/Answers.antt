use Rattle.std.proofs.Common.{◌≡◌, ◌++◌, ap, ◌∙◌}
use Rattle.std.proofs.lemmas.Result.{on_err_weaker, on_ok_weaker}
use Rattle.rs_tree_bucket.specs.Chains.{under_all}
use Rattle.rs_topic.specs.Rests.{levels_from}
use Rattle.rs_tree_branch.proofs.Under.{was_by}
use Rattle.rs_tree_branch.proofs.Stems.{set_whole, found_whole}
use Rattle.rs_tree_branch.specs.Nodes.{stem_spots}
use Rattle.rs_tree_branch.proofs.branch.Stem.set_beside.Goals as goal

pub cut-requires : goal.cut-requires
cut-requires c = record { full = c.requires; upper = rw c.as_slice.ensures.value at c.in_ok-shared.ensures.text }

pub returns-clause-done : goal.returns-clause-done
returns-clause-done c =
    let ks = levels_from 1 c.cut.new.self.chain.items in
    let q = levels_from c.in_ok-shared.shared.from c.args.found.topic in
    let path : levels_from c.args.at c.args.found.topic ≡ ks ++ q = rw (c.as_bytes.ensures.bytes, c.topic.ensures, ← c.in_ok-cut.ensures.done) at c.in_ok-shared.ensures.other in
    on_ok_weaker c.hold.result (set_whole ks (levels_from c.args.at c.args.found.topic) q c.args.found c.cut.new.self.branch.spots c.hold.new.self.spots (stem_spots c.args.self.now) c.in_ok-cut.ensures.same path) c.hold.ensures.done

pub returns-clause-replaced : goal.returns-clause-replaced
returns-clause-replaced c =
    let ks = levels_from 1 c.cut.new.self.chain.items in
    let q = levels_from c.in_ok-shared.shared.from c.args.found.topic in
    let path : levels_from c.args.at c.args.found.topic ≡ ks ++ q = rw (c.as_bytes.ensures.bytes, c.topic.ensures, ← c.in_ok-cut.ensures.done) at c.in_ok-shared.ensures.other in
    was_by c.hold.result _ _ c.hold.ensures.replaced (found_whole ks (levels_from c.args.at c.args.found.topic) q c.cut.new.self.branch.spots (stem_spots c.args.self.now) c.in_ok-cut.ensures.same path)

pub returns-clause-refused : goal.returns-clause-refused
returns-clause-refused c = on_err_weaker c.hold.result (λ h. ap (under_all (levels_from 1 c.cut.new.self.chain.items)) h ∙ c.in_ok-cut.ensures.same) c.hold.ensures.refused
