use Rattle.std.proofs.Common.{◌≡◌, ◌∷◌, ◌++◌, refl, sym, Some}
use Rattle.rs_tree_bucket.specs.Chains.{behind}
use Rattle.rs_topic.specs.Rests.{levels_from}
use Rattle.rs_tree_bucket.proofs.Chains.{levels_same, behind_is}
use Rattle.rs_tree_bucket.proofs.leaf.Leaf.rise.Goals as goal

pub returns-clause-done : goal.returns-clause-done
returns-clause-done c t =
    let topic = c.args.self.now.found.topic in
    let there : Some (levels_from c.in-Some.next topic) ≡ behind (levels_from 1 c.args.chain.now) (levels_from c.saturating_sub-at.result topic) = rw (c.as_bytes-topic.ensures.bytes, c.topic.ensures) at c.in-Some.ensures.value in
    let level : c.args.level.now ≡ c.in-Some-level_at.own.now = levels_same c.in-Some-level_at.own.now c.args.level.now c.ne.result c.ne.ensures c.if-ne.false in
    let more : levels_from c.in-Some.next topic ≡ c.in-Some-level_at.own.now ∷ levels_from c.in-Some-level_at.rest topic = rw (c.as_bytes-topic.ensures.bytes, c.topic.ensures) at c.in-Some-level_at.ensures.more in
    let whole : levels_from c.saturating_sub-at.result topic ≡ levels_from 1 c.args.chain.now ++ levels_from c.in-Some.next topic = behind_is (levels_from 1 c.args.chain.now) (levels_from c.saturating_sub-at.result topic) (levels_from c.in-Some.next topic) (sym there) in
    rw (whole, more, level, c.if-rest-self.false) refl
