use Rattle.std.proofs.Common.{◌≡◌, ◌∷◌, arith}
use Rattle.rs_topic.specs.Rests.{levels_from}
use Rattle.rs_tree_bucket.proofs.Chains.{shared_more, levels_same}
use Rattle.rs_tree_bucket.proofs.chain.shared_levels.Goals as goal

pub loop-level-preserved : goal.loop-level-preserved
loop-level-preserved c =
    let same : c.in-Some-level_at.own.now ≡ c.in-Some.level.now = levels_same c.in-Some.level.now c.in-Some-level_at.own.now c.ne.result c.ne.ensures c.if-ne.false in
    let own : levels_from c.loop-level.from c.args.other.now ≡ c.in-Some.level.now ∷ levels_from c.in-Some-level_at.rest c.args.other.now = rw same at c.in-Some-level_at.ensures.more in (
      shared_more _ _ _ _ _ c.in-Some.level.now c.loop-level.invariant.0 c.in-Some.ensures.more c.in_ok-push_level.ensures,
      shared_more _ _ _ _ _ c.in-Some.level.now c.loop-level.invariant.1 own c.in_ok-push_level.ensures,
      omega (arith, c.loop-level.invariant.2, c.in-Some-level_at.ensures.further.0),
    )
