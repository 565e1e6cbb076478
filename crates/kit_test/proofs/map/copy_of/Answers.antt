use Rattle.std.proofs.Common.{◌++◌, sym, ap, ◌∙◌}
use Rattle.rs_topic.specs.Order.{topic_cmp}
use Rattle.rs_topic.specs.TopicOrder.{topic_total}
use Rattle.rs_store.proofs.Maps.{insert_next}
use Rattle.kit_test.proofs.map.copy_of.Goals as goal

pub loop-topic-preserved : goal.loop-topic-preserved
loop-topic-preserved c =
    let whole = ap (λ w. c.loop-topic.copy.entries ++ w) (sym c.in-Some.ensures.steps) ∙ c.loop-topic.invariant.0 in
    (rw (c.in_ok-set.ensures.done, c.in_ok-copy.ensures, c.in_ok-copy-2.ensures) (insert_next topic_cmp topic_total _ _ _ _ _ whole c.loop-topic.invariant.1), c.loop-topic.invariant.1)
