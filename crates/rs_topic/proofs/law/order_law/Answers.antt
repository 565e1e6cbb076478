use Rattle.rs_topic.proofs.Ordered.{replay_order}
use Rattle.rs_topic.proofs.law.order_law.Goals as goal

pub returns : goal.returns
returns c = replay_order
