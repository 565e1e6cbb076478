use Rattle.rs_topic.proofs.Joined.{the_levels}
use Rattle.rs_topic.proofs.law.level_law.Goals as goal

pub returns : goal.returns
returns c = the_levels
