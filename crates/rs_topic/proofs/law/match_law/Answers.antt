use Rattle.rs_topic.proofs.Matched.{Decides-matches}
use Rattle.rs_topic.proofs.law.match_law.Goals as goal

pub returns : goal.returns
returns c = Decides-matches
