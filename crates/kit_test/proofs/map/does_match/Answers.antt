use Rattle.rs_topic.proofs.Matched.{matches_from_call}
use Rattle.kit_test.proofs.map.does_match.Goals as goal

pub returns : goal.returns
returns c = matches_from_call c.args.filter.now c.args.topic.now c.matches.result c.matches.ensures
