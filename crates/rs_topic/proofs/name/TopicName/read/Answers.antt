use Rattle.std.proofs.Common.{sym, ◌∙◌}
use Rattle.rs_topic.proofs.Readings.{name_refused, name_refused_for}
use Rattle.rs_topic.proofs.name.TopicName.read.Goals as goal

pub returns-in-Some-clause-exact : goal.returns-in-Some-clause-exact
returns-in-Some-clause-exact c = name_refused c.args.bytes.now c.in-Some.fault (sym c.in-Some.is ∙ c.fault_of.ensures)

pub returns-in-Some-clause-meaning : goal.returns-in-Some-clause-meaning
returns-in-Some-clause-meaning c = name_refused_for c.args.bytes.now c.in-Some.fault (sym c.in-Some.is ∙ c.fault_of.ensures)
