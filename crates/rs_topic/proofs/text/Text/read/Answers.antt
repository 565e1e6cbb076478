use Rattle.std.proofs.Common.{sym, ◌∙◌}
use Rattle.rs_topic.proofs.Readings.{text_refused, text_refused_for, text_copied}
use Rattle.rs_topic.proofs.text.Text.read.Goals as goal

pub returns-in-Some-clause-exact : goal.returns-in-Some-clause-exact
returns-in-Some-clause-exact c = text_refused c.args.bytes.now c.in-Some.fault (sym c.in-Some.is ∙ c.text_fault.ensures)

pub returns-in-Some-clause-meaning : goal.returns-in-Some-clause-meaning
returns-in-Some-clause-meaning c = text_refused_for c.args.bytes.now c.in-Some.fault (sym c.in-Some.is ∙ c.text_fault.ensures)

pub returns-in-None-clause-exact : goal.returns-in-None-clause-exact
returns-in-None-clause-exact c = text_copied c.args.bytes.now c.copied.result (sym c.in-None.is ∙ c.text_fault.ensures) c.copied.ensures
