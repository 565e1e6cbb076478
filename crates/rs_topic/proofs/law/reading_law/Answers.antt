use Rattle.rs_topic.proofs.Readings.{name_judged, filter_judged}
use Rattle.rs_topic.proofs.law.reading_law.Goals as goal

pub returns-clause-names : goal.returns-clause-names
returns-clause-names c = name_judged

pub returns-clause-filters : goal.returns-clause-filters
returns-clause-filters c = filter_judged
