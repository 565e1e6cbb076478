use Rattle.std.proofs.Common.{◌∙◌}
use Rattle.rs_version.proofs.writer.next_step.Goals as goal

pub returns-clause-step : goal.returns-clause-step
returns-clause-step g c = (c.in_ok-copy.ensures, c.prefix.ensures.0, c.prefix.ensures.1 ∙ c.list-list.ensures)
