use Rattle.std.proofs.Common.{◌∙◌}
use Rattle.rs_store.proofs.Expiring.{calm_after_set, calm_after_clear, calm_after_sweep}
use Rattle.rs_store.proofs.calm.earliest_with.Goals as goal

pub returns-in-Set : goal.returns-in-Set
returns-in-Set c = λ content e is. calm_after_set c.args.until c.earliest_end.result c.in-Set.found.topic c.in-Set.found.message e (rw c.message.ensures at c.earliest_end.ensures) (is ∙ c.in-Set.is) content

pub returns-in-Clear : goal.returns-in-Clear
returns-in-Clear c = λ content e is. calm_after_clear c.args.until c.in-Clear.field-0 e (is ∙ c.in-Clear.is) content

pub returns-in-Sweep : goal.returns-in-Sweep
returns-in-Sweep c = λ content e is. calm_after_sweep c.args.until c.in-Sweep.field-0 e (is ∙ c.in-Sweep.is) content
