use Rattle.rs_intake.proofs.Done.{kept_by_outcomes}
use Rattle.rs_intake.proofs.law.outcomes_law.Goals as goal

pub returns : goal.returns
returns _ = kept_by_outcomes
