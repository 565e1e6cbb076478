use Rattle.rs_version.proofs.Holding.{one_held}
use Rattle.rs_version.proofs.law.one_held_law.Goals as goal

pub returns : goal.returns
returns _ = one_held
