use Rattle.rs_version.proofs.Origins.{origins_differ}
use Rattle.rs_version.proofs.law.origin_law.Goals as goal

pub returns : goal.returns
returns _ = record { differ = origins_differ }
