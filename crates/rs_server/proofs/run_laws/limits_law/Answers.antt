use Rattle.rs_server.proofs.Limits.{run_within}
use Rattle.rs_server.proofs.run_laws.limits_law.Goals as goal

pub returns : goal.returns
returns c = run_within
