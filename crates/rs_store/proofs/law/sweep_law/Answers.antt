use Rattle.rs_store.proofs.Sweeping.{sweeps}
use Rattle.rs_store.proofs.law.sweep_law.Goals as goal

pub returns : goal.returns
returns _ = sweeps
