use Rattle.rs_places_steps.specs.EndCell.{begun_in}
use Rattle.rs_places_steps.proofs.EndCells.{begins}
use Rattle.rs_places_steps.proofs.end_cell.empty.Goals as goal

pub ruled-requires-clause-rule : goal.ruled-requires-clause-rule
ruled-requires-clause-rule g c = begins begun_in
