use Rattle.rs_places_steps.specs.EndCell.{begun_in}
use Rattle.rs_places_steps.proofs.EndCells.{takes}
use Rattle.rs_places_steps.proofs.end_cell.ClientEnd.take.Goals as goal

pub try_pop_as-requires-clause-rule : goal.try_pop_as-requires-clause-rule
try_pop_as-requires-clause-rule g c = takes begun_in _ _
