use Rattle.rs_places_steps.specs.EndCell.{begun_in}
use Rattle.rs_places_steps.proofs.EndCells.{says, takes}
use Rattle.rs_places_steps.proofs.end_cell.said.Goals as goal

pub try_push_as-requires-clause-rule : goal.try_push_as-requires-clause-rule
try_push_as-requires-clause-rule g c = says begun_in _ _ _ _ c.in_ok-cell.ensures.1

pub try_pop_as-requires-clause-rule : goal.try_pop_as-requires-clause-rule
try_pop_as-requires-clause-rule g c = takes begun_in _ _
