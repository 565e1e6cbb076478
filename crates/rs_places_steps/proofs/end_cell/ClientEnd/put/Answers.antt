use Rattle.std.proofs.Common.{Some, ap, sym, ◌∙◌}
use Rattle.rs_places_steps.specs.EndCell.{begun_in}
use Rattle.rs_places_steps.proofs.EndCells.{puts}
use Rattle.rs_places_steps.proofs.end_cell.ClientEnd.put.Goals as goal

pub try_push_as-requires-clause-rule : goal.try_push_as-requires-clause-rule
try_push_as-requires-clause-rule g c = puts begun_in _ _ _ _ (c.args.self.said ∙ ap Some (sym c.requires))
