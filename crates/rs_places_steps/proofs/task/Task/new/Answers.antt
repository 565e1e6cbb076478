use Rattle.rs_places_steps.proofs.Beginnings.{same_begun}
use Rattle.rs_places_steps.proofs.task.Task.new.Goals as goal

pub invariant_of-result : goal.invariant_of-result
invariant_of-result g c = record { own = same_begun _ _ c.requires.turn c.requires.gate }
