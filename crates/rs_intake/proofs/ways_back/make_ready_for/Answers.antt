use Rattle.rs_intake.proofs.Done.{left_ready}
use Rattle.rs_intake.proofs.ways_back.make_ready_for.Goals as goal

pub make_ready-requires-clause-rises : goal.make_ready-requires-clause-rises
make_ready-requires-clause-rises g c = (left_ready _ _ _ c.requires.left).1
