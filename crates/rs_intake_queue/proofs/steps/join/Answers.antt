use Rattle.rs_intake_queue.proofs.Queues.{merges}
use Rattle.rs_intake_queue.proofs.steps.join.Goals as goal

pub absorb-requires-clause-rule : goal.absorb-requires-clause-rule
absorb-requires-clause-rule c = merges _ _ _ _ c.requires.takes.0 c.requires.takes.1 c.requires.sends
