use Rattle.rs_program_pipe.specs.OwnStores.{content_of}
use Rattle.rs_program_pipe.proofs.Submits.{own_left, own_submitted}
use Rattle.rs_program_pipe.proofs.own_store.gate.OwnGateGate.submit.Goals as goal

pub returns-in-Ok-clause-list : goal.returns-in-Ok-clause-list
returns-in-Ok-clause-list c = λ seen own. own_submitted (content_of c.args.self.now) _ c.args.operation seen c.args.self.now.limit c.requires c.in-Ok.ensures.done own

pub returns-in-Err-clause-list : goal.returns-in-Err-clause-list
returns-in-Err-clause-list c = λ seen own. own_left (content_of c.args.self.now) _ c.args.operation c.in-Err.fault seen c.args.self.now.limit c.in-Err.ensures.refused own
