use Rattle.rs_program_pipe.specs.OwnStores.{content_of}
use Rattle.rs_program_pipe.proofs.OwnStores.{own_stays}
use Rattle.rs_program_pipe.proofs.own_store.gate.OwnGateGate.answer_within.Goals as goal

pub returns-in-Ok-clause-list : goal.returns-in-Ok-clause-list
returns-in-Ok-clause-list c = λ seen own.
    let (list, stands, begins, answered) = c.in-Ok.ensures.list seen own.stands in
    (list, own_stays (content_of c.args.self.now) _ seen list c.args.self.now.limit c.in-Ok.ensures.same own stands begins, begins, answered)
