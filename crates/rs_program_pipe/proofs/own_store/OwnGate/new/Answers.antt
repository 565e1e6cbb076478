use Rattle.std.proofs.Common.{rules}
use Rattle.rs_program_pipe.proofs.Submits.{own_empty}
use Rattle.rs_program_pipe.proofs.own_store.OwnGate.new.Goals as goal

pub returns-clause-list : goal.returns-clause-list
returns-clause-list c = own_empty _ (search rules) c.in_ok-new-in-Some.ensures.list
