use Rattle.rs_journal.proofs.RestartLemmas.{answer_alike, operations_retain, sets_retain}
use Rattle.rs_journal.proofs.law.restart_law.Goals as goal

pub returns-clause-alike : goal.returns-clause-alike
returns-clause-alike c = answer_alike

pub returns-clause-sets : goal.returns-clause-sets
returns-clause-sets c = sets_retain

pub returns-clause-operations : goal.returns-clause-operations
returns-clause-operations c = operations_retain
