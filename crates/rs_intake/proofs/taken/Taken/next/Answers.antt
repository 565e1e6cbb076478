use Rattle.std.proofs.Common.{rules}
use Rattle.rs_intake.proofs.taken.Taken.next.Goals as goal

pub returns-clause-taken : goal.returns-clause-taken
returns-clause-taken g c = search rules

pub returns-clause-ended : goal.returns-clause-ended
returns-clause-ended g c = search rules

pub returns-clause-placed : goal.returns-clause-placed
returns-clause-placed g c = search rules
