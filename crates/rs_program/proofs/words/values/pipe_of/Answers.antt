use Rattle.std.proofs.Common.{refl}
use Rattle.rs_program.proofs.words.values.pipe_of.Goals as goal

pub returns-clause-run : goal.returns-clause-run
returns-clause-run c = (refl, c.in-Some.ensures, c.flag.ensures)
