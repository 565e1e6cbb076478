use Rattle.std.proofs.Common.{◌∙◌, codes, sym}
use Rattle.clap.specs.Words.{found_of}
use Rattle.clap.proofs.WalkLemmas.{first_value-rows}
use Rattle.rs_program.proofs.words.values.keep_nowhere.Goals as goal

pub returns-in-None : goal.returns-in-None
returns-in-None c = (c.requires, sym (first_value-rows (found_of c.args.found.now) (codes "sync")) ∙ sym c.in-None.ensures)
