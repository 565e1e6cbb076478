use Rattle.std.proofs.Common.{◌∙◌, sym}
use Rattle.clap.specs.Words.{found_of}
use Rattle.clap.proofs.WalkLemmas.{first_value-rows}
use Rattle.rs_program.proofs.words.values.number_given.Goals as goal

pub returns-in-None : goal.returns-in-None
returns-in-None c = sym (first_value-rows (found_of c.args.found.now) c.args.option.now) ∙ sym c.in-None.ensures
