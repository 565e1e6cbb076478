use Rattle.std.proofs.Common.{◌∙◌, ap, sym, Some}
use Rattle.clap.specs.Words.{found_of}
use Rattle.clap.proofs.WalkLemmas.{first_value-rows}
use Rattle.rs_program.proofs.words.values.text_given.Goals as goal

pub returns-in-None : goal.returns-in-None
returns-in-None c = sym (first_value-rows (found_of c.args.found.now) c.args.option.now) ∙ sym c.in-None.ensures

pub returns-in-Ok : goal.returns-in-Ok
returns-in-Ok c = sym (c.in-Some.ensures ∙ first_value-rows (found_of c.args.found.now) c.args.option.now) ∙ ap Some (sym c.in-Ok.ensures.ok)
