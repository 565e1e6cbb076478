use Rattle.std.proofs.Common.{◌∙◌, sym}
use Rattle.clap.specs.Words.{found_of}
use Rattle.clap.proofs.WalkLemmas.{first_value-rows}
use Rattle.rs_program.proofs.words.values.size_given.Goals as goal

pub returns-in-None-clause-given : goal.returns-in-None-clause-given
returns-in-None-clause-given c = sym (first_value-rows (found_of c.args.found.now) c.args.option.now) ∙ sym c.in-None.ensures

pub returns-in_ok-bytes-in-Some-clause-given : goal.returns-in_ok-bytes-in-Some-clause-given
returns-in_ok-bytes-in-Some-clause-given c = (c.in-Some.text.now, sym (c.in-Some.ensures ∙ first_value-rows (found_of c.args.found.now) c.args.option.now), c.in_ok-bytes-in-Some.ensures.some)
