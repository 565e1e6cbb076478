use Rattle.rs_program.proofs.Sizes.{only_digits, only_letter}
use Rattle.rs_program.proofs.words.size.split_unit.Goals as goal

pub returns-in-Some-unit-clause-only : goal.returns-in-Some-unit-clause-only
returns-in-Some-unit-clause-only c = only_letter c.args.text.now c.in-Some.digits.now c.in-Some.letter.now c.in-Some-unit.each c.in-Some.ensures.cases.0 c.in-Some-unit.ensures.some

pub returns-in-None-unit-clause-only : goal.returns-in-None-unit-clause-only
returns-in-None-unit-clause-only c = λ digits letters each parts numeral unit. only_digits c.args.text.now c.in-Some.digits.now c.in-Some.letter.now c.in-Some.ensures.cases.0 c.in-None-unit.ensures.none digits letters each parts unit
