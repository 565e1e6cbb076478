use Rattle.std.proofs.Common.{◌≡◌, ◌∙◌, ap, refl, sym, subst, Some, codes, Bool, true, false, not}
use Rattle.std.proofs.Math.Bool.{beq}
use Rattle.clap.specs.Words.{found_of, first_of, rows_of}
use Rattle.clap.proofs.WalkLemmas.{first_value-rows}
use Rattle.rs_program.specs.CommandLine.{IsFlagOf}
use Rattle.rs_program.proofs.words.values.listen_of.Goals as goal

unlike : (a b : Bool) → beq a b ≡ false → b ≡ not a
unlike true true e = e
unlike true false e = refl
unlike false true e = refl
unlike false false e = sym e

pub returns-clause-run : goal.returns-clause-run
returns-clause-run c =
    let found = found_of c.args.found.now in
    let given = c.in-Some-Some-Some-Some-Some in
    let address : first_of (codes "address") (rows_of found) ≡ Some given.address.now = sym (given.ensures ∙ first_value-rows found (codes "address")) in
    let endless = subst (IsFlagOf (rows_of found) (codes "endless")) (unlike c.is_some.result c.flag.result c.if-is_some-flag.false ∙ ap not c.is_some.ensures) c.flag.ensures in
    (refl, address ∙ ap Some (sym c.in-Ok.ensures.ok), given.ensures', c.in-Some.ensures.given, given.ensures'', c.in-Some-size_given.ensures.given, (given.ensures''', endless), given.ensures'''', c.flag-2.ensures, c.in_ok-metrics.ensures, c.in_ok-keep.ensures)
