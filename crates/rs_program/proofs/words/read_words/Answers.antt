use Rattle.std.proofs.Common.{◌∙◌, map, refl, sym, subst}
use Rattle.std.proofs.lemmas.Result.{IfOk-weaker}
use Rattle.std.specs.String.{string_bytes}
use Rattle.clap.specs.Words.{App, HasMatchesOf}
use Rattle.rs_program.specs.CommandLine.{rstored_words}
use Rattle.rs_program.proofs.words.read_words.Goals as goal

pub returns-in-Ok-try_get_matches_from-clause-asked : goal.returns-in-Ok-try_get_matches_from-clause-asked
returns-in-Ok-try_get_matches_from-clause-asked c =
    let words = map string_bytes c.args.words.now in
    let found = c.in-Ok-try_get_matches_from.matches in
    let matches : HasMatchesOf rstored_words words found = subst (λ (a : App). HasMatchesOf a words found) c.in-Ok.ensures.shape c.in-Ok-try_get_matches_from.ensures.matches in
    IfOk-weaker c.run_of.result _ _ (λ r h. (h.0, h.1, sym (matches refl).1 ∙ h.2, h.3)) c.run_of.ensures.run
