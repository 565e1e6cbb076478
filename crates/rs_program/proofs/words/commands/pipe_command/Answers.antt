use Rattle.std.proofs.Common.{rules, ◌≡◌, ◌∙◌, ap, ap₂, refl, false, codes}
use Rattle.std.proofs.lemmas.Result.{IfOk-weaker}
use Rattle.clap.specs.Words.{app_of, new_app, rule_of, with_rule}
use Rattle.clap.specs.Simple.{app_of_fields}
use Rattle.clap.specs.declared.builder.command.Command.{Command}
use Rattle.clap.specs.declared.builder.command.Command.TheOpen.{Command-F}
use Rattle.clap.specs.declared.builder.command.Command.TheViews.{out-Command}
use Rattle.rs_program.specs.CommandLine.{hex_option, at_option}
use Rattle.rs_program.proofs.words.commands.pipe_command.Goals as goal

pub returns-clause-shape : goal.returns-clause-shape
returns-clause-shape c =
    let hex_is : rule_of c.help-hex.result ≡ hex_option = search rules in
    let at_is : rule_of c.help-at.result ≡ at_option = search rules in
    let about_is : app_of c.long_about.result ≡ new_app (codes "pipe") = ap app_of_fields c.long_about.ensures ∙ ap app_of_fields c.about.ensures ∙ c.new-2.ensures.app in
    let first : app_of c.in_ok-arg.field-0 ≡ with_rule (new_app (codes "pipe")) hex_option = c.in_ok-arg.ensures.shape (search rules) ∙ ap₂ with_rule about_is hex_is in
    IfOk-weaker c.arg-2.result _ _ (λ r h. h.shape (search rules) ∙ ap₂ with_rule first at_is) c.arg-2.ensures

pub returns-clause-local : goal.returns-clause-local
returns-clause-local c =
    let hex_local : c.help-hex.result.global ≡ false = search rules in
    let at_local : c.help-at.result.global ≡ false = search rules in
    let at_first : (out-Command c.long_about.result).has_globals ≡ false = ap (λ (f : Command-F Command). f.has_globals) c.long_about.ensures ∙ ap (λ (f : Command-F Command). f.has_globals) c.about.ensures ∙ c.new-2.ensures.local in
    let then : (out-Command c.in_ok-arg.field-0).has_globals ≡ false = c.in_ok-arg.ensures.globals ∙ (rw (at_first, hex_local) refl) in
    IfOk-weaker c.arg-2.result _ _ (λ r h. h.globals ∙ (rw (then, at_local) refl)) c.arg-2.ensures
