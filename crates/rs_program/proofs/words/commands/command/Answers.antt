use Rattle.std.proofs.Common.{rules, ◌≡◌, ◌∙◌, ap, ap₂, refl, true, false, codes}
use Rattle.std.proofs.lemmas.Result.{IfOk-weaker}
use Rattle.clap.specs.Words.{App, app_of, new_app, with_subcommand}
use Rattle.clap.specs.Simple.{on_top}
use Rattle.clap.specs.declared.builder.command.Command.TheViews.{out-Command}
use Rattle.rs_program.specs.CommandLine.{pipe_words}
use Rattle.rs_program.proofs.words.commands.command.Goals as goal

pub returns-clause-shape : goal.returns-clause-shape
returns-clause-shape c =
    let top : App = on_top (λ s. record s { has_version = true; no_binary_name = true; subcommand_required = true; disable_help_subcommand = true }) (new_app (codes "rstored")) in
    let top_is : app_of c.disable_help_subcommand.result ≡ top = search rules in
    let first : app_of c.in_ok-subcommand.field-0 ≡ with_subcommand top pipe_words.top = c.in_ok-subcommand.ensures.shape c.in_ok-pipe_command.ensures.local
    ∙ ap₂ with_subcommand top_is (ap (λ (a : App). a.top) c.in_ok-pipe_command.ensures.shape) in
    IfOk-weaker c.subcommand-2.result _ _
    (λ r h. h.shape c.in_ok-listen_command.ensures.local ∙ ap₂ with_subcommand first (ap (λ (a : App). a.top) c.in_ok-listen_command.ensures.shape)) c.subcommand-2.ensures

pub returns-clause-local : goal.returns-clause-local
returns-clause-local c =
    let none : (out-Command c.disable_help_subcommand.result).has_globals ≡ false = search rules in
    let first : (out-Command c.in_ok-subcommand.field-0).has_globals ≡ false = c.in_ok-subcommand.ensures.globals ∙ (rw (none, c.in_ok-pipe_command.ensures.local) refl) in
    IfOk-weaker c.subcommand-2.result _ _ (λ r h. h.globals ∙ (rw (first, c.in_ok-listen_command.ensures.local) refl)) c.subcommand-2.ensures
