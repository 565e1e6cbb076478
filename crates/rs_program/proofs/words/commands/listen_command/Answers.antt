use Rattle.std.proofs.Common.{◌≡◌, ◌∙◌, ap, ap₂, refl, false, codes}
use Rattle.std.proofs.lemmas.Result.{IfOk-weaker}
use Rattle.clap.specs.Words.{App, app_of, new_app, with_rule}
use Rattle.clap.specs.Simple.{app_of_fields}
use Rattle.clap.specs.declared.builder.command.Command.{Command}
use Rattle.clap.specs.declared.builder.command.Command.TheOpen.{Command-F}
use Rattle.clap.specs.declared.builder.command.Command.TheViews.{out-Command}
use Rattle.rs_program.specs.CommandLine.{address_option, places_option, clients_option, topics_option, memory_option, connections_option, endless_option, idle_option, log_option, metrics_option, keep_option}
use Rattle.rs_program.proofs.words.commands.listen_command.Goals as goal

pub returns-clause-shape : goal.returns-clause-shape
returns-clause-shape c =
    let none : app_of c.long_about.result ≡ new_app (codes "listen") = ap app_of_fields c.long_about.ensures ∙ ap app_of_fields c.about.ensures ∙ c.new.ensures.app in
    let with_first : App = with_rule (new_app (codes "listen")) address_option in
    let first : app_of c.in_ok-arg.field-0 ≡ with_first = c.in_ok-arg.ensures.shape c.address_option.ensures.local ∙ ap₂ with_rule none c.address_option.ensures.rule in
    let with_second : App = with_rule with_first places_option in
    let second : app_of c.in_ok-arg-2.field-0 ≡ with_second = c.in_ok-arg-2.ensures.shape c.places_option.ensures.local ∙ ap₂ with_rule first c.places_option.ensures.rule in
    let with_third : App = with_rule with_second clients_option in
    let third : app_of c.in_ok-arg-3.field-0 ≡ with_third = c.in_ok-arg-3.ensures.shape c.clients_option.ensures.local ∙ ap₂ with_rule second c.clients_option.ensures.rule in
    let with_fourth : App = with_rule with_third topics_option in
    let fourth : app_of c.in_ok-arg-4.field-0 ≡ with_fourth = c.in_ok-arg-4.ensures.shape c.topics_option.ensures.local ∙ ap₂ with_rule third c.topics_option.ensures.rule in
    let with_fifth : App = with_rule with_fourth memory_option in
    let fifth : app_of c.in_ok-arg-5.field-0 ≡ with_fifth = c.in_ok-arg-5.ensures.shape c.memory_option.ensures.local ∙ ap₂ with_rule fourth c.memory_option.ensures.rule in
    let with_sixth : App = with_rule with_fifth connections_option in
    let sixth : app_of c.in_ok-arg-6.field-0 ≡ with_sixth = c.in_ok-arg-6.ensures.shape c.connections_option.ensures.local ∙ ap₂ with_rule fifth c.connections_option.ensures.rule in
    let with_seventh : App = with_rule with_sixth endless_option in
    let seventh : app_of c.in_ok-arg-7.field-0 ≡ with_seventh = c.in_ok-arg-7.ensures.shape c.endless_option.ensures.local ∙ ap₂ with_rule sixth c.endless_option.ensures.rule in
    let with_eighth : App = with_rule with_seventh idle_option in
    let eighth : app_of c.in_ok-arg-8.field-0 ≡ with_eighth = c.in_ok-arg-8.ensures.shape c.idle_option.ensures.local ∙ ap₂ with_rule seventh c.idle_option.ensures.rule in
    let with_ninth : App = with_rule with_eighth log_option in
    let ninth : app_of c.in_ok-arg-9.field-0 ≡ with_ninth = c.in_ok-arg-9.ensures.shape c.log_option.ensures.local ∙ ap₂ with_rule eighth c.log_option.ensures.rule in
    let with_tenth : App = with_rule with_ninth metrics_option in
    let tenth : app_of c.in_ok-arg-10.field-0 ≡ with_tenth = c.in_ok-arg-10.ensures.shape c.metrics_option.ensures.local ∙ ap₂ with_rule ninth c.metrics_option.ensures.rule in
    let with_eleventh : App = with_rule with_tenth keep_option in
    let eleventh : app_of c.in_ok-arg-11.field-0 ≡ with_eleventh = c.in_ok-arg-11.ensures.shape c.keep_option.ensures.local ∙ ap₂ with_rule tenth c.keep_option.ensures.rule in
    IfOk-weaker c.arg-12.result _ _ (λ r h. h.shape c.sync_option.ensures.local ∙ ap₂ with_rule eleventh c.sync_option.ensures.rule) c.arg-12.ensures

pub returns-clause-local : goal.returns-clause-local
returns-clause-local c =
    let none : (out-Command c.long_about.result).has_globals ≡ false = ap (λ (f : Command-F Command). f.has_globals) c.long_about.ensures ∙ ap (λ (f : Command-F Command). f.has_globals) c.about.ensures ∙ c.new.ensures.local in
    let first : (out-Command c.in_ok-arg.field-0).has_globals ≡ false = c.in_ok-arg.ensures.globals ∙ (rw (none, c.address_option.ensures.local) refl) in
    let second : (out-Command c.in_ok-arg-2.field-0).has_globals ≡ false = c.in_ok-arg-2.ensures.globals ∙ (rw (first, c.places_option.ensures.local) refl) in
    let third : (out-Command c.in_ok-arg-3.field-0).has_globals ≡ false = c.in_ok-arg-3.ensures.globals ∙ (rw (second, c.clients_option.ensures.local) refl) in
    let fourth : (out-Command c.in_ok-arg-4.field-0).has_globals ≡ false = c.in_ok-arg-4.ensures.globals ∙ (rw (third, c.topics_option.ensures.local) refl) in
    let fifth : (out-Command c.in_ok-arg-5.field-0).has_globals ≡ false = c.in_ok-arg-5.ensures.globals ∙ (rw (fourth, c.memory_option.ensures.local) refl) in
    let sixth : (out-Command c.in_ok-arg-6.field-0).has_globals ≡ false = c.in_ok-arg-6.ensures.globals ∙ (rw (fifth, c.connections_option.ensures.local) refl) in
    let seventh : (out-Command c.in_ok-arg-7.field-0).has_globals ≡ false = c.in_ok-arg-7.ensures.globals ∙ (rw (sixth, c.endless_option.ensures.local) refl) in
    let eighth : (out-Command c.in_ok-arg-8.field-0).has_globals ≡ false = c.in_ok-arg-8.ensures.globals ∙ (rw (seventh, c.idle_option.ensures.local) refl) in
    let ninth : (out-Command c.in_ok-arg-9.field-0).has_globals ≡ false = c.in_ok-arg-9.ensures.globals ∙ (rw (eighth, c.log_option.ensures.local) refl) in
    let tenth : (out-Command c.in_ok-arg-10.field-0).has_globals ≡ false = c.in_ok-arg-10.ensures.globals ∙ (rw (ninth, c.metrics_option.ensures.local) refl) in
    let eleventh : (out-Command c.in_ok-arg-11.field-0).has_globals ≡ false = c.in_ok-arg-11.ensures.globals ∙ (rw (tenth, c.keep_option.ensures.local) refl) in
    IfOk-weaker c.arg-12.result _ _ (λ r h. h.globals ∙ (rw (eleventh, c.sync_option.ensures.local) refl)) c.arg-12.ensures
