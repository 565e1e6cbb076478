use Rattle.std.proofs.Common.{◌≡◌, ◌≢◌, subst, ◌∙◌, refl, arith}
use Rattle.std.specs.FinMap.{len}
use Rattle.rs_message.specs.declared.qos.Qos.{Qos}
use Rattle.rs_message.specs.declared.qos.Qos.TheVariants.{AtMostOnce}
use Rattle.rs_window.specs.Identifiers.{kinds_of}
use Rattle.rs_window.proofs.IdentifierLemmas.{len_kinds}
use Rattle.rs_window.proofs.StepLemmas.{needs_quota}
use Rattle.rs_window.proofs.waiting.take_first.Goals as goal

pub returns-then-not-may_be_sent-clause-needs_quota : goal.returns-then-not-may_be_sent-clause-needs_quota
returns-then-not-may_be_sent-clause-needs_quota c =
    let full : len (kinds_of c.args.identifiers.now) ≡ c.args.quota = len_kinds c.args.identifiers.now ∙ omega (arith, c.requires.within, c.if-not-may_be_sent.ensures.used_up refl) in
    needs_quota (kinds_of c.args.identifiers.now) c.args.quota c.in-Some.first.now _ c.in-Some.ensures.lookup (subst (λ (q : Qos). q ≢ AtMostOnce) c.lesser_of-qos.ensures (c.if-not-may_be_sent.ensures.needs refl)) full
