use Rattle.std.proofs.Common.{refl, sym, ◌∙◌}
use Rattle.rs_journal.proofs.StandsLemmas.{adds_nothing, rests_back}
use Rattle.rs_journal.proofs.pages.stream.PageStream.rollback.Goals as goal

pub returns-clause-rests : goal.returns-clause-rests
returns-clause-rests g c = λ standing stands. rests_back c.args.self.now _ standing c.rollback.ensures.keeps c.rollback.ensures.clean refl refl c.clear.ensures.items stands

pub returns-clause-open : goal.returns-clause-open
returns-clause-open g c = (λ h. sym c.rollback.ensures.ready ∙ h, λ h. c.rollback.ensures.ready ∙ h)

pub returns-clause-crash : goal.returns-clause-crash
returns-clause-crash g c = adds_nothing c.args.self.now c.rollback.new.self c.rollback.ensures.keeps

pub returns-clause-closed : goal.returns-clause-closed
returns-clause-closed g c = λ shut. record { closed = λ h. shut (sym c.rollback.ensures.ready ∙ h); files = c.rollback.ensures.files; outcomes = adds_nothing c.args.self.now c.rollback.new.self c.rollback.ensures.keeps }

pub returns-clause-faults : goal.returns-clause-faults
returns-clause-faults g c = c.rollback.ensures.faults
