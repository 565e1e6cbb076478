use Rattle.std.proofs.Common.{length, refl, sym, ap, ◌∙◌}
use Rattle.rs_journal.proofs.FormLemmas.{head_long}
use Rattle.rs_journal.proofs.StandsLemmas.{closed_same, goes_on_same, holds_anew}
use Rattle.rs_journal.proofs.pages.stream.PageStream.put_head.Goals as goal

pub put_page-requires : goal.put_page-requires
put_page-requires g c = ap length (c.deref.ensures.value ∙ c.in_ok-form_head.ensures.form) ∙ head_long _ ∙ sym c.args.self.now.sized

pub returns-in_err-put_page-clause-goes_on : goal.returns-in_err-put_page-clause-goes_on
returns-in_err-put_page-clause-goes_on g c = record { keeps = c.put_page.ensures.keeps; standing = refl }

pub returns-clause-goes_on : goal.returns-clause-goes_on
returns-clause-goes_on g c = record { keeps = c.put_page.ensures.keeps; standing = refl }

pub returns-clause-open : goal.returns-clause-open
returns-clause-open g c = c.in_ok-check_open.ensures

pub returns-clause-begun : goal.returns-clause-begun
returns-clause-begun g c = λ standing rests.
    holds_anew c.args.self.now _ c.deref.result.now standing c.in-Some.first c.put_page.ensures.keeps refl c.in-Some.ensures c.form_head.ensures.range
    (c.deref.ensures.value ∙ c.in_ok-form_head.ensures.form) c.in_ok-put_page.ensures.put refl refl refl rests

pub returns-in_err-form_head-clause-goes_on : goal.returns-in_err-form_head-clause-goes_on
returns-in_err-form_head-clause-goes_on g c = goes_on_same c.args.self.now _ refl refl

pub returns-in_err-check_open-clause-closed : goal.returns-in_err-check_open-clause-closed
returns-in_err-check_open-clause-closed g c = closed_same c.args.self.now _ refl

pub returns-in_err-check_open-clause-goes_on : goal.returns-in_err-check_open-clause-goes_on
returns-in_err-check_open-clause-goes_on g c = goes_on_same c.args.self.now _ refl refl

pub returns-in_err-form_head-clause-closed : goal.returns-in_err-form_head-clause-closed
returns-in_err-form_head-clause-closed g c = λ shut. absurd (shut c.in_ok-check_open.ensures)

pub returns-in_err-put_page-clause-closed : goal.returns-in_err-put_page-clause-closed
returns-in_err-put_page-clause-closed g c = λ shut. absurd (shut c.in_ok-check_open.ensures)

pub returns-clause-closed : goal.returns-clause-closed
returns-clause-closed g c = λ shut. absurd (shut c.in_ok-check_open.ensures)
