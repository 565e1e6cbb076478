use Rattle.std.proofs.Common.{length, refl, sym, ap, ◌∙◌, arith}
use Rattle.rs_journal.specs.Pages.{page_form}
use Rattle.rs_journal.proofs.FormLemmas.{page_long}
use Rattle.rs_journal.proofs.StandsLemmas.{goes_on_same, holds_put}
use Rattle.rs_journal.proofs.pages.stream.PageStream.put_tail.Goals as goal

pub put_page-requires : goal.put_page-requires
put_page-requires g c =
    ap length (c.deref-2.ensures.value ∙ c.in_ok-form_page.ensures.form) ∙ page_long c.in-Some-Some.number c.deref.result.now (omega (arith, ap length c.deref.ensures.value, c.args.self.now.short))
    ∙ sym c.args.self.now.sized

pub returns-in_err-put_page-clause-goes_on : goal.returns-in_err-put_page-clause-goes_on
returns-in_err-put_page-clause-goes_on g c = record { keeps = c.put_page.ensures.keeps; standing = refl }

pub returns-clause-goes_on : goal.returns-clause-goes_on
returns-clause-goes_on g c = record { keeps = c.put_page.ensures.keeps; standing = refl }

pub returns-clause-put : goal.returns-clause-put
returns-clause-put g c = λ standing seen holds.
    let at = c.in-Some-Some.at in
    let number = c.in-Some-Some.number in
    holds_put c.args.self.now _ c.deref-2.result.now standing seen at number c.put_page.ensures.keeps refl c.in-Some-Some.ensures c.in-Some-Some.ensures' c.form_page.ensures.range
    (c.deref-2.ensures.value ∙ c.in_ok-form_page.ensures.form ∙ ap (page_form number) c.deref.ensures.value)
    c.in_ok-put_page.ensures.put refl refl c.clear.ensures.items holds

pub returns-in_err-form_page-clause-goes_on : goal.returns-in_err-form_page-clause-goes_on
returns-in_err-form_page-clause-goes_on g c = goes_on_same c.args.self.now _ refl refl
