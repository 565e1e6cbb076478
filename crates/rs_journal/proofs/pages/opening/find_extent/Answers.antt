use Rattle.std.proofs.Common.{◌≡◌, inl, ℕ, List, Ok, Some, refl, sym, ap, subst, ◌∙◌}
use Rattle.sqlite_wal.specs.Recovery.{Pages}
use Rattle.sqlite_wal.proofs.StateLemmas.{Keeps-trans}
use Rattle.sqlite_pager.specs.Pager.{visible}
use Rattle.rs_journal.specs.Pages.{AreNumbered, IsHead}
use Rattle.rs_journal.proofs.OpenLemmas.{clean_along, wrong_page, wrong_refuses}
use Rattle.rs_journal.proofs.StreamLemmas.{some_is}
use Rattle.rs_journal.proofs.pages.opening.find_extent.Goals as goal

pub read_head-requires : goal.read_head-requires
read_head-requires g c = c.loaded.ensures.len ∙ c.load.ensures.keeps.stays.size ∙ c.requires

pub count_pages-requires : goal.count_pages-requires
count_pages-requires g c = c.load.ensures.keeps.stays.size ∙ c.requires

pub returns-in-Ok-Some-clause-found : goal.returns-in-Ok-Some-clause-found
returns-in-Ok-Some-clause-found g c = λ clean is.
    let old = c.args.pager.now in
    let mid = c.load.new.self in
    let was = c.count_pages.ensures.keeps.stays.clean clean in
    record {
      head = record {
        bytes = c.loaded.result.now;
        there = c.in_default.ensures.ok was ∙ ap (λ (l : List ℕ). Some l) (sym c.loaded.ensures.value);
        sized = c.loaded.ensures.len ∙ c.load.ensures.keeps.stays.size ∙ c.requires;
        says = c.in-Ok.ensures.ok;
      };
      numbered = subst (λ (p : Pages). AreNumbered p c.in-Ok.first c.in-Ok-Some.count) c.load.ensures.pages
          (c.in-Ok-Some.ensures.counted c.in-Ok-Some.count (ap Ok c.in-Ok-Some.field-0-is) clean (clean_along old mid c.load.ensures.keeps c.load.ensures.open c.load.ensures.pages was is));
      joins = refl;
    }

pub returns-in-Ok-None-clause-refused : goal.returns-in-Ok-None-clause-refused
returns-in-Ok-None-clause-refused g c = λ _ clean.
    let was = c.count_pages.ensures.keeps.stays.clean clean in
    let page = c.loaded.result.now in
    let there = c.in_default.ensures.ok was ∙ ap (λ (l : List ℕ). Some l) (sym c.loaded.ensures.value) in (
      page,
      there,
      (
        c.in-Ok.ensures.ok.named,
        c.in-Ok.ensures.ok.version,
        λ first count stream has.
            let same = some_is has.head.bytes page (visible c.args.pager.now 1) has.head.there there in
            let begins : first ≡ c.in-Ok.first = sym (subst (λ (l : List ℕ). IsHead l first) same has.head.says).begins ∙ c.in-Ok.ensures.ok.begins in
            c.in-Ok-None.ensures.damaged (ap Ok c.in-Ok-None.field-0-is) clean count
            (subst (λ (p : Pages). AreNumbered p c.in-Ok.first count) (sym c.load.ensures.pages) (subst (λ (n : ℕ). AreNumbered (visible c.args.pager.now) n count) begins has.numbered)),
      ),
    )

pub returns-in-Err-read_head-clause-refused : goal.returns-in-Err-read_head-clause-refused
returns-in-Err-read_head-clause-refused g c = λ _ clean.
    let there = c.in_default.ensures.ok clean ∙ ap (λ (l : List ℕ). Some l) (sym c.loaded.ensures.value) in
    (c.loaded.result.now, there, wrong_page c.in-Err-read_head.fault (visible c.args.pager.now) c.loaded.result.now there c.in-Err-read_head.ensures.err)

pub returns-in-Ok-Some-clause-keeps : goal.returns-in-Ok-Some-clause-keeps
returns-in-Ok-Some-clause-keeps g c = Keeps-trans _ _ _ c.load.ensures.keeps c.count_pages.ensures.keeps

pub returns-in-Ok-None-clause-keeps : goal.returns-in-Ok-None-clause-keeps
returns-in-Ok-None-clause-keeps g c = Keeps-trans _ _ _ c.load.ensures.keeps c.count_pages.ensures.keeps

pub returns-in-Err-count_pages-clause-keeps : goal.returns-in-Err-count_pages-clause-keeps
returns-in-Err-count_pages-clause-keeps g c = Keeps-trans _ _ _ c.load.ensures.keeps c.count_pages.ensures.keeps

pub returns-in-Err-read_head-clause-kind : goal.returns-in-Err-read_head-clause-kind
returns-in-Err-read_head-clause-kind g c = inl (wrong_refuses c.in-Err-read_head.fault c.loaded.result.now c.in-Err-read_head.ensures.err)
