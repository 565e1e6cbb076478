use Rattle.std.proofs.Common.{◌≡◌, ◌+◌, ◌-◌, ℕ, List, Some, refl, sym, ap, subst, ◌∙◌, arith}
use Rattle.sqlite_wal.specs.Recovery.{Pages}
use Rattle.sqlite_wal.proofs.StateLemmas.{Keeps-refl, Keeps-trans}
use Rattle.sqlite_pager.specs.Pager.{visible, page_count}
use Rattle.sqlite_pager.proofs.PagerLemmas.{visible_counted}
use Rattle.rs_journal.specs.Pages.{AreNumbered}
use Rattle.rs_journal.proofs.OpenLemmas.{IsCounted, counted_all, counted_more, counted_none, next_low, not_numbered}
use Rattle.rs_journal.proofs.pages.opening.count_pages.Goals as goal

pub read_page-number-requires : goal.read_page-number-requires
read_page-number-requires g c = c.loaded.ensures.len ∙ c.load.ensures.keeps.stays.size ∙ c.loop-at.invariant.keeps.stays.size ∙ c.requires

pub loop-at-init : goal.loop-at-init
loop-at-init g c = record { keeps = Keeps-refl _; ready = refl; same = refl; low = omega arith; counted = λ _. counted_none _ _ }

pub loop-at-preserved : goal.loop-at-preserved
loop-at-preserved g c =
    let it = c.args.pager.now in
    let inv = c.loop-at.invariant in
    let at = c.loop-at.at in
    record {
      keeps = Keeps-trans _ _ _ inv.keeps c.load.ensures.keeps;
      ready = c.load.ensures.open ∙ inv.ready;
      same = c.load.ensures.pages ∙ inv.same;
      low = let most = next_low _ _ _ _ _ c.in-Some.ensures.next (omega (arith, inv.low)) in omega (arith, most, inv.low);
      counted = λ clean.
          let place : at - 1 + 2 ≡ at + 1 = omega (arith, inv.low) in
          let there : visible it (at - 1 + 2) ≡ Some c.loaded.result.now =
          ap (visible it) place ∙ ap (λ (p : Pages). p (at + 1)) (sym inv.same) ∙ c.in_default.ensures.ok clean ∙ ap (λ (l : List ℕ). Some l) (sym c.loaded.ensures.value) in
          let more = counted_more (visible it) c.args.first c.loop-at.count c.in-Some.next (at - 1) _ c.loaded.result.now (inv.counted (c.load.ensures.keeps.stays.clean clean)) there c.read_page-number.ensures.number c.in-Some.ensures.next in
          subst (λ (k : ℕ). IsCounted (visible it) c.args.first c.in-Some.next k) (omega (arith, inv.low)) more;
    }

pub returns-in_default-count_with-clause-damaged : goal.returns-in_default-count_with-clause-damaged
returns-in_default-count_with-clause-damaged g c = λ _ clean n are.
    let it = c.args.pager.now in
    let inv = c.loop-at.invariant in
    let at = c.loop-at.at in
    let place : at - 1 + 2 ≡ at + 1 = omega (arith, inv.low) in
    let there : visible it (at - 1 + 2) ≡ Some c.loaded.result.now =
    ap (visible it) place ∙ ap (λ (p : Pages). p (at + 1)) (sym inv.same) ∙ c.in_default.ensures.ok clean ∙ ap (λ (l : List ℕ). Some l) (sym c.loaded.ensures.value) in
    let neither = c.count_with.ensures.neither c.in_default-count_with.is in
    not_numbered (visible it) c.args.first c.loop-at.count (at - 1) c.loaded.result.now (omega (arith, inv.low)) (inv.counted (c.load.ensures.keeps.stays.clean clean)) there
    (omega (arith, neither.0, c.read_page-number.ensures.number)) (λ here follows. neither.1 here (c.read_page-number.ensures.number ∙ follows)) n are

pub returns-clause-counted : goal.returns-clause-counted
returns-clause-counted g c = λ count same clean idle.
    let it = c.args.pager.now in
    let inv = c.loop-at.invariant in
    let is : c.loop-at.count ≡ count = cc in
    subst (λ (n : ℕ). AreNumbered (visible it) c.args.first n) is
    (counted_all (visible it) c.args.first c.loop-at.count (c.loop-at.at - 1) (page_count it) (visible_counted it idle.0) (omega (arith, c.loop-at-test.false, c.page_count-at-end.ensures, inv.low)) (inv.counted clean))

pub returns-in-Err-clause-keeps : goal.returns-in-Err-clause-keeps
returns-in-Err-clause-keeps g c = Keeps-trans _ _ _ c.loop-at.invariant.keeps c.load.ensures.keeps

pub returns-in_default-count_with-clause-keeps : goal.returns-in_default-count_with-clause-keeps
returns-in_default-count_with-clause-keeps g c = Keeps-trans _ _ _ c.loop-at.invariant.keeps c.load.ensures.keeps
