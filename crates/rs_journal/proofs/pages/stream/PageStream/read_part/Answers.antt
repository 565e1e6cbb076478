use Rattle.std.proofs.Common.{◌≡◌, ◌+◌, ◌++◌, ℕ, List, Some, refl, sym, ap, ◌∙◌, arith}
use Rattle.sqlite_wal.specs.Recovery.{Pages}
use Rattle.sqlite_pager.specs.Pager.{visible}
use Rattle.rs_journal.specs.Pages.{joined, part_in}
use Rattle.rs_journal.proofs.StandsLemmas.{adds_nothing, rests_along}
use Rattle.rs_journal.proofs.pages.stream.PageStream.read_part.Goals as goal

pub read_page-requires : goal.read_page-requires
read_page-requires g c = c.loaded.ensures.len ∙ c.load.ensures.keeps.stays.size ∙ c.args.self.now.sized

pub returns-clause-read : goal.returns-clause-read
returns-clause-read g c = λ clean.
    let pages = visible c.args.self.now.pager in
    let place : c.args.index + 2 ≡ c.in-Some.at = omega (arith, c.in-Some.ensures) in
    let there : pages (c.args.index + 2) ≡ Some c.loaded.result.now = ap pages place ∙ c.in_ok-load.ensures.ok clean ∙ ap (λ (l : List ℕ). Some l) (sym c.loaded.ensures.value) in
    c.in_ok-extend_from_slice.ensures.items ∙ ap (λ (l : List ℕ). c.args.out.now.items ++ l) (c.read_page.ensures.part ∙ sym (ap part_in there))

pub returns-clause-rests : goal.returns-clause-rests
returns-clause-rests g c = λ standing rests. rests_along c.args.self.now _ standing c.load.ensures.keeps c.load.ensures.pages refl refl refl rests

pub returns-clause-same : goal.returns-clause-same
returns-clause-same g c = record { clean = c.load.ensures.keeps.stays.clean; pages = refl; parts = λ n. ap (λ (p : Pages). joined p n) c.load.ensures.pages; open_same = λ h. c.load.ensures.open ∙ h }

pub returns-in_err-load-clause-rests : goal.returns-in_err-load-clause-rests
returns-in_err-load-clause-rests g c = λ standing rests. rests_along c.args.self.now _ standing c.load.ensures.keeps c.load.ensures.pages refl refl refl rests

pub returns-in_err-load-clause-same : goal.returns-in_err-load-clause-same
returns-in_err-load-clause-same g c = record { clean = c.load.ensures.keeps.stays.clean; pages = refl; parts = λ n. ap (λ (p : Pages). joined p n) c.load.ensures.pages; open_same = λ h. c.load.ensures.open ∙ h }

pub returns-in_err-extend_from_slice-clause-rests : goal.returns-in_err-extend_from_slice-clause-rests
returns-in_err-extend_from_slice-clause-rests g c = λ standing rests. rests_along c.args.self.now _ standing c.load.ensures.keeps c.load.ensures.pages refl refl refl rests

pub returns-in_err-extend_from_slice-clause-same : goal.returns-in_err-extend_from_slice-clause-same
returns-in_err-extend_from_slice-clause-same g c = record { clean = c.load.ensures.keeps.stays.clean; pages = refl; parts = λ n. ap (λ (p : Pages). joined p n) c.load.ensures.pages; open_same = λ h. c.load.ensures.open ∙ h }

pub returns-clause-crash : goal.returns-clause-crash
returns-clause-crash g c = adds_nothing c.args.self.now c.load.new.self c.load.ensures.keeps

pub returns-in_err-load-clause-crash : goal.returns-in_err-load-clause-crash
returns-in_err-load-clause-crash g c = adds_nothing c.args.self.now c.load.new.self c.load.ensures.keeps

pub returns-in_err-extend_from_slice-clause-crash : goal.returns-in_err-extend_from_slice-clause-crash
returns-in_err-extend_from_slice-clause-crash g c = adds_nothing c.args.self.now c.load.new.self c.load.ensures.keeps
