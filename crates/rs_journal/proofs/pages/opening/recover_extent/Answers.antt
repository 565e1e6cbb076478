use Rattle.std.proofs.Common.{ℕ, sym, subst, ◌∙◌}
use Rattle.sqlite_wal.specs.declared.error.Error.{Error}
use Rattle.sqlite_wal.specs.Files.{RefusesToRecover}
use Rattle.sqlite_wal.specs.Outcome.{HasCause}
use Rattle.sqlite_wal.specs.Recovery.{Pages, AddsNothing, AreWhole, IsUnreadable, Recovers}
use Rattle.sqlite_pager.specs.Pager.{image, state, visible}
use Rattle.sqlite_pager.proofs.PagerLemmas.{settled}
use Rattle.sqlite_wal.proofs.StateLemmas.{open_from}
use Rattle.rs_journal.specs.Pages.{HasStream, joined}
use Rattle.rs_journal.specs.declared.pages.fault.OpenFault.{OpenFault}
use Rattle.rs_journal.specs.OpenFaults.{Explains, IsRefusal}
use Rattle.rs_journal.proofs.OpenLemmas.{along_reads, clean_along, each_read, each_reopened, not_recovered, not_unreadable, not_without, recovered_wrong, refused_corrupt, stands_recovered, why_not_found, wrong_pages}
use Rattle.rs_journal.proofs.pages.opening.recover_extent.Goals as goal

pub find_extent-requires : goal.find_extent-requires
find_extent-requires g c = c.recover.ensures.size ∙ c.requires.sized

pub returns-in-Err-clause-named : goal.returns-in-Err-clause-named
returns-in-Err-clause-named g c = λ clean.
    let old = c.args.pager.now in
    subst (λ (f : OpenFault). Explains f (image old)) (sym c.fault_from.ensures)
    (not_recovered c.in-Err.error (image old) (λ corrupt.
    let cause = subst (λ (e : Error). HasCause (state old).faults (state c.recover.new.self).faults (RefusesToRecover (state old).page_size (image old)) e) corrupt (c.in-Err.ensures.cause.0 clean) in
    subst (λ (n : ℕ). IsUnreadable n (image old)) c.requires.sized (why_not_found (state old).faults (state c.recover.new.self).faults (state old).page_size (image old) cause)))

pub returns-in-Err-clause-untouched : goal.returns-in-Err-clause-untouched
returns-in-Err-clause-untouched g c = subst (λ (n : ℕ). AddsNothing n (state c.args.pager.now).may_leave (state c.recover.new.self).may_leave) c.requires.sized c.recover.ensures.crash

pub returns-in-Err-clause-refused : goal.returns-in-Err-clause-refused
returns-in-Err-clause-refused g c = λ refusal clean stream.
    let old = c.args.pager.now in
    let corrupt = refused_corrupt c.in-Err.error (subst IsRefusal c.fault_from.ensures refusal) in
    let cause = subst (λ (e : Error). HasCause (state old).faults (state c.recover.new.self).faults (RefusesToRecover (state old).page_size (image old)) e) corrupt (c.in-Err.ensures.cause.0 clean) in
    let unreadable = subst (λ (n : ℕ). IsUnreadable n (image old)) c.requires.sized (why_not_found (state old).faults (state c.recover.new.self).faults (state old).page_size (image old) cause) in
    not_unreadable (image old) stream (c.requires.begun (c.recover.ensures.honest clean)) unreadable

pub returns-in-Err-clause-crash : goal.returns-in-Err-clause-crash
returns-in-Err-clause-crash g c = λ streams.
    each_reopened c.args.pager.now c.recover.new.self streams g.met.D.Disk.seen_may_stay c.requires.sized c.requires.begun c.recover.ensures.honest c.recover.ensures.outcomes

pub returns-in-Ok-clause-ready : goal.returns-in-Ok-clause-ready
returns-in-Ok-clause-ready g c = c.find_extent.ensures.open ∙ c.in_default.ensures.ready

pub returns-in-Ok-clause-clean : goal.returns-in-Ok-clause-clean
returns-in-Ok-clause-clean g c = λ clean.
    clean_along c.recover.new.self c.find_extent.new.pager c.find_extent.ensures.keeps c.find_extent.ensures.open c.find_extent.ensures.pages clean
    (c.in_default.ensures.clean (c.find_extent.ensures.keeps.stays.clean clean))

pub returns-in-Ok-clause-found : goal.returns-in-Ok-clause-found
returns-in-Ok-clause-found g c = λ clean.
    let old = c.args.pager.now in
    let mid = c.recover.new.self in
    let last = c.find_extent.new.pager in
    let was = c.find_extent.ensures.keeps.stays.clean clean in
    let idle = c.in_default.ensures.clean was in
    let extent = c.in-Ok.extent in
    let has = subst (λ (p : Pages). HasStream p extent.first extent.count (joined p extent.count)) (sym c.find_extent.ensures.pages) (c.in-Ok.ensures.found clean idle) in
    let found = subst (λ (n : ℕ). Recovers n (image old) (state mid).committed) c.requires.sized (c.in_default.ensures.found was) in (
      stands_recovered mid (visible last) (image old) extent.first extent.count (joined (visible last) extent.count) g.met.D.Disk.seen_may_stay idle.0 (c.recover.ensures.size ∙ c.requires.sized) found
          (c.find_extent.ensures.pages ∙ idle.1) has,
      has,
    )

pub returns-in-Ok-clause-crash : goal.returns-in-Ok-clause-crash
returns-in-Ok-clause-crash g c = λ streams.
    each_read c.args.pager.now c.recover.new.self c.find_extent.new.pager streams g.met.D.Disk.seen_may_stay c.requires.sized c.recover.ensures.size c.requires.begun c.recover.ensures.honest c.in_default.ensures.ready
    c.in_default.ensures.found c.find_extent.ensures.keeps

pub returns-in-Err-find_extent-clause-crash : goal.returns-in-Err-find_extent-clause-crash
returns-in-Err-find_extent-clause-crash g c = λ streams.
    each_read c.args.pager.now c.recover.new.self c.find_extent.new.pager streams g.met.D.Disk.seen_may_stay c.requires.sized c.recover.ensures.size c.requires.begun c.recover.ensures.honest c.in_default.ensures.ready
    c.in_default.ensures.found c.find_extent.ensures.keeps

pub returns-in-Err-find_extent-clause-refused : goal.returns-in-Err-find_extent-clause-refused
returns-in-Err-find_extent-clause-refused g c = λ refusal clean stream.
    let old = c.args.pager.now in
    let mid = c.recover.new.self in
    let was = c.find_extent.ensures.keeps.stays.clean clean in
    let idle = c.in_default.ensures.clean was in
    let found = subst (λ (n : ℕ). Recovers n (image old) (state mid).committed) c.requires.sized (c.in_default.ensures.found was) in
    let wrong = c.in-Err-find_extent.ensures.refused refusal clean in
    not_without (image old) stream (state mid).committed (c.requires.begun (c.recover.ensures.honest was)) found
    (λ first count s has. wrong_pages c.in-Err-find_extent.fault (visible mid) wrong.0 wrong.1 wrong.2 first count s (subst (λ (p : Pages). HasStream p first count s) (sym idle.1) has))

pub returns-in-Ok-clause-honest : goal.returns-in-Ok-clause-honest
returns-in-Ok-clause-honest g c = λ clean. c.recover.ensures.honest (c.find_extent.ensures.keeps.stays.clean clean)

pub returns-in-Err-find_extent-clause-honest : goal.returns-in-Err-find_extent-clause-honest
returns-in-Err-find_extent-clause-honest g c = λ clean. c.recover.ensures.honest (c.find_extent.ensures.keeps.stays.clean clean)

pub returns-in-Err-find_extent-clause-named : goal.returns-in-Err-find_extent-clause-named
returns-in-Err-find_extent-clause-named g c = λ clean.
    let old = c.args.pager.now in
    let mid = c.recover.new.self in
    let was = c.find_extent.ensures.keeps.stays.clean clean in
    let idle = c.in_default.ensures.clean was in
    let found = subst (λ (n : ℕ). Recovers n (image old) (state mid).committed) c.requires.sized (c.in_default.ensures.found was) in
    recovered_wrong c.in-Err-find_extent.fault (image old) (visible mid) (subst (λ (p : Pages). Recovers 1024 (image old) p) (sym idle.1) found) (λ refusal. c.in-Err-find_extent.ensures.refused refusal clean) c.in-Err-find_extent.ensures.kind

pub returns-in-Err-find_extent-clause-untouched : goal.returns-in-Err-find_extent-clause-untouched
returns-in-Err-find_extent-clause-untouched g c =
    along_reads c.args.pager.now c.recover.new.self c.find_extent.new.pager c.requires.sized c.recover.ensures.size c.recover.ensures.crash c.find_extent.ensures.keeps

pub returns-in-Ok-clause-untouched : goal.returns-in-Ok-clause-untouched
returns-in-Ok-clause-untouched g c =
    along_reads c.args.pager.now c.recover.new.self c.find_extent.new.pager c.requires.sized c.recover.ensures.size c.recover.ensures.crash c.find_extent.ensures.keeps

pub returns-in-Err-clause-kept : goal.returns-in-Err-clause-kept
returns-in-Err-clause-kept g c = λ unreadable clean.
    let wide = subst (λ (n : ℕ). IsUnreadable n (image c.args.pager.now)) (sym c.requires.sized) unreadable in
    record { same = c.recover.ensures.unreadable clean wide; leaves = c.recover.ensures.still wide }

pub returns-in-Ok-clause-kept : goal.returns-in-Ok-clause-kept
returns-in-Ok-clause-kept g c = λ unreadable clean.
    let mid = c.recover.new.self in
    let was = c.find_extent.ensures.keeps.stays.clean clean in
    let found = subst (λ (n : ℕ). Recovers n (image c.args.pager.now) (state mid).committed) c.requires.sized (c.in_default.ensures.found was) in
    let whole = subst (λ (n : ℕ). AreWhole n (state mid).committed) (c.recover.ensures.size ∙ c.requires.sized) (settled mid (open_from (state mid) c.in_default.ensures.ready was) g.met.D.Disk.seen_may_stay).whole in
    absurd (unreadable (state mid).committed found whole)

pub returns-in-Err-find_extent-clause-kept : goal.returns-in-Err-find_extent-clause-kept
returns-in-Err-find_extent-clause-kept g c = λ unreadable clean.
    let mid = c.recover.new.self in
    let was = c.find_extent.ensures.keeps.stays.clean clean in
    let found = subst (λ (n : ℕ). Recovers n (image c.args.pager.now) (state mid).committed) c.requires.sized (c.in_default.ensures.found was) in
    let whole = subst (λ (n : ℕ). AreWhole n (state mid).committed) (c.recover.ensures.size ∙ c.requires.sized) (settled mid (open_from (state mid) c.in_default.ensures.ready was) g.met.D.Disk.seen_may_stay).whole in
    absurd (unreadable (state mid).committed found whole)
