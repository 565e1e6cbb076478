use Rattle.std.proofs.Common.{◌≡◌, ◌⊎◌, ◌<◌, List, ℕ, length, sym, subst}
use Rattle.sqlite_wal.specs.Files.{seen_image}
use Rattle.sqlite_wal.proofs.CleanLemmas.{both_clean, halves}
use Rattle.rs_journal.specs.declared.pages.fault.OpenFault.TheVariants.{ForeignLog}
use Rattle.rs_journal.specs.OpenFaults.{IsForeignLog, IsHindrance}
use Rattle.rs_journal.proofs.OpenedLemmas.{foreign_explained, foreign_refuses_none}
use Rattle.rs_journal.proofs.pages.checking.check_some.Goals as goal

pub returns-in-Ok-clause-head : goal.returns-in-Ok-clause-head
returns-in-Ok-clause-head g c = λ clean. c.in_default.ensures.right (both_clean _ _ _ _ c.check_log.ensures.same.clean (λ x. x) clean)

pub returns-in-Ok-clause-named_log : goal.returns-in-Ok-clause-named_log
returns-in-Ok-clause-named_log g c = λ looks clean. subst (λ (l : List ℕ). ¬ IsForeignLog l) c.check_made.ensures.log.seen (c.in-Ok.ensures.right (halves g.D.Disk _ _ clean).0)

pub returns-in-Err-check_log-clause-refused : goal.returns-in-Err-check_log-clause-refused
returns-in-Err-check_log-clause-refused g c = λ refusal clean stream.
    let mid = c.check_made.new.files in
    let e = c.in-Err-check_log.fault in
    let here = (halves g.D.Disk _ _ clean).0 in
    let was = c.check_made.ensures.log.clean (c.check_log.ensures.same.clean here) in
    let long = subst (λ (l : List ℕ). 41 < length l) (sym c.check_made.ensures.log.seen) (c.requires.long c.if-not-looks.false was) in
    absurd (foreign_refuses_none e (IsForeignLog (g.D.Disk.seen mid.log)) (c.in-Err-check_log.ensures.wrong here long) refusal)

pub returns-in-Err-check_log-clause-named : goal.returns-in-Err-check_log-clause-named
returns-in-Err-check_log-clause-named g c = λ clean.
    let old = c.args.files.now in
    let e = c.in-Err-check_log.fault in
    let here = (halves g.D.Disk _ _ clean).0 in
    let was = c.check_made.ensures.log.clean (c.check_log.ensures.same.clean here) in
    let long = subst (λ (l : List ℕ). 41 < length l) (sym c.check_made.ensures.log.seen) (c.requires.long c.if-not-looks.false was) in
    foreign_explained e (seen_image g.D.Disk old.log old.db)
    (subst (λ (l : List ℕ). IsHindrance e ⊎ ((e ≡ ForeignLog) × IsForeignLog l)) c.check_made.ensures.log.seen (c.in-Err-check_log.ensures.wrong here long))
