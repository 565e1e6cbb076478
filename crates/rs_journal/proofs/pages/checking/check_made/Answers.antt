use Rattle.std.proofs.Common.{◌≡◌, ◌⊎◌, ℕ, ◌<◌, List, length, sym, ap, subst, arith}
use Rattle.sqlite_wal.specs.declared.error.Error.{Error}
use Rattle.sqlite_wal.specs.declared.error.Error.TheVariants.{Full, Corrupt}
use Rattle.sqlite_wal.specs.Files.{seen_image}
use Rattle.sqlite_wal.specs.Outcome.{HasCause, OnlyIf}
use Rattle.sqlite_wal.specs.Recovery.{Image, IsBlank}
use Rattle.rs_journal.specs.Pages.{head_form}
use Rattle.rs_journal.specs.declared.pages.fault.OpenFault.{OpenFault}
use Rattle.rs_journal.specs.OpenFaults.{Explains, HasOtherHead, IsHindrance, IsOtherFile, IsRefusal}
use Rattle.rs_journal.proofs.CheckLemmas.{clean_before, kept_by_reads, other_explained, other_stands_for_none, some_made}
use Rattle.rs_journal.proofs.FormLemmas.{head_long}
use Rattle.rs_journal.proofs.OpenLemmas.{not_recovered, refused_corrupt}
use Rattle.rs_journal.proofs.pages.checking.check_made.Goals as goal

full_is : Corrupt ≡ Full → ⊥
full_is same = cc

only_full : (old new : ℕ) (P : Type 0) (e : Error) → HasCause old new (OnlyIf Full P) e → e ≡ Corrupt → ⊥
only_full old new P e cause same = let at = subst (λ (error : Error). HasCause old new (OnlyIf Full P) error) same cause in full_is at.0

pub returns-in-Ok-true-clause-right : goal.returns-in-Ok-true-clause-right
returns-in-Ok-true-clause-right g c = λ clean strange.
    let old = c.args.files.now in
    strange.begun (subst (λ (l : List ℕ). IsBlank l (seen_image g.D.Disk old.log old.db)) c.requires.head ((c.in-Ok-true.ensures.ok clean).0 c.in-Ok-true.field-0-test))

pub returns-in-Ok-clause-right : goal.returns-in-Ok-clause-right
returns-in-Ok-clause-right g c = λ clean.
    let old = c.args.files.now in
    let mid = c.probe_blank.new.files in
    let kept = kept_by_reads old.log old.db mid.log mid.db c.probe_blank.ensures.log c.probe_blank.ensures.db in
    subst (λ (i : Image). ¬ HasOtherHead i) kept.same (c.in-Ok.ensures.right clean)

pub returns-in-Err-check_head-clause-refused : goal.returns-in-Err-check_head-clause-refused
returns-in-Err-check_head-clause-refused g c = λ refusal clean stream.
    let old = c.args.files.now in
    let mid = c.probe_blank.new.files in
    let last = c.check_head.new.files in
    let seen = seen_image g.D.Disk old.log old.db in
    let e = c.in-Err-check_head.fault in
    let kept = kept_by_reads old.log old.db mid.log mid.db c.probe_blank.ensures.log c.probe_blank.ensures.db in
    let looked = clean_before mid.log mid.db last.log last.db c.check_head.ensures.log c.check_head.ensures.db clean in
    let begun : ¬ IsBlank (head_form 1) seen = λ blank. absurd (cc (c.in-Ok-false.field-0-test, (c.in-Ok-false.ensures.ok looked).1 (subst (λ (l : List ℕ). IsBlank l seen) (sym c.requires.head) blank))) in
    let present = subst (λ (l : List ℕ). 0 < length l) (sym c.probe_blank.ensures.db.seen) (some_made seen begun) in
    other_stands_for_none e seen stream begun refusal (subst (λ (i : Image). IsHindrance e ⊎ IsOtherFile e i) kept.same (c.in-Err-check_head.ensures.wrong clean present))

pub returns-in-Err-check_head-clause-named : goal.returns-in-Err-check_head-clause-named
returns-in-Err-check_head-clause-named g c = λ clean.
    let old = c.args.files.now in
    let mid = c.probe_blank.new.files in
    let last = c.check_head.new.files in
    let seen = seen_image g.D.Disk old.log old.db in
    let e = c.in-Err-check_head.fault in
    let kept = kept_by_reads old.log old.db mid.log mid.db c.probe_blank.ensures.log c.probe_blank.ensures.db in
    let looked = clean_before mid.log mid.db last.log last.db c.check_head.ensures.log c.check_head.ensures.db clean in
    let begun : ¬ IsBlank (head_form 1) seen = λ blank. absurd (cc (c.in-Ok-false.field-0-test, (c.in-Ok-false.ensures.ok looked).1 (subst (λ (l : List ℕ). IsBlank l seen) (sym c.requires.head) blank))) in
    let present = subst (λ (l : List ℕ). 0 < length l) (sym c.probe_blank.ensures.db.seen) (some_made seen begun) in
    other_explained e seen (subst (λ (i : Image). IsHindrance e ⊎ IsOtherFile e i) kept.same (c.in-Err-check_head.ensures.wrong clean present))

pub returns-in-Err-clause-refused : goal.returns-in-Err-clause-refused
returns-in-Err-clause-refused g c = λ refusal clean stream.
    absurd (only_full _ _ _ c.in-Err.error (c.in-Err.ensures.cause clean) (refused_corrupt c.in-Err.error (subst IsRefusal c.fault_from.ensures refusal)))

pub returns-in-Err-clause-named : goal.returns-in-Err-clause-named
returns-in-Err-clause-named g c = λ clean.
    let old = c.args.files.now in
    let seen = seen_image g.D.Disk old.log old.db in
    subst (λ (f : OpenFault). Explains f seen) (sym c.fault_from.ensures) (not_recovered c.in-Err.error seen (λ corrupt. absurd (only_full _ _ _ c.in-Err.error (c.in-Err.ensures.cause clean) corrupt)))

pub probe_blank-requires-clause-smallest : goal.probe_blank-requires-clause-smallest
probe_blank-requires-clause-smallest g c = omega (arith, ap (λ (l : List ℕ). length l) c.requires.head, head_long 1)

pub probe_blank-requires-clause-largest : goal.probe_blank-requires-clause-largest
probe_blank-requires-clause-largest g c = omega (arith, ap (λ (l : List ℕ). length l) c.requires.head, head_long 1)
