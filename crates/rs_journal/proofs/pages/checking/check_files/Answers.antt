use Rattle.std.proofs.Common.{inl, List, ℕ, length, sym, ap, subst, ◌∙◌}
use Rattle.sqlite_wal.specs.Files.{seen_image}
use Rattle.sqlite_wal.specs.Recovery.{Image}
use Rattle.rs_journal.specs.Images.{StandsFor}
use Rattle.rs_journal.specs.OpenFaults.{Explains, HasOtherHead, IsForeignLog, IsLoneLog}
use Rattle.rs_journal.proofs.CheckLemmas.{kept_by_reads, other_explained}
use Rattle.rs_journal.proofs.OpenedLemmas.{no_both}
use Rattle.rs_journal.proofs.pages.checking.check_files.Goals as goal

pub check_long-requires-clause-of_log : goal.check_long-requires-clause-of_log
check_long-requires-clause-of_log g c = λ clean. c.in-Ok.ensures.of_log clean ∙ ap (λ (l : List ℕ). length l) (sym c.lengths.ensures.log.seen)

pub check_long-requires-clause-of_db : goal.check_long-requires-clause-of_db
check_long-requires-clause-of_db g c = λ clean. c.in-Ok.ensures.of_db clean ∙ ap (λ (l : List ℕ). length l) (sym c.lengths.ensures.db.seen)

pub returns-in-Err-clause-refused : goal.returns-in-Err-clause-refused
returns-in-Err-clause-refused g c = λ refusal clean stream. absurd (no_both c.in-Err.fault refusal c.in-Err.ensures.kind)

pub returns-in-Err-clause-named : goal.returns-in-Err-clause-named
returns-in-Err-clause-named g c = λ clean. let old = c.args.files.now in other_explained c.in-Err.fault (seen_image g.D.Disk old.log old.db) (inl c.in-Err.ensures.kind)

pub returns-in-Ok-check_long-clause-lone : goal.returns-in-Ok-check_long-clause-lone
returns-in-Ok-check_long-clause-lone g c = λ clean.
    let old = c.args.files.now in
    let mid = c.lengths.new.files in
    let kept = kept_by_reads old.log old.db mid.log mid.db c.lengths.ensures.log c.lengths.ensures.db in
    subst (λ (i : Image). ¬ IsLoneLog i) kept.same (c.in-Ok-check_long.ensures.lone clean)

pub returns-in-Ok-check_long-clause-head : goal.returns-in-Ok-check_long-clause-head
returns-in-Ok-check_long-clause-head g c = λ clean.
    let old = c.args.files.now in
    let mid = c.lengths.new.files in
    let kept = kept_by_reads old.log old.db mid.log mid.db c.lengths.ensures.log c.lengths.ensures.db in
    subst (λ (i : Image). ¬ HasOtherHead i) kept.same (c.in-Ok-check_long.ensures.head clean)

pub returns-in-Ok-check_long-clause-named_log : goal.returns-in-Ok-check_long-clause-named_log
returns-in-Ok-check_long-clause-named_log g c = λ clean mixing.
    subst (λ (l : List ℕ). ¬ IsForeignLog l) c.lengths.ensures.log.seen (c.in-Ok-check_long.ensures.named_log (c.keeps_names-names_stay.ensures ∙ mixing) clean)

pub returns-in-Err-check_long-clause-refused : goal.returns-in-Err-check_long-clause-refused
returns-in-Err-check_long-clause-refused g c = λ refusal clean stream.
    let old = c.args.files.now in
    let mid = c.lengths.new.files in
    let kept = kept_by_reads old.log old.db mid.log mid.db c.lengths.ensures.log c.lengths.ensures.db in
    subst (λ (i : Image). ¬ StandsFor i stream) kept.same (c.in-Err-check_long.ensures.refused refusal clean stream)

pub returns-in-Err-check_long-clause-named : goal.returns-in-Err-check_long-clause-named
returns-in-Err-check_long-clause-named g c = λ clean.
    let old = c.args.files.now in
    let mid = c.lengths.new.files in
    let kept = kept_by_reads old.log old.db mid.log mid.db c.lengths.ensures.log c.lengths.ensures.db in
    subst (λ (i : Image). Explains c.in-Err-check_long.fault i) kept.same (c.in-Err-check_long.ensures.named clean)
