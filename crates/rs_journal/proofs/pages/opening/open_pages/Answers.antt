use Rattle.std.proofs.Common.{sym, subst}
use Rattle.sqlite_wal.specs.Files.{seen_image}
use Rattle.sqlite_wal.specs.Recovery.{Image, IsUnreadable}
use Rattle.sqlite_wal.proofs.StateLemmas.{AddsNothing-fewer, AddsNothing-trans}
use Rattle.sqlite_pager.specs.Pager.{state, visible}
use Rattle.rs_journal.specs.Pages.{joined}
use Rattle.rs_journal.specs.Images.{AreKept, IsUnmade, StandsFor, outcomes_of}
use Rattle.rs_journal.specs.OpenFaults.{Explains}
use Rattle.rs_journal.proofs.CheckLemmas.{clean_out, clean_over, kept_by_reads, kept_out, kept_same, kept_trans}
use Rattle.rs_journal.proofs.OpenLemmas.{each_fewer, not_unreadable}
use Rattle.rs_journal.proofs.OpenedLemmas.{kept_before, kept_behind, spared_only, usable_over}
use Rattle.rs_journal.proofs.pages.opening.open_pages.Goals as goal

pub open_extent-requires-clause-usable : goal.open_extent-requires-clause-usable
open_extent-requires-clause-usable g c =
    let mid = c.check_files.new.files in usable_over c.in-Ok.pager mid.log mid.db c.in-Ok.ensures.over c.check_files.ensures.log.usable c.check_files.ensures.db.usable

-- refused before anything was written
pub returns-in-Err-clause-spares : goal.returns-in-Err-clause-spares
returns-in-Err-clause-spares g c = λ clean spared.
    let old = c.args.files in let mid = c.check_files.new.files in kept_by_reads old.log old.db mid.log mid.db c.check_files.ensures.log c.check_files.ensures.db

pub returns-in-Err-clause-left_alone : goal.returns-in-Err-clause-left_alone
returns-in-Err-clause-left_alone g c = λ made.
    let old = c.args.files in
    let mid = c.check_files.new.files in
    AddsNothing-fewer 1024 (outcomes_of g.D.Disk old.log old.db) (outcomes_of g.D.Disk mid.log mid.db) (kept_by_reads old.log old.db mid.log mid.db c.check_files.ensures.log c.check_files.ensures.db).leaves

pub returns-in-Err-clause-leaves : goal.returns-in-Err-clause-leaves
returns-in-Err-clause-leaves g c = λ streams.
    let old = c.args.files in
    let mid = c.check_files.new.files in
    each_fewer (outcomes_of g.D.Disk old.log old.db) (outcomes_of g.D.Disk mid.log mid.db) streams (kept_by_reads old.log old.db mid.log mid.db c.check_files.ensures.log c.check_files.ensures.db).leaves

-- without memory for a pager
pub returns-in-Err-new_pager-clause-spares : goal.returns-in-Err-new_pager-clause-spares
returns-in-Err-new_pager-clause-spares g c = λ clean spared.
    let old = c.args.files in
    let mid = c.check_files.new.files in
    let last = c.in-Err-new_pager.refused.files in
    let back = c.in-Err-new_pager.ensures.back in
    kept_trans (seen_image g.D.Disk old.log old.db) (seen_image g.D.Disk mid.log mid.db) (seen_image g.D.Disk last.log last.db) (outcomes_of g.D.Disk old.log old.db) (outcomes_of g.D.Disk mid.log mid.db)
    (outcomes_of g.D.Disk last.log last.db)
    (kept_by_reads old.log old.db mid.log mid.db c.check_files.ensures.log c.check_files.ensures.db) (kept_same g.D.Disk mid.log mid.db last.log last.db back.0 back.1)

pub returns-in-Err-new_pager-clause-left_alone : goal.returns-in-Err-new_pager-clause-left_alone
returns-in-Err-new_pager-clause-left_alone g c = λ made.
    let old = c.args.files in
    let mid = c.check_files.new.files in
    let last = c.in-Err-new_pager.refused.files in
    let back = c.in-Err-new_pager.ensures.back in
    AddsNothing-fewer 1024 (outcomes_of g.D.Disk old.log old.db) (outcomes_of g.D.Disk last.log last.db)
    (kept_trans (seen_image g.D.Disk old.log old.db) (seen_image g.D.Disk mid.log mid.db) (seen_image g.D.Disk last.log last.db) (outcomes_of g.D.Disk old.log old.db) (outcomes_of g.D.Disk mid.log mid.db)
    (outcomes_of g.D.Disk last.log last.db)
    (kept_by_reads old.log old.db mid.log mid.db c.check_files.ensures.log c.check_files.ensures.db) (kept_same g.D.Disk mid.log mid.db last.log last.db back.0 back.1)).leaves

pub returns-in-Err-new_pager-clause-leaves : goal.returns-in-Err-new_pager-clause-leaves
returns-in-Err-new_pager-clause-leaves g c = λ streams.
    let old = c.args.files in
    let mid = c.check_files.new.files in
    let last = c.in-Err-new_pager.refused.files in
    let back = c.in-Err-new_pager.ensures.back in
    each_fewer (outcomes_of g.D.Disk old.log old.db) (outcomes_of g.D.Disk last.log last.db) streams
    (kept_trans (seen_image g.D.Disk old.log old.db) (seen_image g.D.Disk mid.log mid.db) (seen_image g.D.Disk last.log last.db) (outcomes_of g.D.Disk old.log old.db) (outcomes_of g.D.Disk mid.log mid.db)
    (outcomes_of g.D.Disk last.log last.db)
    (kept_by_reads old.log old.db mid.log mid.db c.check_files.ensures.log c.check_files.ensures.db) (kept_same g.D.Disk mid.log mid.db last.log last.db back.0 back.1)).leaves

-- opened
pub returns-in-Ok-open_extent-clause-found : goal.returns-in-Ok-open_extent-clause-found
returns-in-Ok-open_extent-clause-found g c = λ clean.
    let old = c.args.files in
    let mid = c.check_files.new.files in
    let before = kept_before old.log old.db mid.log mid.db c.in-Ok.pager c.check_files.ensures.log c.check_files.ensures.db c.in-Ok.ensures.over in
    let found = c.in-Ok-open_extent.ensures.found clean in
    (subst (λ (i : Image). StandsFor i (joined (visible c.open_extent.new.pager) c.in-Ok-open_extent.extent.count)) before.same found.0, found.1)

pub returns-in-Ok-open_extent-clause-opens_none : goal.returns-in-Ok-open_extent-clause-opens_none
returns-in-Ok-open_extent-clause-opens_none g c = λ clean spared.
    let old = c.args.files in
    let mid = c.check_files.new.files in
    let seen = seen_image g.D.Disk old.log old.db in
    let before = kept_before old.log old.db mid.log mid.db c.in-Ok.pager c.check_files.ensures.log c.check_files.ensures.db c.in-Ok.ensures.over in
    let looked = clean_over c.in-Ok.pager mid.log mid.db c.in-Ok.ensures.over (c.open_extent.ensures.honest clean) in
    let found = c.in-Ok-open_extent.ensures.found clean in
    let stream = joined (visible c.open_extent.new.pager) c.in-Ok-open_extent.extent.count in
    let stands = subst (λ (i : Image). StandsFor i stream) before.same found.0 in
    spared_only (g.D.JournalDisk.names_stay old.log) seen ⊥ (c.in_default.ensures.lone looked) (c.in_default.ensures.head looked) (λ made unreadable. not_unreadable seen stream made unreadable stands) (c.in_default.ensures.named_log looked) spared

pub returns-in-Ok-open_extent-clause-untouched : goal.returns-in-Ok-open_extent-clause-untouched
returns-in-Ok-open_extent-clause-untouched g c = λ made.
    let old = c.args.files in
    let mid = c.check_files.new.files in
    let start = c.in-Ok.pager in
    let before = kept_before old.log old.db mid.log mid.db start c.check_files.ensures.log c.check_files.ensures.db c.in-Ok.ensures.over in
    AddsNothing-trans 1024 (outcomes_of g.D.Disk old.log old.db) (state start).may_leave (state c.open_extent.new.pager).may_leave
    (AddsNothing-fewer 1024 (outcomes_of g.D.Disk old.log old.db) (state start).may_leave before.leaves) (c.open_extent.ensures.untouched (λ unmade. made (subst (λ (i : Image). IsUnmade i) before.same unmade)))

pub returns-in-Ok-open_extent-clause-crash : goal.returns-in-Ok-open_extent-clause-crash
returns-in-Ok-open_extent-clause-crash g c = λ streams each.
    let old = c.args.files in
    let mid = c.check_files.new.files in
    let start = c.in-Ok.pager in
    let before = kept_before old.log old.db mid.log mid.db start c.check_files.ensures.log c.check_files.ensures.db c.in-Ok.ensures.over in
    c.open_extent.ensures.crash streams (each_fewer (outcomes_of g.D.Disk old.log old.db) (state start).may_leave streams before.leaves each)

-- not opened
pub returns-in-Err-open_extent-clause-refused : goal.returns-in-Err-open_extent-clause-refused
returns-in-Err-open_extent-clause-refused g c = λ refusal clean stream.
    let old = c.args.files in
    let mid = c.check_files.new.files in
    let back = c.close.result in
    let before = kept_before old.log old.db mid.log mid.db c.in-Ok.pager c.check_files.ensures.log c.check_files.ensures.db c.in-Ok.ensures.over in
    subst (λ (i : Image). ¬ StandsFor i stream) before.same (c.in-Err-open_extent.ensures.refused refusal (clean_out c.open_extent.new.pager back.log back.db (sym c.close.ensures) clean) stream)

pub returns-in-Err-open_extent-clause-named : goal.returns-in-Err-open_extent-clause-named
returns-in-Err-open_extent-clause-named g c = λ clean.
    let old = c.args.files in
    let mid = c.check_files.new.files in
    let back = c.close.result in
    let before = kept_before old.log old.db mid.log mid.db c.in-Ok.pager c.check_files.ensures.log c.check_files.ensures.db c.in-Ok.ensures.over in
    subst (λ (i : Image). Explains c.in-Err-open_extent.fault i) before.same (c.in-Err-open_extent.ensures.named (clean_out c.open_extent.new.pager back.log back.db (sym c.close.ensures) clean))

pub returns-in-Err-open_extent-clause-spares : goal.returns-in-Err-open_extent-clause-spares
returns-in-Err-open_extent-clause-spares g c = λ clean spared.
    let old = c.args.files in
    let mid = c.check_files.new.files in
    let back = c.close.result in
    let start = c.in-Ok.pager in
    let last = c.open_extent.new.pager in
    let seen = seen_image g.D.Disk old.log old.db in
    let before = kept_before old.log old.db mid.log mid.db start c.check_files.ensures.log c.check_files.ensures.db c.in-Ok.ensures.over in
    let clean_last = clean_out last back.log back.db (sym c.close.ensures) clean in
    let looked = clean_over start mid.log mid.db c.in-Ok.ensures.over (c.open_extent.ensures.honest clean_last) in
    spared_only (g.D.JournalDisk.names_stay old.log) seen (AreKept seen (outcomes_of g.D.Disk old.log old.db) (seen_image g.D.Disk back.log back.db) (outcomes_of g.D.Disk back.log back.db))
    (c.in_default.ensures.lone looked) (c.in_default.ensures.head looked)
    (λ made unreadable.
    kept_behind old.log old.db start last back.log back.db before
    (c.open_extent.ensures.kept (λ unmade. made (subst (λ (i : Image). IsUnmade i) before.same unmade)) (subst (λ (i : Image). IsUnreadable 1024 i) (sym before.same) unreadable) clean_last)
    (sym c.close.ensures))
    (c.in_default.ensures.named_log looked) spared

pub returns-in-Err-open_extent-clause-left_alone : goal.returns-in-Err-open_extent-clause-left_alone
returns-in-Err-open_extent-clause-left_alone g c = λ made.
    let old = c.args.files in
    let mid = c.check_files.new.files in
    let back = c.close.result in
    let start = c.in-Ok.pager in
    let last = c.open_extent.new.pager in
    let before = kept_before old.log old.db mid.log mid.db start c.check_files.ensures.log c.check_files.ensures.db c.in-Ok.ensures.over in
    AddsNothing-trans 1024 (outcomes_of g.D.Disk old.log old.db) (state last).may_leave (outcomes_of g.D.Disk back.log back.db)
    (AddsNothing-trans 1024 (outcomes_of g.D.Disk old.log old.db) (state start).may_leave (state last).may_leave
    (AddsNothing-fewer 1024 (outcomes_of g.D.Disk old.log old.db) (state start).may_leave before.leaves) (c.open_extent.ensures.untouched (λ unmade. made (subst (λ (i : Image). IsUnmade i) before.same unmade))))
    (AddsNothing-fewer 1024 (state last).may_leave (outcomes_of g.D.Disk back.log back.db) (kept_out last back.log back.db (sym c.close.ensures)).leaves)

pub returns-in-Err-open_extent-clause-leaves : goal.returns-in-Err-open_extent-clause-leaves
returns-in-Err-open_extent-clause-leaves g c = λ streams each.
    let old = c.args.files in
    let mid = c.check_files.new.files in
    let back = c.close.result in
    let start = c.in-Ok.pager in
    let last = c.open_extent.new.pager in
    let before = kept_before old.log old.db mid.log mid.db start c.check_files.ensures.log c.check_files.ensures.db c.in-Ok.ensures.over in
    each_fewer (state last).may_leave (outcomes_of g.D.Disk back.log back.db) streams (kept_out last back.log back.db (sym c.close.ensures)).leaves
    (c.open_extent.ensures.crash streams (each_fewer (outcomes_of g.D.Disk old.log old.db) (state start).may_leave streams before.leaves each))
