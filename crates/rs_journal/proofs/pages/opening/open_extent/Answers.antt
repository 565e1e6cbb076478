use Rattle.std.proofs.Common.{inl, [], Err, Ok, refl, sym, ap, subst, ◌∙◌}
use Rattle.sqlite_wal.specs.Recovery.{Image, Pages, IsBlank, IsUnreadable}
use Rattle.sqlite_wal.proofs.StateLemmas.{AddsNothing-trans}
use Rattle.sqlite_pager.specs.Pager.{image, state, visible}
use Rattle.rs_journal.specs.Pages.{HasStream, head_form, joined}
use Rattle.rs_journal.specs.Images.{StandsFor}
use Rattle.rs_journal.specs.declared.pages.fault.OpenFault.{OpenFault}
use Rattle.rs_journal.specs.OpenFaults.{Explains, IsRefusal}
use Rattle.rs_journal.proofs.OpenLemmas.{each_fewer, fewer_left, not_recovered, refused_corrupt, same_files}
use Rattle.rs_journal.proofs.CheckLemmas.{kept_trans}
use Rattle.rs_journal.proofs.StreamLemmas.{fresh}
use Rattle.rs_journal.proofs.pages.opening.open_extent.Goals as goal

pub returns-in-Ok-true-clause-found : goal.returns-in-Ok-true-clause-found
returns-in-Ok-true-clause-found g c = λ clean.
    let made = c.in-Ok-true.ensures.blank (ap Ok c.in-Ok-true.field-0-test) clean in
    let idle = c.in-Ok-true.ensures.clean (ap Ok c.in-Ok-true.field-0-test) clean in
    (inl (made.0, refl), subst (λ (p : Pages). HasStream p 1 0 []) (sym (idle.1 ∙ made.1)) fresh)

pub returns-in-Ok-true-clause-ready : goal.returns-in-Ok-true-clause-ready
returns-in-Ok-true-clause-ready g c = c.in-Ok-true.ensures.made (ap Ok c.in-Ok-true.field-0-test)

pub returns-in-Ok-true-clause-clean : goal.returns-in-Ok-true-clause-clean
returns-in-Ok-true-clause-clean g c = c.in-Ok-true.ensures.clean (ap Ok c.in-Ok-true.field-0-test)

pub recover_extent-requires-clause-usable : goal.recover_extent-requires-clause-usable
recover_extent-requires-clause-usable g c = let only = c.in-Ok-false.ensures.there (ap Ok c.in-Ok-false.field-0-test) in (only.0.usable, only.1.usable)

pub recover_extent-requires-clause-sized : goal.recover_extent-requires-clause-sized
recover_extent-requires-clause-sized g c = c.make_pages.ensures.size ∙ c.requires.sized

pub recover_extent-requires-clause-begun : goal.recover_extent-requires-clause-begun
recover_extent-requires-clause-begun g c = λ clean.
    let only = c.in-Ok-false.ensures.there (ap Ok c.in-Ok-false.field-0-test) in
    subst (λ (i : Image). ¬ IsBlank (head_form 1) i) (sym (same_files c.args.pager.now c.make_pages.new.pager only)) (c.in-Ok-false.ensures.begun (ap Ok c.in-Ok-false.field-0-test) clean)

pub returns-in-Ok-clause-found : goal.returns-in-Ok-clause-found
returns-in-Ok-clause-found g c = λ clean.
    let only = c.in-Ok-false.ensures.there (ap Ok c.in-Ok-false.field-0-test) in
    let was = c.in-Ok.ensures.found clean in
    let extent = c.in-Ok.extent in
    (subst (λ (i : Image). StandsFor i (joined (visible c.recover_extent.new.pager) extent.count)) (same_files c.args.pager.now c.make_pages.new.pager only) was.0, was.1)

pub returns-in-Err-recover_extent-clause-refused : goal.returns-in-Err-recover_extent-clause-refused
returns-in-Err-recover_extent-clause-refused g c = λ refusal clean stream.
    let only = c.in-Ok-false.ensures.there (ap Ok c.in-Ok-false.field-0-test) in
    subst (λ (i : Image). ¬ StandsFor i stream) (same_files c.args.pager.now c.make_pages.new.pager only) (c.in-Err-recover_extent.ensures.refused refusal clean stream)

pub returns-in-Err-recover_extent-clause-named : goal.returns-in-Err-recover_extent-clause-named
returns-in-Err-recover_extent-clause-named g c = λ clean.
    let only = c.in-Ok-false.ensures.there (ap Ok c.in-Ok-false.field-0-test) in
    subst (λ (i : Image). Explains c.in-Err-recover_extent.fault i) (same_files c.args.pager.now c.make_pages.new.pager only) (c.in-Err-recover_extent.ensures.named clean)

pub returns-in-Err-clause-named : goal.returns-in-Err-clause-named
returns-in-Err-clause-named g c = λ clean.
    subst (λ (f : OpenFault). Explains f (image c.args.pager.now)) (sym c.fault_from.ensures)
    (not_recovered c.in-Err.error (image c.args.pager.now) (λ corrupt. absurd (c.in-Err.ensures.kind (ap Err corrupt))))

pub returns-in-Ok-clause-untouched : goal.returns-in-Ok-clause-untouched
returns-in-Ok-clause-untouched g c = λ made.
    AddsNothing-trans 1024 (state c.args.pager.now).may_leave (state c.make_pages.new.pager).may_leave (state c.recover_extent.new.pager).may_leave (c.make_pages.ensures.untouched made) c.recover_extent.ensures.untouched

pub returns-in-Err-recover_extent-clause-untouched : goal.returns-in-Err-recover_extent-clause-untouched
returns-in-Err-recover_extent-clause-untouched g c = λ made.
    AddsNothing-trans 1024 (state c.args.pager.now).may_leave (state c.make_pages.new.pager).may_leave (state c.recover_extent.new.pager).may_leave (c.make_pages.ensures.untouched made) c.recover_extent.ensures.untouched

pub returns-in-Ok-clause-crash : goal.returns-in-Ok-clause-crash
returns-in-Ok-clause-crash g c = λ streams each.
    let only = c.in-Ok-false.ensures.there (ap Ok c.in-Ok-false.field-0-test) in
    c.recover_extent.ensures.crash streams (each_fewer _ _ streams (fewer_left c.args.pager.now c.make_pages.new.pager only c.make_pages.ensures.honest) each)

pub returns-in-Err-recover_extent-clause-crash : goal.returns-in-Err-recover_extent-clause-crash
returns-in-Err-recover_extent-clause-crash g c = λ streams each.
    let only = c.in-Ok-false.ensures.there (ap Ok c.in-Ok-false.field-0-test) in
    c.recover_extent.ensures.crash streams (each_fewer _ _ streams (fewer_left c.args.pager.now c.make_pages.new.pager only c.make_pages.ensures.honest) each)

pub returns-in-Err-clause-refused : goal.returns-in-Err-clause-refused
returns-in-Err-clause-refused g c = λ refusal clean stream.
    absurd (c.in-Err.ensures.kind (ap Err (refused_corrupt c.in-Err.error (subst IsRefusal c.fault_from.ensures refusal))))

pub returns-in-Ok-true-clause-kept : goal.returns-in-Ok-true-clause-kept
returns-in-Ok-true-clause-kept g c = λ made unreadable clean. absurd (made (c.in-Ok-true.ensures.blank (ap Ok c.in-Ok-true.field-0-test) clean).0)

pub returns-in-Ok-clause-kept : goal.returns-in-Ok-clause-kept
returns-in-Ok-clause-kept g c = λ made unreadable clean.
    let old = c.args.pager.now in
    let mid = c.make_pages.new.pager in
    let last = c.recover_extent.new.pager in
    let only = c.in-Ok-false.ensures.there (ap Ok c.in-Ok-false.field-0-test) in
    let here = subst (λ (i : Image). IsUnreadable 1024 i) (sym (same_files old mid only)) unreadable in
    kept_trans (image old) (image mid) (image last) (state old).may_leave (state mid).may_leave (state last).may_leave
    (c.make_pages.ensures.kept made (c.recover_extent.ensures.honest clean)) (c.recover_extent.ensures.kept here clean)

pub returns-in-Err-recover_extent-clause-kept : goal.returns-in-Err-recover_extent-clause-kept
returns-in-Err-recover_extent-clause-kept g c = λ made unreadable clean.
    let old = c.args.pager.now in
    let mid = c.make_pages.new.pager in
    let last = c.recover_extent.new.pager in
    let only = c.in-Ok-false.ensures.there (ap Ok c.in-Ok-false.field-0-test) in
    let here = subst (λ (i : Image). IsUnreadable 1024 i) (sym (same_files old mid only)) unreadable in
    kept_trans (image old) (image mid) (image last) (state old).may_leave (state mid).may_leave (state last).may_leave
    (c.make_pages.ensures.kept made (c.recover_extent.ensures.honest clean)) (c.recover_extent.ensures.kept here clean)

pub returns-in-Err-clause-kept : goal.returns-in-Err-clause-kept
returns-in-Err-clause-kept g c = λ made unreadable clean. c.make_pages.ensures.kept made clean

pub returns-in-Ok-clause-honest : goal.returns-in-Ok-clause-honest
returns-in-Ok-clause-honest g c = λ clean. c.make_pages.ensures.honest (c.recover_extent.ensures.honest clean)

pub returns-in-Err-recover_extent-clause-honest : goal.returns-in-Err-recover_extent-clause-honest
returns-in-Err-recover_extent-clause-honest g c = λ clean. c.make_pages.ensures.honest (c.recover_extent.ensures.honest clean)
