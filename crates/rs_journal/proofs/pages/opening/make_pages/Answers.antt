use Rattle.std.proofs.Common.{ℕ, List, length, slice_index, Err, sym, ap, subst, ◌∙◌}
use Rattle.sqlite_wal.specs.declared.error.Error.{Error}
use Rattle.sqlite_wal.specs.Files.{RefusesToCreate}
use Rattle.sqlite_wal.specs.Outcome.{HasCause}
use Rattle.sqlite_wal.specs.Recovery.{IsBlank, only_page}
use Rattle.sqlite_wal.proofs.StateLemmas.{AddsNothing-fewer}
use Rattle.sqlite_pager.specs.Pager.{image, state}
use Rattle.rs_journal.proofs.FormLemmas.{head_long}
use Rattle.rs_journal.proofs.OpenLemmas.{each_created, head_gate, why_not_made}
use Rattle.rs_journal.proofs.pages.opening.make_pages.Goals as goal

pub create-requires-clause-len : goal.create-requires-clause-len
create-requires-clause-len g c = ap length c.requires.head ∙ head_long 1 ∙ sym c.requires.sized

pub create-requires-clause-gate : goal.create-requires-clause-gate
create-requires-clause-gate g c = λ none. head_gate (ap (λ (l : List ℕ). slice_index l 0) (sym c.requires.head) ∙ none)

pub returns-in-Ok-clause-blank : goal.returns-in-Ok-clause-blank
returns-in-Ok-clause-blank g c = λ _ clean. (
  subst (λ (l : List ℕ). IsBlank l (image c.args.pager.now)) c.requires.head (c.in-Ok.ensures.blank clean),
  c.in-Ok.ensures.made clean ∙ ap only_page c.requires.head,
)

pub returns-in-Ok-clause-crash : goal.returns-in-Ok-clause-crash
returns-in-Ok-clause-crash g c = λ streams.
    each_created c.args.pager.now c.create.new.self c.args.first.now streams g.met.D.Disk.seen_may_stay c.requires.sized c.requires.head c.create.ensures.honest c.create.ensures.crash c.create.ensures.untouched

pub returns-in-Err-Exists-clause-there : goal.returns-in-Err-Exists-clause-there
returns-in-Err-Exists-clause-there g c = λ _. c.in-Err-Exists.ensures.refused (ap Err c.in-Err-Exists.field-0-is)

pub returns-in-Err-Exists-clause-begun : goal.returns-in-Err-Exists-clause-begun
returns-in-Err-Exists-clause-begun g c = λ _ clean.
    let old = c.args.pager.now in
    let cause = subst (λ (e : Error). HasCause (state old).faults (state c.create.new.self).faults (RefusesToCreate (state old).page_size c.args.first.now (image old)) e) c.in-Err-Exists.field-0-is
    (c.in-Err-Exists.ensures.cause.0 clean) in
    subst (λ (l : List ℕ). ¬ IsBlank l (image old)) c.requires.head (why_not_made (state old).faults (state c.create.new.self).faults (state old).page_size c.args.first.now (image old) cause)

pub returns-in-Err-Exists-clause-crash : goal.returns-in-Err-Exists-clause-crash
returns-in-Err-Exists-clause-crash g c = λ streams.
    each_created c.args.pager.now c.create.new.self c.args.first.now streams g.met.D.Disk.seen_may_stay c.requires.sized c.requires.head c.create.ensures.honest c.create.ensures.crash c.create.ensures.untouched

pub returns-in-Err-clause-crash : goal.returns-in-Err-clause-crash
returns-in-Err-clause-crash g c = λ streams.
    each_created c.args.pager.now c.create.new.self c.args.first.now streams g.met.D.Disk.seen_may_stay c.requires.sized c.requires.head c.create.ensures.honest c.create.ensures.crash c.create.ensures.untouched

pub returns-in-Ok-clause-untouched : goal.returns-in-Ok-clause-untouched
returns-in-Ok-clause-untouched g c = λ made.
    AddsNothing-fewer 1024 (state c.args.pager.now).may_leave (state c.create.new.self).may_leave
    (c.create.ensures.untouched (λ blank. made (subst (λ (l : List ℕ). IsBlank l (image c.args.pager.now)) c.requires.head blank)))

pub returns-in-Err-Exists-clause-untouched : goal.returns-in-Err-Exists-clause-untouched
returns-in-Err-Exists-clause-untouched g c = λ made.
    AddsNothing-fewer 1024 (state c.args.pager.now).may_leave (state c.create.new.self).may_leave
    (c.create.ensures.untouched (λ blank. made (subst (λ (l : List ℕ). IsBlank l (image c.args.pager.now)) c.requires.head blank)))

pub returns-in-Err-clause-untouched : goal.returns-in-Err-clause-untouched
returns-in-Err-clause-untouched g c = λ made.
    AddsNothing-fewer 1024 (state c.args.pager.now).may_leave (state c.create.new.self).may_leave
    (c.create.ensures.untouched (λ blank. made (subst (λ (l : List ℕ). IsBlank l (image c.args.pager.now)) c.requires.head blank)))

pub returns-in-Ok-clause-kept : goal.returns-in-Ok-clause-kept
returns-in-Ok-clause-kept g c = λ made clean. absurd (made (subst (λ (l : List ℕ). IsBlank l (image c.args.pager.now)) c.requires.head (c.in-Ok.ensures.blank clean)))

pub returns-in-Err-Exists-clause-kept : goal.returns-in-Err-Exists-clause-kept
returns-in-Err-Exists-clause-kept g c = λ made clean.
    let begun : ¬ IsBlank c.args.first.now (image c.args.pager.now) = λ blank. made (subst (λ (l : List ℕ). IsBlank l (image c.args.pager.now)) c.requires.head blank) in
    record { same = c.create.ensures.there clean begun; leaves = c.create.ensures.untouched begun }

pub returns-in-Err-clause-kept : goal.returns-in-Err-clause-kept
returns-in-Err-clause-kept g c = λ made clean.
    let begun : ¬ IsBlank c.args.first.now (image c.args.pager.now) = λ blank. made (subst (λ (l : List ℕ). IsBlank l (image c.args.pager.now)) c.requires.head blank) in
    record { same = c.create.ensures.there clean begun; leaves = c.create.ensures.untouched begun }
