use Rattle.std.proofs.Common.{take, drop, true, length, ◌≡◌, ◌+◌, ◌-◌, ◌++◌, ℕ, [], List, refl, sym, ap, subst, ◌∙◌, arith, append_assoc}
use Rattle.std.specs.Prelude.{vec_len, ◌==◌}
use Rattle.std.proofs.lemmas.Bool.{eqb-true}
use Rattle.std.proofs.lemmas.Result.{err_from_is_err_and}
use Rattle.std.proofs.lemmas.List.{append-nil, nil_from_length}
use Rattle.std.proofs.lemmas.List.Elements.{All-append, All-nil}
use Rattle.sqlite_wal.proofs.StateLemmas.{AddsNothing-fewer, AddsNothing-trans, open_from}
use Rattle.sqlite_pager.specs.Pager.{state, visible}
use Rattle.rs_journal.specs.Streams as stream
use Rattle.rs_journal.specs.Streams.{front, part_at}
use Rattle.rs_journal.proofs.StandsLemmas.{all_parts}
use Rattle.rs_journal.proofs.StreamLemmas.{joined_behind, joined_more}
use Rattle.rs_journal_record.specs.Records.{IsOperation}
use Rattle.rs_journal.specs.declared.fault.ReadFault.TheVariants.{Damaged}
use Rattle.rs_journal.specs.Frames.{frames, BeginNone}
use Rattle.rs_journal.specs.Journals.{may_leave}
use Rattle.rs_journal.proofs.FrameLemmas.{all_read, frames_none, nothing_begins, page_read, some_left, wrong_behind, wrong_end, wrong_error, wrong_page}
use Rattle.rs_journal.proofs.journal.Journal.read_stream.Goals as goal

none_left : (items : List ℕ) (n : ℕ) → (n == 0) ≡ true → length items ≡ n → items ≡ []
none_left items n none long = nil_from_length items (long ∙ eqb-true n 0 none)

pub loop-index-init : goal.loop-index-init
loop-index-init g c = record {
  rests = λ standing rests. rests;
  ready = λ h. h;
  clean = λ h. h;
  rest = subst (λ (l : List ℕ). BeginNone l) (sym c.new-bytes.ensures.items) nothing_begins;
  crash = AddsNothing-fewer 1024 (may_leave c.args.self.now) (may_leave c.args.self.now) (λ left may. may);
  parts = λ n. refl;
  read = ([], λ before taken. subst (g.S.OperationSink.has_taken c.args.sink.now) (sym (append-nil before)) taken, All-nil IsOperation, λ _. sym (ap (λ (l : List ℕ). frames [] ++ l) c.new-bytes.ensures.items ∙ append-nil (frames []) ∙ frames_none));
}

pub loop-index-preserved : goal.loop-index-preserved
loop-index-preserved g c =
    let inv = c.loop-index.invariant in
    let index = c.loop-index.index in
    let mid = c.loop-index.self.stream in
    let same = c.read_part.ensures.same in
    record {
      rests = λ standing rests. c.read_part.ensures.rests standing (inv.rests standing rests);
      ready = λ h. same.open_same (inv.ready h);
      clean = λ h. inv.clean (same.clean h);
      rest = subst (λ (l : List ℕ). BeginNone l) (ap (drop c.in_ok-whole.whole) c.deref.ensures.value ∙ sym c.in_ok-drop_front.ensures) c.in_ok-whole.ensures.rest;
      crash = AddsNothing-trans 1024 (may_leave c.args.self.now) (stream.may_leave mid) (stream.may_leave c.read_part.new.self) inv.crash c.read_part.ensures.crash;
      parts = λ n. same.parts n ∙ inv.parts n;
      read = (
        inv.read.0 ++ c.in_ok-whole.ensures.read.0,
        λ before taken.
            subst (g.S.OperationSink.has_taken c.read_frames.new.sink) (append_assoc before inv.read.0 c.in_ok-whole.ensures.read.0)
            (c.in_ok-whole.ensures.read.1 (before ++ inv.read.0) (inv.read.1 before taken)),
        All-append IsOperation inv.read.0 c.in_ok-whole.ensures.read.0 inv.read.2 c.in_ok-whole.ensures.read.2,
        λ clean.
            page_read _ _ (part_at mid index) _ _ _ inv.read.0 c.in_ok-whole.ensures.read.0 c.in_ok-whole.whole
            (sym (inv.parts (index + 1)) ∙ joined_more (visible mid.pager) index ∙ ap (λ (l : List ℕ). l ++ part_at mid index) (inv.parts index))
            (inv.read.3 (same.clean clean)) (c.in_ok-read_part.ensures.read clean) (ap (take c.in_ok-whole.whole) (sym c.deref.ensures.value) ∙ c.in_ok-whole.ensures.read.3) c.in_ok-drop_front.ensures,
      );
    }

pub returns-clause-read : goal.returns-clause-read
returns-clause-read g c =
    let inv = c.loop-index.invariant in (
      inv.read.0,
      inv.read.1,
      inv.read.2,
      λ standing rests ready clean.
          let it = c.args.self.now.stream in
          let bytes = c.loop-index.bytes in
          let all : c.loop-index.index ≡ it.seen.count = omega (arith, c.loop-index-test.false, c.loop-index.auto.index-end, c.page_count-index-end.ensures) in
          let long : length bytes.items ≡ vec_len bytes = omega (arith, bytes.ok.0) in
          let sound = open_from (state it.pager) ready (inv.clean clean) in
          all_read (front it c.loop-index.index) standing bytes.items inv.read.0
          (ap (front it) all ∙ all_parts it standing rests sound) (inv.read.3 clean) (none_left bytes.items (vec_len bytes) (sym c.is_empty.ensures ∙ c.if-not-is_empty.false) long),
    )

pub drop_front-requires : goal.drop_front-requires
drop_front-requires g c = omega (arith, c.in_ok-whole.ensures.within, ap length c.deref.ensures.value)

pub returns-clause-rests : goal.returns-clause-rests
returns-clause-rests g c = c.loop-index.invariant.rests

pub returns-clause-open : goal.returns-clause-open
returns-clause-open g c = c.loop-index.invariant.ready

pub returns-clause-clean : goal.returns-clause-clean
returns-clause-clean g c = c.loop-index.invariant.clean

pub returns-in_err-read_part-clause-rests : goal.returns-in_err-read_part-clause-rests
returns-in_err-read_part-clause-rests g c = λ standing rests. c.read_part.ensures.rests standing (c.loop-index.invariant.rests standing rests)

pub returns-in_err-read_part-clause-open : goal.returns-in_err-read_part-clause-open
returns-in_err-read_part-clause-open g c = λ h. c.read_part.ensures.same.open_same (c.loop-index.invariant.ready h)

pub returns-in_err-read_part-clause-clean : goal.returns-in_err-read_part-clause-clean
returns-in_err-read_part-clause-clean g c = λ h. c.loop-index.invariant.clean (c.read_part.ensures.same.clean h)

pub returns-in_err-whole-clause-rests : goal.returns-in_err-whole-clause-rests
returns-in_err-whole-clause-rests g c = λ standing rests. c.read_part.ensures.rests standing (c.loop-index.invariant.rests standing rests)

pub returns-in_err-whole-clause-open : goal.returns-in_err-whole-clause-open
returns-in_err-whole-clause-open g c = λ h. c.read_part.ensures.same.open_same (c.loop-index.invariant.ready h)

pub returns-in_err-whole-clause-clean : goal.returns-in_err-whole-clause-clean
returns-in_err-whole-clause-clean g c = λ h. c.loop-index.invariant.clean (c.read_part.ensures.same.clean h)

pub returns-in_err-drop_front-clause-rests : goal.returns-in_err-drop_front-clause-rests
returns-in_err-drop_front-clause-rests g c = λ standing rests. c.read_part.ensures.rests standing (c.loop-index.invariant.rests standing rests)

pub returns-in_err-drop_front-clause-open : goal.returns-in_err-drop_front-clause-open
returns-in_err-drop_front-clause-open g c = λ h. c.read_part.ensures.same.open_same (c.loop-index.invariant.ready h)

pub returns-in_err-drop_front-clause-clean : goal.returns-in_err-drop_front-clause-clean
returns-in_err-drop_front-clause-clean g c = λ h. c.loop-index.invariant.clean (c.read_part.ensures.same.clean h)

pub returns-clause-crash : goal.returns-clause-crash
returns-clause-crash g c = c.loop-index.invariant.crash

pub returns-then-not-is_empty-clause-crash : goal.returns-then-not-is_empty-clause-crash
returns-then-not-is_empty-clause-crash g c = c.loop-index.invariant.crash

pub returns-in_err-read_part-clause-crash : goal.returns-in_err-read_part-clause-crash
returns-in_err-read_part-clause-crash g c =
    AddsNothing-trans 1024 (may_leave c.args.self.now) (stream.may_leave c.loop-index.self.stream) (stream.may_leave c.read_part.new.self) c.loop-index.invariant.crash c.read_part.ensures.crash

pub returns-in_err-whole-clause-crash : goal.returns-in_err-whole-clause-crash
returns-in_err-whole-clause-crash g c =
    AddsNothing-trans 1024 (may_leave c.args.self.now) (stream.may_leave c.loop-index.self.stream) (stream.may_leave c.read_part.new.self) c.loop-index.invariant.crash c.read_part.ensures.crash

pub returns-in_err-drop_front-clause-crash : goal.returns-in_err-drop_front-clause-crash
returns-in_err-drop_front-clause-crash g c =
    AddsNothing-trans 1024 (may_leave c.args.self.now) (stream.may_leave c.loop-index.self.stream) (stream.may_leave c.read_part.new.self) c.loop-index.invariant.crash c.read_part.ensures.crash

pub returns-in_err-read_part-clause-refused : goal.returns-in_err-read_part-clause-refused
returns-in_err-read_part-clause-refused g c =
    let p = err_from_is_err_and c.from_residual.result c.from_residual.ensures.1 in
    rw (p.1, p.2) (λ standing rests ready clean. wrong_error c.in_err-read_part.field-0.0 standing)

pub returns-in_err-drop_front-clause-refused : goal.returns-in_err-drop_front-clause-refused
returns-in_err-drop_front-clause-refused g c =
    let p = err_from_is_err_and c.from_residual-in_err-drop_front.result c.from_residual-in_err-drop_front.ensures.1 in
    rw (p.1, p.2) (λ standing rests ready clean. tt)

pub returns-in_err-whole-clause-refused : goal.returns-in_err-whole-clause-refused
returns-in_err-whole-clause-refused g c =
    let p = err_from_is_err_and c.from_residual-in_err-whole.result c.from_residual-in_err-whole.ensures.1 in
    rw (p.1, p.2)
    (λ standing rests ready clean.
    let it = c.args.self.now.stream in
    let mid = c.loop-index.self.stream in
    let index = c.loop-index.index in
    let inv = c.loop-index.invariant in
    let was = c.read_part.ensures.same.clean clean in
    let sound = open_from (state it.pager) ready (inv.clean was) in
    let behind = joined_behind (visible it.pager) (index + 1) (it.seen.count - (index + 1)) in
    let count : it.seen.count ≡ index + 1 + (it.seen.count - (index + 1)) = omega (arith, c.loop-index-test.true, c.page_count-index-end.ensures) in
    wrong_page c.in_err-whole.field-0.0 (front it index) (front it (index + 1)) (part_at mid index) c.loop-index.bytes.items c.read_part.new.out.items c.deref.result.now standing behind.0 inv.read.0
    (sym (inv.parts (index + 1)) ∙ joined_more (visible mid.pager) index ∙ ap (λ (l : List ℕ). l ++ part_at mid index) (inv.parts index))
    (inv.read.3 was) (c.in_ok-read_part.ensures.read clean) c.deref.ensures.value
    (sym (all_parts it standing rests sound) ∙ ap (front it) count ∙ behind.1) inv.read.2 (c.in_err-whole.ensures.refused behind.0))

pub returns-then-not-is_empty-clause-refused : goal.returns-then-not-is_empty-clause-refused
returns-then-not-is_empty-clause-refused g c = λ standing rests ready clean.
    let it = c.args.self.now.stream in
    let inv = c.loop-index.invariant in
    let bytes = c.loop-index.bytes in
    let all : it.seen.count ≡ c.loop-index.index = omega (arith, c.loop-index-test.false, c.loop-index.auto.index-end, c.page_count-index-end.ensures) in
    let long : vec_len bytes ≡ length bytes.items = omega (arith, bytes.ok.0) in
    let sound = open_from (state it.pager) ready (inv.clean clean) in
    wrong_behind Damaged standing bytes.items inv.read.0 (sym (all_parts it standing rests sound) ∙ ap (front it) all ∙ inv.read.3 clean) inv.read.2
    (wrong_end bytes.items (some_left bytes.items (vec_len bytes) (sym c.is_empty.ensures ∙ c.if-not-is_empty.true) long) inv.rest)
