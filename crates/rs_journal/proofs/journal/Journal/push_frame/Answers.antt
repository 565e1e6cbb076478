use Rattle.std.proofs.Common.{◌≡◌, ◌++◌, ℕ, List, length, refl, ap, subst, ◌∙◌, arith}
use Rattle.std.specs.Int.{w32, to_be_bytes}
use Rattle.rs_journal_record.specs.Records.{record_form}
use Rattle.rs_journal_record.proofs.Sizes.{small_record}
use Rattle.sqlite_wal.proofs.StateLemmas.{AddsNothing-fewer, AddsNothing-trans}
use Rattle.rs_journal.specs.Streams.{Holds, may_leave}
use Rattle.rs_journal.proofs.StandsLemmas.{closed_same, stands_if_rests, stands_of}
use Rattle.rs_journal.specs.Frames.{frames}
use Rattle.rs_journal.proofs.FrameLemmas.{frame_pushed}
use Rattle.rs_journal.proofs.journal.Journal.push_frame.Goals as goal

pub returns-in_err-put_record-clause-stands : goal.returns-in_err-put_record-clause-stands
returns-in_err-put_record-clause-stands g c = λ standing seen holds. stands_of c.args.self.now.stream (frames standing) (frames seen) holds

pub returns-in_err-push-clause-stands : goal.returns-in_err-push-clause-stands
returns-in_err-push-clause-stands g c = λ standing seen holds. stands_if_rests _ (frames standing) (c.in_err-push.ensures.refused (frames standing) (frames seen) holds)

pub returns-in_err-push-2-clause-stands : goal.returns-in_err-push-2-clause-stands
returns-in_err-push-2-clause-stands g c = λ standing seen holds.
    stands_if_rests _ (frames standing) (c.in_err-push-2.ensures.refused (frames standing) (frames seen ++ c.to_be_bytes.result) (c.in_ok-push.ensures.pushed (frames standing) (frames seen) holds))

pub returns-clause-stands : goal.returns-clause-stands
returns-clause-stands g c = λ standing seen holds.
    stands_of _ (frames standing) _ (c.in_ok-push-2.ensures.pushed (frames standing) (frames seen ++ c.to_be_bytes.result) (c.in_ok-push.ensures.pushed (frames standing) (frames seen) holds))

pub returns-clause-pushed : goal.returns-clause-pushed
returns-clause-pushed g c = λ standing seen holds.
    let bytes = c.deref.result.now in
    let is : bytes ≡ record_form c.args.operation.now = c.deref.ensures.value ∙ c.in_ok-put_record.ensures.put ∙ ap (λ (l : List ℕ). l ++ record_form c.args.operation.now) c.clear.ensures.items in
    let says : c.to_be_bytes.result ≡ to_be_bytes w32 (length bytes) = c.to_be_bytes.ensures ∙ ap (to_be_bytes w32) (omega arith) in
    subst (λ (s : List ℕ). Holds c.push-2.new.self (frames standing) s) (frame_pushed seen c.args.operation.now c.to_be_bytes.result bytes is says)
    (c.in_ok-push-2.ensures.pushed (frames standing) (frames seen ++ c.to_be_bytes.result) (c.in_ok-push.ensures.pushed (frames standing) (frames seen) holds))

pub returns-in_err-put_record-clause-crash : goal.returns-in_err-put_record-clause-crash
returns-in_err-put_record-clause-crash g c = AddsNothing-fewer 1024 (may_leave c.args.self.now.stream) (may_leave c.args.self.now.stream) (λ left may. may)

pub returns-in_err-push-clause-crash : goal.returns-in_err-push-clause-crash
returns-in_err-push-clause-crash g c = c.push.ensures.crash

pub returns-in_err-push-2-clause-crash : goal.returns-in_err-push-2-clause-crash
returns-in_err-push-2-clause-crash g c = AddsNothing-trans 1024 (may_leave c.args.self.now.stream) (may_leave c.push.new.self) (may_leave c.push-2.new.self) c.push.ensures.crash c.push-2.ensures.crash

pub returns-clause-crash : goal.returns-clause-crash
returns-clause-crash g c = AddsNothing-trans 1024 (may_leave c.args.self.now.stream) (may_leave c.push.new.self) (may_leave c.push-2.new.self) c.push.ensures.crash c.push-2.ensures.crash

pub returns-clause-open : goal.returns-clause-open
returns-clause-open g c = c.in_ok-push.ensures.open

pub overflow_cast-len : goal.overflow_cast-len
overflow_cast-len g c =
    let operation = c.args.operation.now in
    let out = c.put_record.new.out in
    let is : out.items ≡ record_form operation = c.in_ok-put_record.ensures.put ∙ ap (λ (l : List ℕ). l ++ record_form operation) c.clear.ensures.items in
    omega (arith, small_record operation c.in_ok-put_record.ensures.fits, ap length is, out.ok.0, c.len-len.ensures)

pub returns-in_err-put_record-clause-closed : goal.returns-in_err-put_record-clause-closed
returns-in_err-put_record-clause-closed g c = closed_same c.args.self.now.stream _ refl

pub returns-in_err-push-clause-closed : goal.returns-in_err-push-clause-closed
returns-in_err-push-clause-closed g c = c.push.ensures.closed

pub returns-in_err-push-2-clause-closed : goal.returns-in_err-push-2-clause-closed
returns-in_err-push-2-clause-closed g c = λ shut. absurd (shut c.in_ok-push.ensures.open)

pub returns-clause-closed : goal.returns-clause-closed
returns-clause-closed g c = λ shut. absurd (shut c.in_ok-push.ensures.open)
