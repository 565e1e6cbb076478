use Rattle.std.proofs.Common.{ℕ, ◌++◌, ◌∷◌, [], List, sym, ap, subst, ◌∙◌, arith, append_assoc}
use Rattle.std.proofs.lemmas.List.{append-nil}
use Rattle.std.proofs.lemmas.Result.{err_from_is_err_and}
use Rattle.std.proofs.lemmas.List.Elements.{All-nil, All-push}
use Rattle.rs_journal_record.specs.Records.{IsOperation}
use Rattle.rs_journal.specs.Frames.{frame}
use Rattle.rs_journal.proofs.FrameLemmas.{frame_read, frame_within, frames_none, frames_push, wrong_frame}
use Rattle.rs_journal.proofs.reading.read_frames.Goals as goal

pub loop-len-init : goal.loop-len-init
loop-len-init g c = record { within = omega arith; read = ([], λ before taken. subst (g.S.OperationSink.has_taken c.args.sink.now) (sym (append-nil before)) taken, All-nil IsOperation, sym frames_none) }

pub loop-len-preserved : goal.loop-len-preserved
loop-len-preserved g c =
    let inv = c.loop-len.invariant in
    let at = c.loop-len.at in
    let bytes = c.args.bytes.now in
    let operation = c.in_ok-operation.operation in
    record {
      within = frame_within bytes at c.in-Some.len c.in-Some.ensures.within inv.within;
      read = (
        inv.read.0 ++ operation ∷ [],
        λ before taken. subst (g.S.OperationSink.has_taken c.take.new.self) (append_assoc before inv.read.0 (operation ∷ [])) (c.in_ok-take.ensures (before ++ inv.read.0) (inv.read.1 before taken)),
        All-push IsOperation inv.read.0 operation inv.read.2 c.in_ok-operation.ensures.read.0,
        frame_read bytes at c.in-Some.len operation c.in-Some.ensures.within c.in-Some.ensures.says.0 c.in_ok-operation.ensures.read.1 ∙ ap (λ (l : List ℕ). l ++ frame operation) inv.read.3 ∙ frames_push inv.read.0 operation,
      );
    }

pub returns-in_err-operation-clause-refused : goal.returns-in_err-operation-clause-refused
returns-in_err-operation-clause-refused g c =
    let inv = c.loop-len.invariant in
    let p = err_from_is_err_and c.from_residual.result c.from_residual.ensures.1 in
    rw (p.1, p.2)
    (λ rest.
    wrong_frame c.in_err-operation.field-0.0 c.args.bytes.now rest c.loop-len.at c.in-Some.len inv.read.0 inv.within c.in-Some.ensures.within c.in-Some.ensures.says.0 c.in-Some.ensures.says.1 inv.read.3 inv.read.2
    c.in_err-operation.ensures.refused)
