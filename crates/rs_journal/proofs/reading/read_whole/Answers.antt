use Rattle.std.proofs.Common.{ℕ, List, length, refl, sym, subst, ◌∙◌}
use Rattle.std.proofs.lemmas.Result.{err_from_is_err_and}
use Rattle.rs_journal_record.specs.Fields.{Fails}
use Rattle.rs_journal_record.specs.Records.{record_at}
use Rattle.rs_journal.proofs.FrameLemmas.{longer_record, refused_record, some_left}
use Rattle.rs_journal.proofs.reading.read_whole.Goals as goal

pub returns-in_err-operation-clause-refused : goal.returns-in_err-operation-clause-refused
returns-in_err-operation-clause-refused c =
    let p = err_from_is_err_and c.from_residual-in_err-operation.result c.from_residual-in_err-operation.ensures.1 in
    rw (p.1, p.2) (refused_record c.in_err-operation.field-0.0 c.args.bytes.now (subst (λ (b : List ℕ). Fails c.in_err-operation.field-0.0 (record_at b)) c.in_ok-rest.ensures c.in_err-operation.ensures.read))

pub returns-then-not-is_empty-clause-refused : goal.returns-then-not-is_empty-clause-refused
returns-then-not-is_empty-clause-refused c =
    longer_record c.args.bytes.now c.read_record.new.rest c.in_ok-operation.operation c.in_ok-operation.ensures.found.0 (sym c.in_ok-rest.ensures ∙ c.in_ok-operation.ensures.found.1)
    (some_left c.read_record.new.rest (length c.read_record.new.rest) (sym c.is_empty.ensures ∙ c.if-not-is_empty.true) refl)
