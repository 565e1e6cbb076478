use Rattle.std.proofs.Common.{◌≡◌, ◌++◌, ℕ, List}
use Rattle.std.specs.List.{All}
use Rattle.rs_message.specs.declared.entry.Operation.{Operation}
use Rattle.sqlite_wal.specs.Recovery.{AddsNothing}
use Rattle.rs_journal.specs.Streams.{Rests, front}
use Rattle.rs_journal_record.specs.Records.{IsOperation}
use Rattle.rs_journal.specs.Frames.{frames, BeginNone}
use Rattle.rs_journal.specs.Journals.{may_leave, IsClean, IsOpen}
use Rattle.rs_journal.proofs.journal.Journal.read_stream.Given as goal

abbrev pub invariant-loop-index : goal.invariant-loop-index
invariant-loop-index g l = record {
  rests : (standing : List ℕ) → Rests l.fn.self.stream standing → Rests l.self.stream standing;
  ready : IsOpen l.fn.self → IsOpen l.self;
  clean : IsClean l.self → IsClean l.fn.self;
  rest : BeginNone l.bytes.items;
  crash : AddsNothing 1024 (may_leave l.fn.self) (may_leave l.self);
  parts : (n : ℕ) → front l.self.stream n ≡ front l.fn.self.stream n;
  read : (operations : List Operation) × ((before : List Operation) → g.S.OperationSink.has_taken l.fn.sink before → g.S.OperationSink.has_taken l.sink (before ++ operations)) × All IsOperation operations
      × (IsClean l.self → front l.fn.self.stream l.index ≡ frames operations ++ l.bytes.items);
}
