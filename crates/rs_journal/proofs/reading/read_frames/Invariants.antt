use Rattle.std.proofs.Common.{◌≡◌, ◌-◌, ◌≤◌, ◌++◌, List, length, take}
use Rattle.std.specs.List.{All}
use Rattle.rs_message.specs.declared.entry.Operation.{Operation}
use Rattle.rs_journal_record.specs.Records.{IsOperation}
use Rattle.rs_journal.specs.Frames.{frames}
use Rattle.rs_journal.proofs.reading.read_frames.Given as goal

abbrev pub invariant-loop-len : goal.invariant-loop-len
invariant-loop-len g l = record {
  within : l.at ≤ length l.bytes;
  read : (operations : List Operation) × ((before : List Operation) → g.S.OperationSink.has_taken l.fn.sink before → g.S.OperationSink.has_taken l.sink (before ++ operations)) × All IsOperation operations × (take l.at l.bytes ≡ frames operations);
}

abbrev pub decreases-loop-len : goal.decreases-loop-len
decreases-loop-len g l = length l.bytes - l.at
