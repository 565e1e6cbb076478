use Rattle.std.proofs.Common.{List, ◌++◌, take}
use Rattle.std.specs.List.{All}
use Rattle.rs_journal_record.specs.Records.{IsOperation}
use Rattle.rs_message.specs.declared.entry.Operation.{Operation}
use Rattle.rs_journal.specs.Journals.{Holds}
use Rattle.rs_journal.specs.Restarting.{operations_of}
use Rattle.rs_journal_writer.proofs.keeping.push_all.Given as goal

abbrev pub invariant-loop-index : goal.invariant-loop-index
invariant-loop-index g l = ((standing seen : List Operation) → Holds l.fn.journal standing seen → Holds l.journal standing (seen ++ operations_of (take l.index l.entries.items)))
    × All IsOperation (operations_of (take l.index l.entries.items))
