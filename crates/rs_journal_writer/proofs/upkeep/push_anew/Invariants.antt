use Rattle.std.proofs.Common.{◌≡◌, ◌++◌, List}
use Rattle.std.specs.List.{All}
use Rattle.rs_journal_record.specs.Records.{IsOperation}
use Rattle.rs_message.specs.declared.entry.Operation.{Operation}
use Rattle.rs_journal.specs.Journals.{AddsNoOutcome, Holds}
use Rattle.rs_journal_writer.specs.State.{sets_for}
use Rattle.rs_journal_writer.proofs.upkeep.push_anew.Given as goal

abbrev pub invariant-loop-message : goal.invariant-loop-message
invariant-loop-message g l = record {
  crash : AddsNoOutcome l.fn.journal l.journal;
  formed : All IsOperation (sets_for l.yielded);
  pushed : (standing seen : List Operation) → Holds l.fn.journal standing seen → Holds l.journal standing (sets_for l.yielded);
  whole : l.yielded ++ l.message-iterator.rest.items ≡ l.fn.found.items;
}
