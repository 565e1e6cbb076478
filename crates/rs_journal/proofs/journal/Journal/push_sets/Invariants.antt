use Rattle.std.proofs.Common.{◌≡◌, ◌++◌, ℕ, List}
use Rattle.sqlite_wal.specs.Recovery.{AddsNothing}
use Rattle.rs_message.specs.Values.{MessageValue}
use Rattle.rs_message.specs.declared.entry.Operation.{Operation}
use Rattle.rs_journal.specs.Streams.{Stands}
use Rattle.rs_journal.specs.Frames.{frames}
use Rattle.rs_journal.specs.Journals.{may_leave, Holds}
use Rattle.rs_journal.specs.Retaining.{sets}
use Rattle.rs_journal.proofs.journal.Journal.push_sets.Given as goal

abbrev pub invariant-loop-topic : goal.invariant-loop-topic
invariant-loop-topic g l = record {
  crash : AddsNothing 1024 (may_leave l.fn.self) (may_leave l.self);
  stands : (standing seen : List Operation) → Holds l.fn.self standing seen → Stands l.self.stream (frames standing);
  pushed : (done : List (List ℕ × MessageValue)) × (done ++ l.topic-iterator ≡ l.retained.messages.entries)
      × ((standing seen : List Operation) → Holds l.fn.self standing seen → Holds l.self standing (seen ++ sets done));
}
