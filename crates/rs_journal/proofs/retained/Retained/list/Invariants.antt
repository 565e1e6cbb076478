use Rattle.std.proofs.Common.{◌≡◌, ◌++◌, ℕ, List, map}
use Rattle.rs_message.specs.Values.{MessageValue}
use Rattle.rs_store.specs.Contents.{found_of}
use Rattle.rs_journal.proofs.retained.Retained.list.Given as goal

abbrev pub invariant-loop-topic : goal.invariant-loop-topic
invariant-loop-topic l = (done : List (List ℕ × MessageValue)) × (done ++ l.topic-iterator ≡ l.self.messages.entries) × (l.list.items ≡ map found_of done)
