-- What is retained after operations, and operations that leave just that.
use Rattle.std.specs.Prelude.{◌≡◌, ℕ, List, [], length, map, fold}
use Rattle.rs_message.specs.Values.{MessageValue}
use Rattle.rs_message.specs.Messages.{set_of}
use Rattle.rs_message.specs.declared.entry.Operation.{Operation}
use Rattle.rs_message.specs.declared.found.Found.{Found}
use Rattle.rs_store.specs.Contents.{after, found_of}
use Rattle.rs_journal.specs.declared.retained.Retained.{Retained}

-- the topics that hold a message after these operations, in the order of replay (3.3.1.3)
abbrev pub retained_after : List Operation → List (List ℕ × MessageValue)
retained_after operations = fold after [] operations

-- a Set of each
abbrev pub sets : List (List ℕ × MessageValue) → List Operation
sets retained = map (λ e. set_of e.0 e.1) retained

-- it has just what is retained after these operations
abbrev pub Retains : Retained → List Operation → Type 0
Retains it operations = it.messages.entries ≡ retained_after operations

-- a Set of each message that it has
abbrev pub sets_of : Retained → List Operation
sets_of it = sets it.messages.entries

-- the messages that it has, with their topics
abbrev pub founds_of : Retained → List Found
founds_of it = map found_of it.messages.entries

-- how many topics it has
abbrev pub topic_count : Retained → ℕ
topic_count it = length it.messages.entries
