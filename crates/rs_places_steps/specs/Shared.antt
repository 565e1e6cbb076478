-- What contracts see of a gate to a store that other gates use too.
use Rattle.std.specs.Prelude.{◌≡◌, ◌+◌, ℕ, List, length, map}
use Rattle.rs_message.specs.declared.entry.Entry.{Entry}
use Rattle.rs_message.specs.declared.entry.Operation.{Operation}
use Rattle.rs_store.specs.History.{IsLegal}
use Rattle.rs_intake_queue.specs.Changes.{AreNext}
use Rattle.rs_session.specs.Gate.{Mark, Sends}

-- the list that it knows; its place, the last serial that was submitted, and what was sent and submitted; and the changes that were
-- sent and not submitted since
pub record SharedValue : Type 0 where
  pub known : List Entry
  pub mark : Mark
  pub pending : List Operation

-- what these entries do to their topics
abbrev pub operations_of : List Entry → List Operation
operations_of entries = map (λ e. e.operation) entries

-- the list is the one that the gate knows, and it is legal
pub record Knows (limit : ℕ) (gate : SharedValue) (list : List Entry) : Type 0 where
  pub known : gate.known ≡ list
  pub legal : IsLegal limit list

-- From the one mark to the other these entries, which were sent ahead, count as submitted. They are of the place, under the serials
-- behind its last one, one after the other.
pub record HandsOn (old : Mark) (tail : List Entry) (new : Mark) : Type 0 where
  pub place : new.place ≡ old.place
  pub next : AreNext old.place old.serial tail
  pub serial : new.serial ≡ old.serial + length tail
  pub sent : Sends old.sent tail new.sent
