-- What a run answers that begins with what an earlier one retained.
use Rattle.std.specs.Prelude.{◌≡◌, ◌↔◌, ℕ, List, ◌++◌, map}
use Rattle.rs_message.specs.Values.{MessageValue}
use Rattle.rs_message.specs.declared.entry.Entry.{Entry}
use Rattle.rs_message.specs.declared.entry.Operation.{Operation}
use Rattle.rs_message.specs.declared.found.Found.{Found}
use Rattle.rs_store.specs.History.{AreRetained, IsAnswer}
use Rattle.rs_journal.specs.Retaining.{retained_after, sets}

abbrev pub operations_of : List Entry → List Operation
operations_of entries = map (λ e. e.operation) entries

-- two lists that retain the same messages answer each filter at each time the same, whatever entries follow both
abbrev pub AnswerAlike : Type 0
AnswerAlike = (old first rest : List Entry) (retained : List (List ℕ × MessageValue)) → AreRetained old retained → AreRetained first retained
    → (pattern : List ℕ) (now : ℕ) (answer : List Found) → IsAnswer (old ++ rest) pattern now answer ↔ IsAnswer (first ++ rest) pattern now answer

-- a list that has just a Set of each message that another retains retains the same
abbrev pub SetsRetain : Type 0
SetsRetain = (old first : List Entry) (retained : List (List ℕ × MessageValue)) → AreRetained old retained → operations_of first ≡ sets retained
    → AreRetained first retained

-- what a list retains follows from its operations
abbrev pub OperationsRetain : Type 0
OperationsRetain = (entries : List Entry) → AreRetained entries (retained_after (operations_of entries))
