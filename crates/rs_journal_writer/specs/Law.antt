-- What a server finds that starts from what a crash left.
use Rattle.std.specs.Prelude.{◌≡◌, ◌↔◌, ℕ, List, ◌++◌, map}
use Rattle.std.specs.List.{All}
use mathlib.Core.List.{IsPrefix}
use Rattle.rs_message.specs.declared.entry.Entry.{Entry}
use Rattle.rs_message.specs.declared.entry.Operation.{Operation}
use Rattle.rs_message.specs.declared.found.Found.{Found}
use Rattle.rs_store.specs.Contents.{found_of}
use Rattle.rs_store.specs.History.{IsAnswer}
use Rattle.rs_version.specs.First.{first_of}
use Rattle.rs_journal.specs.Journals.{StandsFor}
use Rattle.rs_journal.specs.Retaining.{retained_after}
use Rattle.rs_journal_record.specs.Records.{IsOperation}
use Rattle.rs_journal_writer.specs.Keeping.{Survives}
use Rattle.sqlite_wal.specs.Recovery.{Image}

-- If an image survives, and an opening finds these operations in it, then a store that begins with the messages that are retained after them
-- answers each filter at each time as one that took what was published, and perhaps some of what came behind it, from the first on, whatever
-- entries follow both
abbrev pub AnswerAsBefore : Type 0
AnswerAsBefore = (published behind : List Entry) (image : Image) (operations : List Operation) (given : List Found)
    → Survives published behind image → All IsOperation operations → StandsFor image operations → given ≡ map found_of (retained_after operations)
    → (front : List Entry) × IsPrefix front behind × ((rest : List Entry) (pattern : List ℕ) (now : ℕ) (answer : List Found)
    → IsAnswer ((published ++ front) ++ rest) pattern now answer ↔ IsAnswer (first_of given ++ rest) pattern now answer)
