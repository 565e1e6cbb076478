-- What two files keep is determined, down to the operations.
use Rattle.std.specs.Prelude.{◌≡◌, List}
use Rattle.std.specs.List.{All}
use Rattle.sqlite_wal.specs.Recovery.{Image}
use Rattle.rs_message.specs.declared.entry.Operation.{Operation}
use Rattle.rs_journal_record.specs.Records.{IsOperation}
use Rattle.rs_journal.specs.Journals.{StandsFor}

-- files stand for one list of operations at most
abbrev pub OneList : Type 0
OneList = (image : Image) (operations others : List Operation) → All IsOperation operations → All IsOperation others
    → StandsFor image operations → StandsFor image others → operations ≡ others
