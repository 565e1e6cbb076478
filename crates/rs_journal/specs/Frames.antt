-- Operations as a stream of bytes.
use Rattle.std.specs.Prelude.{◌≢◌, ℕ, List, ◌++◌, length}
use Rattle.std.specs.Int.{w32, to_be_bytes}
use Rattle.std.specs.List.{flat_map}
use Rattle.rs_message.specs.declared.entry.Operation.{Operation}
use Rattle.rs_journal_record.specs.Records.{record_form, IsOperation}

-- the length of its record, and the record
abbrev pub frame : Operation → List ℕ
frame operation = to_be_bytes w32 (length (record_form operation)) ++ record_form operation

unfoldable pub frames : List Operation → List ℕ
frames operations = flat_map frame operations

-- the bytes do not begin with a frame: they end before one does, or are none
abbrev pub BeginNone : List ℕ → Type 0
BeginNone bytes = (operation : Operation) (rest : List ℕ) → IsOperation operation → bytes ≢ frame operation ++ rest
