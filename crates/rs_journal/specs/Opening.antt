-- Why a journal is not opened.
use Rattle.std.specs.Prelude.{◌≢◌, ℕ, List}
use Rattle.std.specs.List.{All}
use Rattle.sqlite_wal.specs.declared.error.Error.{Error}
use Rattle.sqlite_wal.specs.declared.error.Error.TheVariants.{Io, OutOfMemory, Closed, NoSuchPage, Full, Corrupt, Exists}
use Rattle.sqlite_wal.specs.Recovery.{Image}
use Rattle.rs_message.specs.declared.entry.Operation.{Operation}
use Rattle.rs_journal_record.specs.declared.fault.RecordFault.{RecordFault}
use Rattle.rs_journal_record.specs.declared.fault.RecordFault.TheVariants as record_fault
use Rattle.rs_journal_record.specs.Records.{record_form, IsOperation}
use Rattle.rs_journal.specs.Images.{StandsFor as StandsForStream}
use Rattle.rs_journal.specs.OpenFaults.{Explains as ExplainsPages, IsRefusal as IsRefusalOfPages}
use Rattle.rs_journal.specs.declared.fault.ReadFault.{ReadFault}
use Rattle.rs_journal.specs.declared.fault.ReadFault.TheVariants.{Open, Damaged, NoMemory, Disk}
use Rattle.rs_journal.specs.Frames.{frames}

-- what the error of a call of the files means
abbrev pub fault_of : Error → ReadFault
fault_of (Io e) = Disk (Io e)
fault_of OutOfMemory = NoMemory
fault_of Closed = Disk Closed
fault_of NoSuchPage = Disk NoSuchPage
fault_of Full = Disk Full
fault_of Corrupt = Disk Corrupt
fault_of Exists = Disk Exists

-- what the fault of a record means
abbrev pub fault_of_record : RecordFault → ReadFault
fault_of_record record_fault.Truncated = Damaged
fault_of_record record_fault.UnknownKind = Damaged
fault_of_record record_fault.Malformed = Damaged
fault_of_record record_fault.NoMemory = NoMemory

-- the files were read, and are none that a journal writes
abbrev pub IsRefusal : ReadFault → Type 0
IsRefusal (Open fault) = IsRefusalOfPages fault
IsRefusal Damaged = Unit {0}
IsRefusal NoMemory = ⊥
IsRefusal (Disk e) = ⊥

-- what is wrong with bytes that should be one record, where the fault names it
abbrev pub IsWrongRecord : ReadFault → List ℕ → Type 0
IsWrongRecord (Open fault) bytes = ⊥
IsWrongRecord Damaged bytes = (operation : Operation) → IsOperation operation → bytes ≢ record_form operation
IsWrongRecord NoMemory bytes = Unit {0}
IsWrongRecord (Disk e) bytes = Unit {0}

-- what is wrong with a stream that was read, where the fault names it
abbrev pub IsWrong : ReadFault → List ℕ → Type 0
IsWrong (Open fault) stream = ⊥
IsWrong Damaged stream = (operations : List Operation) → All IsOperation operations → stream ≢ frames operations
IsWrong NoMemory stream = Unit {0}
IsWrong (Disk e) stream = Unit {0}

-- what two files have that are refused with this fault, where it names one
abbrev pub Explains : ReadFault → Image → Type 0
Explains (Open fault) image = ExplainsPages fault image
Explains Damaged image = (stream : List ℕ) × StandsForStream image stream × IsWrong Damaged stream
Explains NoMemory image = Unit {0}
Explains (Disk e) image = Unit {0}
