-- What `record_law` says of the bytes of operations.
use Rattle.std.specs.Prelude.{◌≡◌, ◌≢◌, ℕ, ◌<◌, List, [], ◌++◌, Ok, Err}
use Rattle.std.specs.List.{All}
use Rattle.rs_message.specs.declared.entry.Operation.{Operation}
use Rattle.rs_journal_record.specs.declared.fault.RecordFault.TheVariants.{Truncated}
use Rattle.rs_journal_record.specs.Records.{record_form, records, record_at, records_at, IsOperation}

-- What was encoded is read again, whatever follows.
abbrev pub ReadsAgain : Type 0
ReadsAgain = (operation : Operation) (rest : List ℕ) → IsOperation operation → record_at (record_form operation ++ rest) ≡ Ok (operation, rest)

-- Nothing else is read: bytes of which an operation is read begin with its record.
abbrev pub ReadsRecords : Type 0
ReadsRecords = (bytes rest : List ℕ) (operation : Operation) → All (λ b. b < 256) bytes → record_at bytes ≡ Ok (operation, rest)
    → IsOperation operation × (bytes ≡ record_form operation ++ rest)

-- No record begins another.
abbrev pub BeginNoOther : Type 0
BeginNoOther = (one other : Operation) (rest end : List ℕ) → IsOperation one → IsOperation other
    → record_form one ++ rest ≡ record_form other ++ end → (one ≡ other) × (rest ≡ end)

-- The first bytes of a record, if they are not all of it, are cut off.
abbrev pub AreCutOff : Type 0
AreCutOff = (operation : Operation) (front end : List ℕ) → IsOperation operation → end ≢ [] → record_form operation ≡ front ++ end
    → record_at front ≡ Err Truncated

-- What was encoded one after the other is read again, exactly that.
abbrev pub ReadAgain : Type 0
ReadAgain = (operations : List Operation) → All IsOperation operations → records_at (records operations) ≡ Ok operations

-- Operations whose records are at the front of others' records are the first of these, and the records of the others follow.
abbrev pub BeginAlike : Type 0
BeginAlike = (operations front : List Operation) (rest : List ℕ) → All IsOperation operations → All IsOperation front
    → records operations ≡ records front ++ rest → (end : List Operation) × (operations ≡ front ++ end) × (rest ≡ records end)
