-- What bytes are records, and lists of records.
use Rattle.std.proofs.Common.{◌≡◌, ◌≢◌, ℕ, zero, suc, ◌<◌, ◌≤◌, List, [], ◌∷◌, ◌++◌, length, Result, Ok, Err, refl, sym, ap, ◌∙◌, append_assoc, append-nil, length-append, arith, inl, inr}
use Rattle.std.specs.Prelude.{IfOk}
use Rattle.std.specs.List.{All}
use Rattle.std.proofs.lemmas.Bool.{cases_lt}
use Rattle.std.proofs.lemmas.List.{get_or_past}
use Rattle.std.proofs.lemmas.List.Elements.{All-head, All-tail}
use Rattle.rs_message.specs.declared.entry.Operation.{Operation}
use Rattle.rs_message.specs.declared.entry.Operation.TheVariants.{Set, Clear, Sweep}
use Rattle.rs_packet_field.specs.Reading.{◌>>=◌}
use Rattle.rs_packet_field.proofs.Fields.{IsBytes}
use Rattle.rs_journal_record.specs.declared.fault.RecordFault.{RecordFault}
use Rattle.rs_journal_record.specs.declared.fault.RecordFault.TheVariants.{Truncated, UnknownKind, Malformed, NoMemory}
use Rattle.rs_journal_record.specs.Fields.{Gives}
use Rattle.rs_journal_record.specs.Records.{record_form, records, record_at, records_in, IsOperation}
use Rattle.rs_journal_record.specs.Law.{ReadsRecords, BeginNoOther, AreCutOff, ReadAgain, BeginAlike}
use Rattle.rs_journal_record.proofs.FieldForms.{Stays}
use Rattle.rs_journal_record.proofs.RecordForms.{record_takes, record_again, record_stays}

all_bytes : (bytes : List ℕ) → All (λ b. b < 256) bytes → IsBytes bytes
all_bytes bytes h i =
    elim (cases_lt i (length bytes)) [
      | inl lt ↦ h i 0 lt
      | inr le ↦ rw (get_or_past bytes i 0 le) (omega arith)
    ]

pub only_records : ReadsRecords
only_records bytes rest operation fits e =
    let t = record_takes bytes (operation, rest) (all_bytes bytes fits) e in
    (t.1, t.0.parts)

pub found : (bytes rest : List ℕ) (r : Result Operation RecordFault) → IsBytes bytes → Gives (λ o. (o, rest)) r (record_at bytes)
    → IfOk r (λ o. IsOperation o × (bytes ≡ record_form o ++ rest))
found bytes rest (Ok operation) fits e = let t = record_takes bytes (operation, rest) fits e in (t.1, t.0.parts)
found bytes rest (Err fault) fits e = tt

pub no_other : BeginNoOther
no_other one other rest end h k same =
    let both : ◌≡◌ {A = Result (Operation × List ℕ) RecordFault} (Ok (one, rest)) (Ok (other, end)) = sym (record_again one rest h) ∙ ap record_at same ∙ record_again other end k in
    let pair : (one, rest) ≡ (other, end) = cc (both) in
    (ap (λ (x : Operation × List ℕ). x.0) pair, ap (λ (x : Operation × List ℕ). x.1) pair)

nothing_behind : (a b : List ℕ) → b ≢ [] → a ++ b ≡ [] → ⊥
nothing_behind [] b some e = some e
nothing_behind (x ∷ a) b some e = absurd (cc (e))

pub parts_cut_off : AreCutOff
parts_cut_off operation front end h some whole = by (record_at front) (record_stays end front) refl
  where
    -- the record is read from all of its bytes
    read : record_at (front ++ end) ≡ Ok (operation, [])
    read = ap record_at (sym whole ∙ sym (append-nil (record_form operation))) ∙ record_again operation [] h

    by : (r : Result (Operation × List ℕ) RecordFault) → Stays end r (record_at (front ++ end)) → record_at front ≡ r → record_at front ≡ Err Truncated
    by (Ok x) stays is =
        let both : ◌≡◌ {A = Result (Operation × List ℕ) RecordFault} (Ok (x.0, x.1 ++ end)) (Ok (operation, [])) = sym stays ∙ read in
        let pair : (x.0, x.1 ++ end) ≡ (operation, []) = cc (both) in
        absurd (nothing_behind x.1 end some (ap (λ (y : Operation × List ℕ). y.1) pair))
    by (Err Truncated) stays is = is
    by (Err UnknownKind) stays is = absurd (cc (stays, read))
    by (Err Malformed) stays is = absurd (cc (stays, read))
    by (Err NoMemory) stays is = absurd (cc (stays, read))

-- ---- lists of records

some_byte : (operation : Operation) → 0 < length (record_form operation)
some_byte (Set found) = omega arith
some_byte (Clear topic) = omega arith
some_byte (Sweep moment) = omega arith

-- a record is read, and then the others
one_of_more : (n : ℕ) (operation : Operation) (bytes rest : List ℕ) → bytes ≡ record_form operation ++ rest → IsOperation operation
    → records_in (suc n) bytes ≡ (records_in n rest >>= λ more. Ok (operation ∷ more))
unfolding records_in
one_of_more n operation [] rest e h = absurd (omega (arith, ap length e, some_byte operation, length-append (record_form operation) rest))
one_of_more n operation (b ∷ bytes) rest e h =
    let read : record_at (b ∷ bytes) ≡ Ok (operation, rest) = ap record_at e ∙ record_again operation rest h in
    rw read refl

all_again : (n : ℕ) (operations : List Operation) → length (records operations) ≤ n → All IsOperation operations → records_in n (records operations) ≡ Ok operations
unfolding records_in
all_again zero [] le h = refl
all_again (suc n) [] le h = refl
all_again zero (operation ∷ more) le h = absurd (omega (arith, le, some_byte operation, length-append (record_form operation) (records more)))
all_again (suc n) (operation ∷ more) le h =
    let small : length (records more) ≤ n = omega (arith, le, some_byte operation, length-append (record_form operation) (records more)) in
    one_of_more n operation (record_form operation ++ records more) (records more) refl (All-head IsOperation operation more h)
    ∙ rw (all_again n more small (All-tail IsOperation operation more h)) refl

pub read_again : ReadAgain
read_again operations h = all_again (length (records operations)) operations (omega arith) h

pub begin_alike : BeginAlike
begin_alike operations [] rest h k e = (operations, refl, sym e)
begin_alike [] (one ∷ front) rest h k e =
    absurd (omega (arith, ap length e, some_byte one, length-append (record_form one) (records front), length-append (record_form one ++ records front) rest))
begin_alike (operation ∷ operations) (one ∷ front) rest h k e =
    let parts = no_other operation one (records operations) (records front ++ rest) (All-head IsOperation operation operations h) (All-head IsOperation one front k)
    (e ∙ append_assoc (record_form one) (records front) rest) in
    let more = begin_alike operations front rest (All-tail IsOperation operation operations h) (All-tail IsOperation one front k) parts.1 in
    let same : operation ∷ operations ≡ one ∷ (front ++ more.0) = cc (parts.0, more.1) in
    (more.0, same, more.2)
