-- Frames one behind the other, written and read.
use Rattle.std.proofs.Common.{◌≡◌, ◌≢◌, ◌^◌, false, Ok, ℕ, ◌+◌, ◌-◌, ◌≤◌, zero, suc, ◌<◌, List, [], ◌∷◌, ◌++◌, length, map, get_or, take, drop, refl, sym, ap, subst, ◌∙◌, arith, append_assoc, length-append, length-drop}
use Rattle.std.specs.Prelude.{◌==◌}
use Rattle.std.specs.Int.{w32, from_be_bytes, to_be_bytes}
use Rattle.std.specs.List.{All, Contains}
use Rattle.std.proofs.Math.ListN.{get_or-map}
use Rattle.std.proofs.lemmas.List.{append-nil, drop-append-le, drop-drop, drop_at, flat_map_more, length-map, length-take-le, take_all, take-append-drop, take-append-le, take_at}
use Rattle.std.proofs.lemmas.Nat.{from_be_bytes-to_be_bytes_4}
use Rattle.std.proofs.lemmas.List.Elements.{All-head, All-tail}
use Rattle.sqlite_wal.specs.Recovery.{Image}
use Rattle.rs_message.specs.declared.entry.Operation.{Operation}
use Rattle.rs_journal_record.specs.declared.fault.RecordFault.{RecordFault}
use Rattle.rs_journal_record.specs.declared.fault.RecordFault.TheVariants as record_fault
use Rattle.rs_journal_record.specs.Fields.{Fails}
use Rattle.rs_journal_record.specs.Records.{record_at, record_form, IsOperation}
use Rattle.rs_journal_record.proofs.Laws.{no_other}
use Rattle.rs_journal_record.proofs.RecordForms.{record_again}
use Rattle.rs_journal_record.proofs.Sizes.{small_record}
use Rattle.rs_journal.specs.Images.{EachStandsForOne as EachStream, StandsFor as StandsForStream}
use Rattle.rs_journal.proofs.ListLemmas.{take_add}
use Rattle.rs_journal.proofs.OpenLemmas.{one_image}
use Rattle.sqlite_wal.specs.declared.error.Error.{Error}
use Rattle.sqlite_wal.specs.declared.error.Error.TheVariants.{Io, OutOfMemory, Closed, NoSuchPage, Full, Corrupt, Exists}
use Rattle.rs_journal.specs.declared.fault.ReadFault.{ReadFault}
use Rattle.rs_journal.specs.declared.fault.ReadFault.TheVariants.{Open, Damaged, NoMemory, Disk}
use Rattle.rs_journal.specs.Frames.{frame, frames, BeginNone}
use Rattle.rs_journal.specs.Opening.{Explains, IsRefusal, IsWrong, IsWrongRecord, fault_of, fault_of_record}
use Rattle.rs_journal.specs.Journals.{EachStandsForOne}
use Rattle.rs_journal.specs.Law.{OneList}

pub frames_none : frames [] ≡ []
unfolding frames
frames_none = refl

pub frames_push : (operations : List Operation) (operation : Operation) → frames operations ++ frame operation ≡ frames (operations ++ operation ∷ [])
unfolding frames
frames_push operations operation = flat_map_more frame [] operations operation

pub frames_join : (front back : List Operation) → frames (front ++ back) ≡ frames front ++ frames back
unfolding frames
frames_join [] back = refl
frames_join (operation ∷ front) back = ap (λ (l : List ℕ). frame operation ++ l) (frames_join front back) ∙ sym (append_assoc (frame operation) (frames front) (frames back))

-- a frame that was pushed in two parts
pub frame_pushed : (seen : List Operation) (operation : Operation) (len bytes : List ℕ) → bytes ≡ record_form operation → len ≡ to_be_bytes w32 (length bytes)
    → (frames seen ++ len) ++ bytes ≡ frames (seen ++ operation ∷ [])
frame_pushed seen operation len bytes is says =
    append_assoc (frames seen) len bytes
    ∙ ap (λ (l : List ℕ). frames seen ++ l) (ap (λ (l : List ℕ). l ++ bytes) says ∙ ap (λ (l : List ℕ). to_be_bytes w32 (length l) ++ l) is)
    ∙ frames_push seen operation

-- the bytes from a place on, as a slice of them
abbrev pub slice_from : ℕ → List ℕ → List ℕ
slice_from at bytes = take (length bytes - at) (drop at bytes)

rest_is : (at : ℕ) (bytes : List ℕ) → slice_from at bytes ≡ drop at bytes
rest_is at bytes = take_all (length bytes - at) (drop at bytes) (omega (arith, length-drop at bytes))

pub frame_within : (bytes : List ℕ) (at len : ℕ) → 4 + len ≤ length (slice_from at bytes) → at ≤ length bytes → at + (4 + len) ≤ length bytes
frame_within bytes at len within low = omega (arith, ap length (rest_is at bytes), length-drop at bytes, within, low)

-- one frame more of those at the front
pub frame_read : (bytes : List ℕ) (at len : ℕ) (operation : Operation) → 4 + len ≤ length (slice_from at bytes) → take 4 (slice_from at bytes) ≡ to_be_bytes w32 len
    → take ((at + 4 + len) - (at + 4)) (drop (at + 4) bytes) ≡ record_form operation → take (at + (4 + len)) bytes ≡ take at bytes ++ frame operation
frame_read bytes at len operation within_slice says_slice is =
    let rest : List ℕ = drop at bytes in
    let within : 4 + len ≤ length rest = subst (λ (l : List ℕ). 4 + len ≤ length l) (rest_is at bytes) within_slice in
    let says : take 4 rest ≡ to_be_bytes w32 len = ap (take 4) (sym (rest_is at bytes)) ∙ says_slice in
    let read : take len (drop 4 rest) ≡ record_form operation =
    ap (take len) (drop-drop 4 at bytes) ∙ ap (λ (n : ℕ). take n (drop (at + 4) bytes)) (omega arith) ∙ is in
    let long : len ≡ length (record_form operation) = sym (length-take-le len (drop 4 rest) (omega (arith, within, length-drop 4 rest))) ∙ ap length read in
    take_add at (4 + len) bytes
    ∙ ap (λ (l : List ℕ). take at bytes ++ l) (take_add 4 len rest ∙ ap (λ (l : List ℕ). l ++ take len (drop 4 rest)) (says ∙ ap (to_be_bytes w32) long) ∙ ap (λ (l : List ℕ). to_be_bytes w32 (length (record_form operation)) ++ l) read)

-- the frames of a page more
pub page_read : (front front' part bytes more left : List ℕ) (operations read : List Operation) (n : ℕ) → front' ≡ front ++ part → front ≡ frames operations ++ bytes → more ≡ bytes ++ part
    → take n more ≡ frames read → left ≡ drop n more → front' ≡ frames (operations ++ read) ++ left
page_read front front' part bytes more left operations read n grown was is whole rest =
    grown ∙ ap (λ (l : List ℕ). l ++ part) was ∙ append_assoc (frames operations) bytes part
    ∙ ap (λ (l : List ℕ). frames operations ++ l) (sym is ∙ sym (take-append-drop n more) ∙ ap (λ (l : List ℕ). l ++ drop n more) whole ∙ ap (λ (l : List ℕ). frames read ++ l) (sym rest))
    ∙ sym (append_assoc (frames operations) (frames read) left) ∙ ap (λ (l : List ℕ). l ++ left) (sym (frames_join operations read))

-- all frames, once nothing is left over
pub all_read : (front standing : List ℕ) (left : List ℕ) (operations : List Operation) → front ≡ standing → front ≡ frames operations ++ left → left ≡ [] → standing ≡ frames operations
all_read front standing left operations all is none = sym all ∙ is ∙ ap (λ (l : List ℕ). frames operations ++ l) none ∙ append-nil (frames operations)

-- ---- frames have one list of operations

behind_length : (operation : Operation) (rest : List ℕ) → drop 4 (frame operation ++ rest) ≡ record_form operation ++ rest
behind_length operation rest =
    ap (drop 4) (append_assoc (to_be_bytes w32 (length (record_form operation))) (record_form operation) rest)
    ∙ drop_at (to_be_bytes w32 (length (record_form operation))) (record_form operation ++ rest) 4 refl

no_frame : (operation : Operation) (rest : List ℕ) → [] ≡ frame operation ++ rest → ⊥
no_frame operation rest same = absurd (cc same)

pub one_list : (operations others : List Operation) → All IsOperation operations → All IsOperation others → frames operations ≡ frames others → operations ≡ others
unfolding frames
one_list [] [] h k same = refl
one_list [] (other ∷ others) h k same = absurd (no_frame other (frames others) same)
one_list (operation ∷ operations) [] h k same = absurd (no_frame operation (frames operations) (sym same))
one_list (operation ∷ operations) (other ∷ others) h k same =
    let parts = no_other operation other (frames operations) (frames others) (All-head IsOperation operation operations h) (All-head IsOperation other others k)
    (sym (behind_length operation (frames operations)) ∙ ap (drop 4) same ∙ behind_length other (frames others)) in
    let more = one_list operations others (All-tail IsOperation operation operations h) (All-tail IsOperation other others k) parts.1 in
    cc (parts.0, more)

-- what begins with frames goes on with those of the others
frames_alike : (others operations : List Operation) (rest : List ℕ) → All IsOperation others → All IsOperation operations → frames others ≡ frames operations ++ rest
    → (end : List Operation) × (rest ≡ frames end) × All IsOperation end
unfolding frames
frames_alike others [] rest h k same = (others, sym same, h)
frames_alike [] (operation ∷ operations) rest h k same = absurd (no_frame operation (frames operations ++ rest) (same ∙ append_assoc (frame operation) (frames operations) rest))
frames_alike (other ∷ others) (operation ∷ operations) rest h k same =
    let whole : frame other ++ frames others ≡ frame operation ++ (frames operations ++ rest) = same ∙ append_assoc (frame operation) (frames operations) rest in
    let parts = no_other other operation (frames others) (frames operations ++ rest) (All-head IsOperation other others h) (All-head IsOperation operation operations k)
    (sym (behind_length other (frames others)) ∙ ap (drop 4) whole ∙ behind_length operation (frames operations ++ rest)) in
    frames_alike others operations rest (All-tail IsOperation other others h) (All-tail IsOperation operation operations k) parts.1

-- ---- bytes that begin with no frame

begins_length : (operation : Operation) (rest : List ℕ) → take 4 (frame operation ++ rest) ≡ to_be_bytes w32 (length (record_form operation))
begins_length operation rest =
    ap (take 4) (append_assoc (to_be_bytes w32 (length (record_form operation))) (record_form operation) rest)
    ∙ take_at (to_be_bytes w32 (length (record_form operation))) (record_form operation ++ rest) 4 refl

-- the length that is told is that of the record
told : (operation : Operation) (rest bytes : List ℕ) (len : ℕ) → IsOperation operation → len < 2 ^ 32 → take 4 bytes ≡ to_be_bytes w32 len → take 4 bytes ≡ take 4 (frame operation ++ rest)
    → len ≡ length (record_form operation)
told operation rest bytes len is small says same =
    sym (from_be_bytes-to_be_bytes_4 len small) ∙ ap (from_be_bytes w32) (sym says ∙ same ∙ begins_length operation rest)
    ∙ from_be_bytes-to_be_bytes_4 (length (record_form operation)) (small_record operation is)

frame_long : (operation : Operation) (rest : List ℕ) → length (frame operation ++ rest) ≡ 4 + length (record_form operation) + length rest
frame_long operation rest =
    omega (arith, length-append (frame operation) rest, length-append (to_be_bytes w32 (length (record_form operation))) (record_form operation))

pub nothing_begins : BeginNone []
nothing_begins operation rest is same = absurd (no_frame operation rest same)

pub short_begins : (bytes : List ℕ) → length bytes < 4 → BeginNone bytes
short_begins bytes short operation rest is same = absurd (omega (arith, short, ap length same, frame_long operation rest))

pub part_begins : (bytes : List ℕ) (len : ℕ) → take 4 bytes ≡ to_be_bytes w32 len → len < 2 ^ 32 → length bytes < 4 + len → BeginNone bytes
part_begins bytes len says small short operation rest is same =
    let n = told operation rest bytes len is small says (ap (take 4) same) in
    absurd (omega (arith, n, short, ap length same, frame_long operation rest))

pub rest_begins : (at : ℕ) (bytes : List ℕ) → BeginNone (slice_from at bytes) → BeginNone (drop at bytes)
rest_begins at bytes none operation rest is same = none operation rest is (rest_is at bytes ∙ same)

-- ---- what no journal writes

again : (bytes : List ℕ) (operation : Operation) → IsOperation operation → bytes ≡ record_form operation → record_at bytes ≡ Ok (operation, [])
again bytes operation is same = ap record_at (same ∙ sym (append-nil (record_form operation))) ∙ record_again operation [] is

-- bytes that were refused as a record
pub refused_record : (fault : RecordFault) (bytes : List ℕ) → Fails fault (record_at bytes) → IsWrongRecord (fault_of_record fault) bytes
refused_record record_fault.Truncated bytes fails = λ operation is same. absurd (cc (fails, again bytes operation is same))
refused_record record_fault.UnknownKind bytes fails = λ operation is same. absurd (cc (fails, again bytes operation is same))
refused_record record_fault.Malformed bytes fails = λ operation is same. absurd (cc (fails, again bytes operation is same))
refused_record record_fault.NoMemory bytes fails = tt

-- a record, and more behind it
pub longer_record : (bytes rest : List ℕ) (one : Operation) → IsOperation one → bytes ≡ record_form one ++ rest → rest ≢ [] → IsWrongRecord Damaged bytes
longer_record bytes rest one fits found some operation is same =
    some (no_other one operation rest [] fits is (sym found ∙ same ∙ sym (append-nil (record_form operation)))).1

wrong_tail : (front tail more : List ℕ) (len : ℕ) (operations : List Operation) → front ≡ frames operations → All IsOperation operations → 4 + len ≤ length tail → take 4 tail ≡ to_be_bytes w32 len → len < 2 ^ 32
    → IsWrongRecord Damaged (take len (drop 4 tail)) → IsWrong Damaged ((front ++ tail) ++ more)
unfolding frames
wrong_tail front tail more len operations is fits within says small wrong others are same =
    let whole : frames others ≡ frames operations ++ (tail ++ more) = sym same ∙ append_assoc front tail more ∙ ap (λ (l : List ℕ). l ++ (tail ++ more)) is in
    let at = frames_alike others operations (tail ++ more) are fits whole in
    by at.0 at.1 at.2
  where
    by : (end : List Operation) → tail ++ more ≡ frames end → All IsOperation end → ⊥
    by [] rest all = absurd (omega (arith, within, ap length rest, length-append tail more))
    by (operation ∷ end) rest all =
        let one = All-head IsOperation operation end all in
        let n = told operation (frames end) tail len one small says (sym (take-append-le 4 tail more (omega (arith, within))) ∙ ap (take 4) rest) in
        let behind : drop 4 tail ++ more ≡ record_form operation ++ frames end = sym (drop-append-le 4 tail more (omega (arith, within))) ∙ ap (drop 4) rest ∙ behind_length operation (frames end) in
        wrong operation one
        (sym (take-append-le len (drop 4 tail) more (omega (arith, within, length-drop 4 tail))) ∙ ap (take len) behind ∙ take_at (record_form operation) (frames end) len (sym n))

-- a frame whose record is none
pub wrong_frame : (fault : ReadFault) (bytes more : List ℕ) (at len : ℕ) (operations : List Operation) → at ≤ length bytes → 4 + len ≤ length (slice_from at bytes)
    → take 4 (slice_from at bytes) ≡ to_be_bytes w32 len → len < 2 ^ 32 → take at bytes ≡ frames operations → All IsOperation operations
    → IsWrongRecord fault (take ((at + 4 + len) - (at + 4)) (drop (at + 4) bytes)) → IsWrong fault (bytes ++ more)
wrong_frame (Open fault) bytes more at len operations low within says small is fits wrong = wrong
wrong_frame Damaged bytes more at len operations low within says small is fits wrong =
    let rest : List ℕ = drop at bytes in
    let record_is : take len (drop 4 rest) ≡ take ((at + 4 + len) - (at + 4)) (drop (at + 4) bytes) =
    ap (take len) (drop-drop 4 at bytes) ∙ ap (λ (n : ℕ). take n (drop (at + 4) bytes)) (omega arith) in
    subst (λ (l : List ℕ). IsWrong Damaged (l ++ more)) (take-append-drop at bytes)
    (wrong_tail (take at bytes) rest more len operations is fits (subst (λ (l : List ℕ). 4 + len ≤ length l) (rest_is at bytes) within) (ap (take 4) (sym (rest_is at bytes)) ∙ says) small
    (λ operation one same. wrong operation one (sym record_is ∙ same)))
wrong_frame NoMemory bytes more at len operations low within says small is fits wrong = tt
wrong_frame (Disk e) bytes more at len operations low within says small is fits wrong = tt

-- behind frames as well
pub wrong_behind : (fault : ReadFault) (stream rest : List ℕ) (operations : List Operation) → stream ≡ frames operations ++ rest → All IsOperation operations → IsWrong fault rest → IsWrong fault stream
wrong_behind (Open fault) stream rest operations is fits wrong = wrong
wrong_behind Damaged stream rest operations is fits wrong = λ others are same.
    let at = frames_alike others operations rest are fits (sym same ∙ is) in
    wrong at.0 at.2 at.1
wrong_behind NoMemory stream rest operations is fits wrong = tt
wrong_behind (Disk e) stream rest operations is fits wrong = tt

-- and in a page of more
pub wrong_page : (fault : ReadFault) (front front' part bytes more given standing behind : List ℕ) (operations : List Operation) → front' ≡ front ++ part → front ≡ frames operations ++ bytes → more ≡ bytes ++ part → given ≡ more
    → standing ≡ front' ++ behind → All IsOperation operations → IsWrong fault (given ++ behind) → IsWrong fault standing
wrong_page fault front front' part bytes more given standing behind operations grown was is same whole fits wrong =
    let page : front' ≡ frames operations ++ given =
    grown ∙ ap (λ (l : List ℕ). l ++ part) was ∙ append_assoc (frames operations) bytes part ∙ ap (λ (l : List ℕ). frames operations ++ l) (sym is ∙ sym same) in
    wrong_behind fault standing (given ++ behind) operations (whole ∙ ap (λ (l : List ℕ). l ++ behind) page ∙ append_assoc (frames operations) given behind) fits wrong

-- something is left over
pub some_left : (items : List ℕ) (n : ℕ) → (n == 0) ≡ false → n ≡ length items → items ≢ []
some_left items n some long none = let zero : n ≡ 0 = long ∙ ap length none in absurd (cc (subst (λ (k : ℕ). (k == 0) ≡ false) zero some))

-- what is left over and begins with no frame
pub wrong_end : (rest : List ℕ) → rest ≢ [] → BeginNone rest → IsWrong Damaged rest
unfolding frames
wrong_end rest some none [] are same = some same
wrong_end rest some none (operation ∷ operations) are same = none operation (frames operations) (All-head IsOperation operation operations are) same

pub wrong_error : (e : Error) (stream : List ℕ) → IsWrong (fault_of e) stream
wrong_error (Io e) stream = tt
wrong_error OutOfMemory stream = tt
wrong_error Closed stream = tt
wrong_error NoSuchPage stream = tt
wrong_error Full stream = tt
wrong_error Corrupt stream = tt
wrong_error Exists stream = tt

-- files whose stream was refused
pub explained : (fault : ReadFault) (image : Image) (stream : List ℕ) → StandsForStream image stream → IsWrong fault stream → Explains fault image
explained (Open fault) image stream stands wrong = absurd wrong
explained Damaged image stream stands wrong = (stream, stands, wrong)
explained NoMemory image stream stands wrong = tt
explained (Disk e) image stream stands wrong = tt

pub stands_for_none : (fault : ReadFault) (image : Image) (stream : List ℕ) (operations : List Operation) → StandsForStream image stream → IsWrong fault stream → IsRefusal fault → All IsOperation operations
    → ¬ StandsForStream image (frames operations)
stands_for_none (Open fault) image stream operations stands wrong refusal are other = wrong
stands_for_none Damaged image stream operations stands wrong refusal are other = wrong operations are (one_image image stream (frames operations) stands other)
stands_for_none NoMemory image stream operations stands wrong refusal are other = refusal
stands_for_none (Disk e) image stream operations stands wrong refusal are other = refusal

-- where only operations stand, nothing is wrong with their frames
pub none_wrong : (fault : ReadFault) (operations : List Operation) → IsWrong fault (frames operations) → IsRefusal fault → ¬ All IsOperation operations
none_wrong (Open fault) operations wrong refusal are = wrong
none_wrong Damaged operations wrong refusal are = wrong operations are refl
none_wrong NoMemory operations wrong refusal are = refusal
none_wrong (Disk e) operations wrong refusal are = refusal

pub one_list_of : OneList
one_list_of image operations others h k stands other = one_list operations others h k (one_image image (frames operations) (frames others) stands other)

-- ---- lists of operations, and of their frames

mapped : (lists : List (List Operation)) (operations : List Operation) → Contains lists operations → Contains (map frames lists) (frames operations)
mapped lists operations here = (here.0, omega (arith, here.1, length-map lists frames), get_or-map frames lists here.0 operations ∙ ap frames here.2)

from_mapped : (lists : List (List Operation)) (bytes : List ℕ) (k : ℕ) → k < length (map frames lists) → get_or (map frames lists) k bytes ≡ bytes
    → (operations : List Operation) × Contains lists operations × (frames operations ≡ bytes)
from_mapped [] bytes k lt is = absurd (omega (arith, lt))
from_mapped (operations ∷ lists) bytes zero lt is = (operations, (0, omega arith, refl), is)
from_mapped (operations ∷ lists) bytes (suc k) lt is =
    let more = from_mapped lists bytes k (omega (arith, lt)) is in
    (more.0, (suc more.1.0, omega (arith, more.1.1), more.1.2), more.2)

pub each_mapped : (outcomes : Image → Type 0) (lists : List (List Operation)) → EachStandsForOne outcomes lists → EachStream outcomes (map frames lists)
each_mapped outcomes lists each left may = let at = each left may in (frames at.0, mapped lists at.0 at.1, at.2)

pub each_from_mapped : (outcomes : Image → Type 0) (lists : List (List Operation)) → EachStream outcomes (map frames lists) → EachStandsForOne outcomes lists
each_from_mapped outcomes lists each left may =
    let at = each left may in
    let found = from_mapped lists at.0 at.1.0 at.1.1 at.1.2 in
    (found.0, found.1, subst (λ (s : List ℕ). StandsForStream left s) (sym found.2) at.2)
