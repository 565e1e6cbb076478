-- The fields of a record as bytes, and back: the basic forms of the wire (1.5), integers of eight bytes, and values that may be absent.
use Rattle.std.specs.Prelude.{◌≡◌, ℕ, Bool, true, false, ◌==◌, if◌then◌else◌, List, [], ◌∷◌, Option, Some, None, Result, Ok, Err}
use Rattle.std.specs.Int.{w64, to_be_bytes}
use Rattle.rs_topic.specs.Texts.{reads_as_text}
use Rattle.rs_packet_field.specs.declared.fault.PacketFault.{PacketFault}
use Rattle.rs_packet_field.specs.declared.fault.PacketFault.TheVariants as packet
use Rattle.rs_packet_field.specs.Reading.{◌>>=◌, byte_at, binary_at}
use Rattle.rs_journal_record.specs.declared.fault.RecordFault.{RecordFault}
use Rattle.rs_journal_record.specs.declared.fault.RecordFault.TheVariants.{Truncated, UnknownKind, Malformed, NoMemory}

-- ---- as bytes

abbrev pub single : ℕ → List ℕ
single n = n ∷ []

abbrev pub eight : ℕ → List ℕ
eight n = to_be_bytes w64 n

-- 0 for no value, or 1 and the form of the value
abbrev pub maybe : {A : Type 0} → (A → List ℕ) → Option A → List ℕ
maybe form None = 0 ∷ []
maybe form (Some x) = 1 ∷ form x

-- ---- back: a value, and the bytes after it

-- What a function returned is what reading gives, unless memory was refused.
abbrev pub Fails : {Y : Type 0} → RecordFault → Result Y RecordFault → Type 0
Fails NoMemory read = Unit {0}
Fails Truncated read = read ≡ Err Truncated
Fails UnknownKind read = read ≡ Err UnknownKind
Fails Malformed read = read ≡ Err Malformed

abbrev pub Gives : {X Y : Type 0} → (X → Y) → Result X RecordFault → Result Y RecordFault → Type 0
Gives view (Ok x) read = read ≡ Ok (view x)
Gives view (Err fault) read = Fails fault read

-- Integers, binary data and parts of a given length have a fault only where the bytes end.
abbrev pub cut_off : PacketFault → RecordFault
cut_off packet.NoMemory = NoMemory
cut_off packet.Malformed = Truncated
cut_off packet.Protocol = Truncated
cut_off packet.TooLarge = Truncated
cut_off packet.Version = Truncated

abbrev pub or_cut_off : {A : Type 0} → Result A PacketFault → Result A RecordFault
or_cut_off (Ok x) = Ok x
or_cut_off (Err fault) = Err (cut_off fault)

-- a value, or the fault of a field whose value no record has
abbrev pub or_malformed : {A : Type 0} → Option A → List ℕ → Result (A × List ℕ) RecordFault
or_malformed (Some x) rest = Ok (x, rest)
or_malformed None rest = Err Malformed

abbrev pub text_of : List ℕ → Option (List ℕ)
text_of bytes = if reads_as_text bytes then Some bytes else None

unfoldable pub text_at : List ℕ → Result (List ℕ × List ℕ) RecordFault
text_at bytes = or_cut_off (binary_at bytes) >>= λ t. or_malformed (text_of t.0) t.1

abbrev pub flag_of : ℕ → Option Bool
flag_of n = if n == 0 then Some false else (if n == 1 then Some true else None)

unfoldable pub flag_at : List ℕ → Result (Bool × List ℕ) RecordFault
flag_at bytes = or_cut_off (byte_at bytes) >>= λ n. or_malformed (flag_of n.0) n.1

unfoldable pub maybe_at : {A : Type 0} → (List ℕ → Result (A × List ℕ) RecordFault) → List ℕ → Result (Option A × List ℕ) RecordFault
maybe_at at bytes = flag_at bytes >>= λ flag. if flag.0 then (at flag.1 >>= λ x. Ok (Some x.0, x.1)) else Ok (None, flag.1)
