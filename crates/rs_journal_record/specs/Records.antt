-- An operation as bytes, and back.
use Rattle.std.specs.Prelude.{ℕ, zero, suc, ◌<◌, ◌^◌, ◌==◌, ◌&&◌, not, nat_le, Bool, if◌then◌else◌, List, [], ◌∷◌, ◌++◌, length, Option, Some, None, Result, Ok, Err, IfSome}
use Rattle.std.specs.Int.{w32, w64}
use Rattle.std.specs.List.{flat_map}
use Rattle.rs_topic.specs.declared.text.TopicFault.{TopicFault}
use Rattle.rs_topic.specs.Topics.{name_of}
use Rattle.rs_topic.specs.Meanings.{IsTopicName}
use Rattle.rs_packet_property.specs.Forms.{four, counted}
use Rattle.rs_packet_property.specs.Values.{PropertiesValue}
use Rattle.rs_message.specs.Values.{MessageValue}
use Rattle.rs_message.specs.Sizes.{level, message_size}
use Rattle.rs_message.specs.Messages.{IsMessage, set_of}
use Rattle.rs_message.specs.declared.limits.TheConstants.{MAX_PACKET_SIZE}
use Rattle.rs_message.specs.declared.qos.Qos.{Qos}
use Rattle.rs_message.specs.declared.qos.Qos.TheVariants.{AtMostOnce, AtLeastOnce, ExactlyOnce}
use Rattle.rs_message.specs.declared.entry.Operation.{Operation}
use Rattle.rs_message.specs.declared.entry.Operation.TheVariants.{Set, Clear, Sweep}
use Rattle.rs_packet_field.specs.Reading.{◌>>=◌, byte_at, number_at, part_at}
use Rattle.rs_journal_record.specs.declared.fault.RecordFault.{RecordFault}
use Rattle.rs_journal_record.specs.declared.fault.RecordFault.TheVariants.{Truncated, UnknownKind}
use Rattle.rs_journal_record.specs.Fields.{eight, maybe, or_cut_off, or_malformed, text_at, maybe_at}
use Rattle.rs_journal_record.specs.Properties.{properties_form, properties_at, HaveForms}

-- ---- as bytes

-- four bytes of length, and that many bytes
abbrev pub payload_form : List ℕ → List ℕ
payload_form payload = four (length payload) ++ payload

-- with the moment at which it came, and its interval
abbrev pub message_form : MessageValue → List ℕ
message_form m = level m.qos ∷ eight m.received ++ maybe four m.expiry ++ properties_form m.properties ++ payload_form m.payload

-- the kind of operation, and what it is on
abbrev pub record_form : Operation → List ℕ
record_form (Set found) = 1 ∷ counted found.topic ++ message_form found.message
record_form (Clear topic) = 2 ∷ counted topic
record_form (Sweep moment) = 3 ∷ eight moment

-- one after the other
abbrev pub records : List Operation → List ℕ
records = flat_map record_form

-- what its types promise of a message
pub record IsKept (m : MessageValue) : Type 0 where
  pub message : IsMessage m
  pub properties : HaveForms m.properties
  pub moment : m.received < 2 ^ 64
  pub interval : IfSome m.expiry (λ n. n < 2 ^ 32)

-- what its types promise of an operation
abbrev pub IsOperation : Operation → Type 0
IsOperation (Set found) = IsTopicName found.topic × IsKept found.message
IsOperation (Clear topic) = IsTopicName topic
IsOperation (Sweep moment) = moment < 2 ^ 64

-- ---- back: a value, and the bytes after it

abbrev pub qos_of : ℕ → Option Qos
qos_of n = if n == 0 then Some AtMostOnce else (if n == 1 then Some AtLeastOnce else (if n == 2 then Some ExactlyOnce else None))

unfoldable pub qos_at : List ℕ → Result (Qos × List ℕ) RecordFault
qos_at bytes = or_cut_off (byte_at bytes) >>= λ n. or_malformed (qos_of n.0) n.1

abbrev pub as_name : Result (List ℕ) TopicFault → Option (List ℕ)
as_name (Ok name) = Some name
as_name (Err fault) = None

unfoldable pub name_at : List ℕ → Result (List ℕ × List ℕ) RecordFault
name_at bytes = text_at bytes >>= λ t. or_malformed (as_name (name_of t.0)) t.1

-- a payload, which with the properties takes no more bytes than a packet may have
abbrev pub is_fit : MessageValue → Bool
is_fit m = not (length m.payload == 0) && nat_le (message_size m.expiry m.properties m.payload) MAX_PACKET_SIZE

abbrev pub message_of : Qos → ℕ → Option ℕ → PropertiesValue → List ℕ → MessageValue
message_of qos received expiry properties payload = record { payload = payload; qos = qos; received = received; expiry = expiry; properties = properties }

abbrev pub as_message : MessageValue → Option MessageValue
as_message m = if is_fit m then Some m else None

unfoldable pub payload_at : List ℕ → Result (List ℕ × List ℕ) RecordFault
payload_at bytes = or_cut_off (number_at w32 bytes) >>= λ n. or_cut_off (part_at n.0 n.1)

unfoldable pub message_at : List ℕ → Result (MessageValue × List ℕ) RecordFault
message_at bytes =
    qos_at bytes >>= λ q. or_cut_off (number_at w64 q.1) >>= λ t. maybe_at (λ b. or_cut_off (number_at w32 b)) t.1 >>= λ e. properties_at e.1 >>= λ f.
    payload_at f.1 >>= λ p. or_malformed (as_message (message_of q.0 t.0 e.0 f.0 p.0)) p.1

unfoldable pub set_at : List ℕ → Result (Operation × List ℕ) RecordFault
set_at bytes = name_at bytes >>= λ t. message_at t.1 >>= λ m. Ok (set_of t.0 m.0, m.1)

unfoldable pub clear_at : List ℕ → Result (Operation × List ℕ) RecordFault
clear_at bytes = name_at bytes >>= λ t. Ok (Clear t.0, t.1)

unfoldable pub sweep_at : List ℕ → Result (Operation × List ℕ) RecordFault
sweep_at bytes = or_cut_off (number_at w64 bytes) >>= λ t. Ok (Sweep t.0, t.1)

abbrev pub of_kind : ℕ → List ℕ → Result (Operation × List ℕ) RecordFault
of_kind n rest = if n == 1 then set_at rest else (if n == 2 then clear_at rest else (if n == 3 then sweep_at rest else Err UnknownKind))

unfoldable pub record_at : List ℕ → Result (Operation × List ℕ) RecordFault
record_at bytes = or_cut_off (byte_at bytes) >>= λ n. of_kind n.0 n.1

-- all of the bytes, of which there are at most n
unfoldable pub records_in : ℕ → List ℕ → Result (List Operation) RecordFault
records_in n [] = Ok []
records_in zero (b ∷ bytes) = Err Truncated
records_in (suc n) (b ∷ bytes) = record_at (b ∷ bytes) >>= λ x. records_in n x.1 >>= λ more. Ok (x.0 ∷ more)

abbrev pub records_at : List ℕ → Result (List Operation) RecordFault
records_at bytes = records_in (length bytes) bytes
