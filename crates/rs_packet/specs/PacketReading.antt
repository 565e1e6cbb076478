-- Which answer the bytes of a packet get: the first fault, from left to right.
use Rattle.std.specs.Prelude.{ℕ, zero, suc, ◌+◌, ◌-◌, ◌/◌, ◌%◌, Bool, true, false, ◌&&◌, not, nat_lt, nat_eq, ◌==◌, if◌then◌else◌, List, [], ◌∷◌, length, take, slice_range, Option, Some, None, Result, Ok, Err, is_none}
use Rattle.std.specs.List.{list_any, find}
use Rattle.std.specs.Str.{bytes_eq}
use Rattle.std.specs.Int.{w16}
use Rattle.rs_packet_field.specs.declared.fault.PacketFault.{PacketFault}
use Rattle.rs_packet_field.specs.declared.fault.PacketFault.TheVariants.{Malformed, Protocol, TooLarge, Version}
use Rattle.rs_packet_field.specs.declared.varint.VarintFault.{VarintFault}
use Rattle.rs_packet_field.specs.declared.varint.VarintFault.TheVariants.{Short, Bad}
use Rattle.rs_packet_property.specs.declared.property.PropertyOwner.{PropertyOwner}
use Rattle.rs_packet_property.specs.declared.property.PropertyOwner.TheVariants as owner
use Rattle.rs_message.specs.declared.qos.Qos.{Qos}
use Rattle.rs_message.specs.declared.qos.Qos.TheVariants.{AtMostOnce, AtLeastOnce, ExactlyOnce}
use Rattle.rs_packet.specs.declared.packet.RetainHandling.{RetainHandling}
use Rattle.rs_packet.specs.declared.packet.RetainHandling.TheVariants.{Always, IfNew, Never}
use Rattle.rs_packet.specs.declared.packet.Options.{Options}
use Rattle.rs_packet.specs.declared.header.Header.{Header}
use Rattle.rs_packet.specs.declared.packet.PacketKind.{PacketKind}
use Rattle.rs_packet.specs.declared.packet.PacketKind.TheVariants as kind
use Rattle.rs_packet.specs.declared.packet.Publish.{Publish}
use Rattle.rs_packet.specs.declared.packet.Acknowledgement.{Acknowledgement}
use Rattle.rs_packet.specs.declared.packet.Connect.{Connect}
use Rattle.rs_packet.specs.declared.packet.ConnectFlags.{ConnectFlags}
use Rattle.rs_packet.specs.declared.packet.Packet.{Packet}
use Rattle.rs_packet.specs.declared.packet.Packet.TheVariants as packet
use Rattle.rs_packet.specs.declared.packet.Decoded.{Decoded}
use Rattle.rs_packet.specs.declared.packet.Decoded.TheVariants.{Whole, More}
use Rattle.rs_topic.specs.Topics.{filter_of}
use Rattle.rs_packet.specs.Values.{SubscribeValue, UnsubscribeValue, Asked, Filter}
use Rattle.rs_message.specs.declared.limits.TheConstants.{MAX_PACKET_SIZE}
use Rattle.rs_packet.specs.Grammar.{head, publication}
pub use Rattle.rs_packet_field.specs.Reading.{◌>>=◌, Fails, Gives, GivesNumber}
use Rattle.rs_packet_field.specs.Reading.{digits_at, byte_at, number_at, binary_at, text_at, wanting, values_at}

-- ---- the first byte

abbrev pub kinds : List PacketKind
kinds =
    kind.Connect
    ∷ kind.Publish false AtMostOnce false ∷ kind.Publish false AtMostOnce true
    ∷ kind.Publish false AtLeastOnce false ∷ kind.Publish false AtLeastOnce true
    ∷ kind.Publish false ExactlyOnce false ∷ kind.Publish false ExactlyOnce true
    ∷ kind.Publish true AtLeastOnce false ∷ kind.Publish true AtLeastOnce true
    ∷ kind.Publish true ExactlyOnce false ∷ kind.Publish true ExactlyOnce true
    ∷ kind.Puback ∷ kind.Pubrec ∷ kind.Pubrel ∷ kind.Pubcomp ∷ kind.Subscribe ∷ kind.Unsubscribe ∷ kind.Pingreq ∷ kind.Disconnect ∷ []

-- the first bytes of CONNACK, SUBACK, UNSUBACK, PINGRESP and AUTH, which a client may not send here
abbrev pub others : List ℕ
others = 0x20 ∷ 0x90 ∷ 0xB0 ∷ 0xD0 ∷ 0xF0 ∷ []

abbrev pub kind_or : Option PacketKind → ℕ → Result PacketKind PacketFault
kind_or (Some k) first = Ok k
kind_or None first = if list_any (nat_eq first) others then Err Protocol else Err Malformed

unfoldable pub kind_of : ℕ → Result PacketKind PacketFault
kind_of first = kind_or (find (λ k. head k == first) kinds) first

-- ---- the bodies

unfoldable pub id_at : List ℕ → Result (ℕ × List ℕ) PacketFault
id_at bytes = number_at w16 bytes >>= λ n. wanting (nat_lt 0 n.0) (n.0, n.1)

abbrev pub id_for : Qos → List ℕ → Result (Option ℕ × List ℕ) PacketFault
id_for AtMostOnce bytes = Ok (None, bytes)
id_for AtLeastOnce bytes = id_at bytes >>= λ n. Ok (Some n.0, n.1)
id_for ExactlyOnce bytes = id_at bytes >>= λ n. Ok (Some n.0, n.1)

unfoldable pub publish_at : Bool → Qos → Bool → List ℕ → Result Publish PacketFault
publish_at duplicate qos retain body = do
  topic ← text_at body
  id ← id_for qos topic.1
  f ← values_at owner.Publish id.1
  Ok (publication duplicate qos retain topic.0 id.0 f.0 f.1)

-- nothing may be left
abbrev pub ended : {A : Type 0} → A → List ℕ → Result A PacketFault
ended x [] = Ok x
ended x (b ∷ bytes) = Err Malformed

unfoldable pub code_at : PropertyOwner → List ℕ → Result ℕ PacketFault
code_at where_ [] = Ok 0
code_at where_ (code ∷ []) = Ok code
code_at where_ (code ∷ b ∷ bytes) = do
  f ← values_at where_ (b ∷ bytes)
  ended code f.1

unfoldable pub acknowledgement_at : List ℕ → Result Acknowledgement PacketFault
acknowledgement_at body = do
  id ← id_at body
  code ← code_at owner.Acknowledgement id.1
  Ok (record { id = id.0; code = code })

abbrev pub qos_of : ℕ → Qos
qos_of n = if n == 0 then AtMostOnce else (if n == 1 then AtLeastOnce else ExactlyOnce)

abbrev pub handling_of : ℕ → RetainHandling
handling_of n = if n == 0 then Always else (if n == 1 then IfNew else Never)

unfoldable pub options_of : ℕ → Result Options PacketFault
options_of b =
    if not (nat_lt b 64) then Err Malformed
    else (if b % 4 == 3 then Err Protocol
    else (if b / 16 == 3 then Err Protocol
    else Ok (record {
      qos = qos_of (b % 4);
      no_local = b / 4 % 2 == 1;
      retain_as_published = b / 8 % 2 == 1;
      retain_handling = handling_of (b / 16);
    })))

unfoldable pub asked_at : List ℕ → Result (Asked × List ℕ) PacketFault
asked_at bytes = do
  t ← text_at bytes
  b ← byte_at t.1
  o ← options_of b.0
  Ok ((filter_of t.0, o), b.1)

-- one after another until no byte is left, of which there are at most n
unfoldable pub all_in : {A : Type 0} → (List ℕ → Result (A × List ℕ) PacketFault) → ℕ → List ℕ → Result (List A) PacketFault
all_in read n [] = Ok []
all_in read zero (b ∷ bytes) = Err Malformed
all_in read (suc n) (b ∷ bytes) = do
  a ← read (b ∷ bytes)
  more ← all_in read n a.1
  Ok (a.0 ∷ more)

-- 3.8.3, 3.10.3: one filter at least
abbrev pub some_of : {A : Type 0} → (List ℕ → Result (A × List ℕ) PacketFault) → List ℕ → Result (List A) PacketFault
some_of read bytes = if length bytes == 0 then Err Protocol else all_in read (length bytes) bytes

unfoldable pub subscribe_at : List ℕ → Result SubscribeValue PacketFault
subscribe_at body = do
  id ← id_at body
  f ← values_at owner.Subscribe id.1
  filters ← some_of asked_at f.1
  Ok (record { id = id.0; subscription = f.0.subscription; filters = filters })

unfoldable pub filter_at : List ℕ → Result (Filter × List ℕ) PacketFault
filter_at bytes = text_at bytes >>= λ t. Ok (filter_of t.0, t.1)

unfoldable pub unsubscribe_at : List ℕ → Result UnsubscribeValue PacketFault
unsubscribe_at body = do
  id ← id_at body
  f ← values_at owner.Unsubscribe id.1
  filters ← some_of filter_at f.1
  Ok (record { id = id.0; filters = filters })

-- "MQTT"
abbrev pub mqtt : List ℕ
mqtt = 77 ∷ 81 ∷ 84 ∷ 84 ∷ []

unfoldable pub flags_of : ℕ → Result ConnectFlags PacketFault
flags_of b =
    if b % 2 == 1 then Err Malformed
    else (if b / 8 % 4 == 3 then Err Malformed
    else (if (b / 4 % 2 == 0) && not (b / 8 % 8 == 0) then Err Malformed
    else Ok (record {
      user_name = b / 128 == 1;
      password = b / 64 % 2 == 1;
      will_retain = b / 32 % 2 == 1;
      will_qos = qos_of (b / 8 % 4);
      will = b / 4 % 2 == 1;
      clean_start = b / 2 % 2 == 1;
    })))

-- a field that a flag announces, which is skipped
abbrev pub past_text : Bool → List ℕ → Result (List ℕ) PacketFault
past_text false bytes = Ok bytes
past_text true bytes = text_at bytes >>= λ t. Ok t.1

abbrev pub past_binary : Bool → List ℕ → Result (List ℕ) PacketFault
past_binary false bytes = Ok bytes
past_binary true bytes = binary_at bytes >>= λ t. Ok t.1

-- the client identifier, unless a will ends the reading
unfoldable pub client_at : ConnectFlags → List ℕ → Result (Option (List ℕ)) PacketFault
client_at f bytes =
    if f.will then Ok None
    else (text_at bytes >>= λ client. past_text f.user_name client.1 >>= λ name. past_binary f.password name >>= λ rest.
    ended (Some client.0) rest)

-- nothing after another name or another version is read
unfoldable pub version_at : List ℕ → Result (List ℕ) PacketFault
version_at body = do
  name ← text_at body
  version ← (if bytes_eq name.0 mqtt then byte_at name.1 else Err Version)
  if version.0 == 5 then Ok version.1 else Err Version

unfoldable pub connect_at : List ℕ → Result Connect PacketFault
connect_at body = do
  rest ← version_at body
  b ← byte_at rest
  flags ← flags_of b.0
  keep_alive ← number_at w16 b.1
  f ← values_at owner.Connect keep_alive.1
  found ← (if f.0.authentication && is_none f.0.method then Err Protocol else Ok f.0)
  client ← client_at flags f.1
  Ok (record {
    clean_start = flags.clean_start;
    will = flags.will;
    keep_alive = keep_alive.0;
    session_expiry = found.session_expiry;
    method = found.method;
    receive_maximum = found.receive_maximum;
    packet_maximum = found.packet_maximum;
    client = client;
  })

unfoldable pub packet_at : PacketKind → List ℕ → Result Packet PacketFault
packet_at kind.Connect body = connect_at body >>= λ c. Ok (packet.Connect c)
packet_at (kind.Publish duplicate qos retain) body = publish_at duplicate qos retain body >>= λ p. Ok (packet.Publish p)
packet_at kind.Puback body = acknowledgement_at body >>= λ a. Ok (packet.Puback a)
packet_at kind.Pubrec body = acknowledgement_at body >>= λ a. Ok (packet.Pubrec a)
packet_at kind.Pubrel body = acknowledgement_at body >>= λ a. Ok (packet.Pubrel a)
packet_at kind.Pubcomp body = acknowledgement_at body >>= λ a. Ok (packet.Pubcomp a)
packet_at kind.Subscribe body = subscribe_at body >>= λ s. Ok (packet.Subscribe s)
packet_at kind.Unsubscribe body = unsubscribe_at body >>= λ u. Ok (packet.Unsubscribe u)
packet_at kind.Pingreq body = ended packet.Pingreq body
packet_at kind.Disconnect body = code_at owner.Disconnect body >>= λ code. Ok (packet.Disconnect code)

-- ---- the whole

-- a packet whose header takes `before` bytes and says the length n; `rest` is what follows
abbrev pub body_at : PacketKind → ℕ → ℕ → List ℕ → Result Decoded PacketFault
body_at k before n rest =
    if nat_lt MAX_PACKET_SIZE (before + n) then Err TooLarge
    else (if nat_lt (length rest) n then Ok More
    else (packet_at k (take n rest) >>= λ p. Ok (Whole p (before + n))))

-- 2.1: the header, by the kind of the packet, the bytes after the first one, and the length that they begin with
abbrev pub header_in : PacketKind → List ℕ → Result (ℕ × List ℕ) VarintFault → Result (Option Header) PacketFault
header_in k bytes (Err Short) = Ok None
header_in k bytes (Err Bad) = Err Malformed
header_in k bytes (Ok n) = let start = suc (length bytes) - length n.1 in
    if nat_lt MAX_PACKET_SIZE (start + n.0) then Err TooLarge else Ok (Some (record { kind = k; start = start; size = start + n.0 }))

-- the header that some bytes begin with, if they have all of it
unfoldable pub header_at : List ℕ → Result (Option Header) PacketFault
header_at [] = Ok None
header_at (first ∷ bytes) = do
  k ← kind_of first
  header_in k bytes (digits_at 4 bytes)

-- the packet with this header, or More if the bytes end before it does
abbrev pub packet_in : List ℕ → Header → Result Decoded PacketFault
packet_in bytes h = if nat_lt (length bytes) h.size then Ok More
    else (packet_at h.kind (slice_range bytes h.start h.size) >>= λ p. Ok (Whole p h.size))

abbrev pub sized : PacketKind → List ℕ → Result (ℕ × List ℕ) VarintFault → Result Decoded PacketFault
sized k bytes (Err Short) = Ok More
sized k bytes (Err Bad) = Err Malformed
sized k bytes (Ok n) = body_at k (suc (length bytes) - length n.1) n.0 n.1

unfoldable pub answer : List ℕ → Result Decoded PacketFault
answer [] = Ok More
answer (first ∷ bytes) = do
  k ← kind_of first
  sized k bytes (digits_at 4 bytes)
