-- Reading from left to right, and the first fault that is met.
use Rattle.std.specs.Prelude.{◌≡◌, ℕ, zero, suc, ◌+◌, ◌-◌, ◌*◌, ◌≤◌, Bool, true, false, ◌||◌, not, nat_lt, ◌==◌, if◌then◌else◌, List, [], ◌∷◌, length, take, drop, Option, Some, None, slice_index_or, slice_set, Result, Ok, Err}
use Rattle.std.specs.List.{find}
use Rattle.std.specs.Int.{Width, w16, w32, byte_len, from_be_bytes}
use Rattle.rs_packet_field.specs.declared.fault.PacketFault.{PacketFault}
use Rattle.rs_packet_field.specs.declared.fault.PacketFault.TheVariants.{Malformed, Protocol, TooLarge, Version, NoMemory}
use Rattle.rs_packet_field.specs.declared.varint.VarintFault.{VarintFault}
use Rattle.rs_packet_field.specs.declared.varint.VarintFault.TheVariants.{Short, Bad}
use Rattle.rs_packet_property.specs.declared.property.Identifier.{Identifier}
use Rattle.rs_packet_property.specs.declared.property.Identifier.TheVariants as id
use Rattle.rs_packet_property.specs.declared.property.Property.{Property}
use Rattle.rs_packet_property.specs.declared.property.Property.TheVariants as property
use Rattle.rs_packet_property.specs.declared.property.PropertyOwner.{PropertyOwner}
use Rattle.rs_packet_property.specs.declared.property.PropertyOwner.TheVariants as owner
use Rattle.rs_topic.specs.Texts.{reads_as_text}
use Rattle.rs_topic.specs.Topics.{is_plain}
use Rattle.rs_packet_property.specs.Properties.{number, identifier, identifier_of, may_stand, may_repeat, none_yet, nothing, collected}
use Rattle.rs_packet_property.specs.Values.{PacketProperties}

infixl 10 ◌>>=◌
abbrev pub ◌>>=◌ : {A B E : Type 0} → Result A E → (A → Result B E) → Result B E
(Ok x) >>= f = f x
(Err e) >>= f = Err e

-- What a function returned is what reading gives, unless memory was refused.
abbrev pub Fails : {Y : Type 0} → PacketFault → Result Y PacketFault → Type 0
Fails NoMemory read = Unit {0}
Fails Malformed read = read ≡ Err Malformed
Fails Protocol read = read ≡ Err Protocol
Fails TooLarge read = read ≡ Err TooLarge
Fails Version read = read ≡ Err Version

abbrev pub Gives : {X Y : Type 0} → (X → Y) → Result X PacketFault → Result Y PacketFault → Type 0
Gives view (Ok x) read = read ≡ Ok (view x)
Gives view (Err e) read = Fails e read

abbrev pub GivesNumber : {X Y : Type 0} → (X → Y) → Result X VarintFault → Result Y VarintFault → Type 0
GivesNumber view (Ok x) read = read ≡ Ok (view x)
GivesNumber view (Err e) read = read ≡ Err e

-- what is left is an end of the bytes
pub record IsEnd (rest bytes : List ℕ) : Type 0 where
  pub short : length rest ≤ length bytes
  pub same : drop (length bytes - length rest) bytes ≡ rest

-- ---- the basic forms: a value, and the bytes after it

-- at most n bytes of a number: Short if it goes on past the end, Bad if it has no such form
unfoldable pub digits_at : ℕ → List ℕ → Result (ℕ × List ℕ) VarintFault
digits_at zero bytes = Err Bad
digits_at (suc n) [] = Err Short
digits_at (suc n) (b ∷ bytes) =
    if nat_lt b 128 then Ok (b, bytes)
    else (digits_at n bytes >>= λ high. if high.0 == 0 then Err Bad else Ok (b - 128 + 128 * high.0, high.1))

abbrev pub within : {A : Type 0} → Result A VarintFault → Result A PacketFault
within (Ok x) = Ok x
within (Err c) = Err Malformed

unfoldable pub varint_at : List ℕ → Result (ℕ × List ℕ) PacketFault
varint_at bytes = within (digits_at 4 bytes)

abbrev pub byte_at : List ℕ → Result (ℕ × List ℕ) PacketFault
byte_at [] = Err Malformed
byte_at (b ∷ bytes) = Ok (b, bytes)

abbrev pub number_at : Width → List ℕ → Result (ℕ × List ℕ) PacketFault
number_at w bytes = if nat_lt (length bytes) (byte_len w) then Err Malformed
    else Ok (from_be_bytes w (take (byte_len w) bytes), drop (byte_len w) bytes)

-- a part of this length
abbrev pub part_at : ℕ → List ℕ → Result (List ℕ × List ℕ) PacketFault
part_at n bytes = if nat_lt (length bytes) n then Err Malformed else Ok (take n bytes, drop n bytes)

unfoldable pub binary_at : List ℕ → Result (List ℕ × List ℕ) PacketFault
binary_at bytes = do
  n ← number_at w16 bytes
  part_at n.0 n.1

unfoldable pub text_at : List ℕ → Result (List ℕ × List ℕ) PacketFault
text_at bytes = do
  t ← binary_at bytes
  if reads_as_text t.0 then Ok t else Err Malformed

-- a value that has to pass a test
abbrev pub wanting : {A : Type 0} → Bool → A → Result A PacketFault
wanting true x = Ok x
wanting false x = Err Protocol

-- ---- properties

-- a property in another packet than its own is malformed (2.2.2.2), but no client may send a Subscription Identifier in a PUBLISH
-- (3.3.4); for a Server Reference in a client's DISCONNECT the standard names no code, and this one is ours
abbrev pub misplaced : PropertyOwner → Identifier → PacketFault
misplaced owner.Publish id.SubscriptionIdentifier = Protocol
misplaced owner.Disconnect id.ServerReference = Protocol
misplaced _ _ = Malformed

-- what an identifier is, once it is read
abbrev pub judged : PropertyOwner → List Bool → Option Identifier → Result Identifier PacketFault
judged where_ before None = Err Malformed
judged where_ before (Some i) =
    if not (may_stand where_ i) then Err (misplaced where_ i)
    else (if may_repeat i || not (slice_index_or before (number i) false) then Ok i
    else Err Protocol)

unfoldable pub value_at : Identifier → List ℕ → Result (Property × List ℕ) PacketFault
value_at id.PayloadFormatIndicator bytes = byte_at bytes >>= λ n. wanting (nat_lt n.0 2) (property.PayloadFormatIndicator n.0, n.1)
value_at id.MessageExpiryInterval bytes = number_at w32 bytes >>= λ n. Ok (property.MessageExpiryInterval n.0, n.1)
value_at id.ContentType bytes = text_at bytes >>= λ t. Ok (property.ContentType t.0, t.1)
value_at id.ResponseTopic bytes = text_at bytes >>= λ t. wanting (is_plain t.0) (property.ResponseTopic t.0, t.1)
value_at id.CorrelationData bytes = binary_at bytes >>= λ t. Ok (property.CorrelationData t.0, t.1)
value_at id.SubscriptionIdentifier bytes = varint_at bytes >>= λ n. wanting (nat_lt 0 n.0) (property.SubscriptionIdentifier n.0, n.1)
value_at id.SessionExpiryInterval bytes = number_at w32 bytes >>= λ n. Ok (property.SessionExpiryInterval n.0, n.1)
value_at id.AuthenticationMethod bytes = text_at bytes >>= λ t. Ok (property.AuthenticationMethod t.0, t.1)
value_at id.AuthenticationData bytes = binary_at bytes >>= λ t. Ok (property.AuthenticationData t.0, t.1)
value_at id.RequestProblemInformation bytes = byte_at bytes >>= λ n. wanting (nat_lt n.0 2) (property.RequestProblemInformation n.0, n.1)
value_at id.RequestResponseInformation bytes = byte_at bytes >>= λ n. wanting (nat_lt n.0 2) (property.RequestResponseInformation n.0, n.1)
value_at id.ServerReference bytes = Err Malformed
value_at id.ReasonString bytes = text_at bytes >>= λ t. Ok (property.ReasonString t.0, t.1)
value_at id.ReceiveMaximum bytes = number_at w16 bytes >>= λ n. wanting (nat_lt 0 n.0) (property.ReceiveMaximum n.0, n.1)
value_at id.TopicAliasMaximum bytes = number_at w16 bytes >>= λ n. Ok (property.TopicAliasMaximum n.0, n.1)
value_at id.TopicAlias bytes = number_at w16 bytes >>= λ n. Ok (property.TopicAlias n.0, n.1)
value_at id.UserProperty bytes = text_at bytes >>= λ k. text_at k.1 >>= λ v. Ok (property.UserProperty k.0 v.0, v.1)
value_at id.MaximumPacketSize bytes = number_at w32 bytes >>= λ n. wanting (nat_lt 0 n.0) (property.MaximumPacketSize n.0, n.1)

unfoldable pub property_at : PropertyOwner → List Bool → List ℕ → Result (Property × List ℕ) PacketFault
property_at where_ before bytes = do
  n ← varint_at bytes
  i ← judged where_ before (identifier_of n.0)
  value_at i n.1

-- all of the bytes, of which there are at most n
unfoldable pub properties_in : ℕ → PropertyOwner → List Bool → List ℕ → Result (List Property) PacketFault
properties_in n where_ before [] = Ok []
properties_in zero where_ before (b ∷ bytes) = Err Malformed
properties_in (suc n) where_ before (b ∷ bytes) = do
  p ← property_at where_ before (b ∷ bytes)
  ps ← properties_in n where_ (slice_set before (number (identifier p.0)) true) p.1
  Ok (p.0 ∷ ps)

unfoldable pub properties_at : PropertyOwner → List ℕ → Result (List Property × List ℕ) PacketFault
properties_at where_ bytes = do
  n ← varint_at bytes
  section ← part_at n.0 n.1
  ps ← properties_in (length section.0) where_ none_yet section.0
  Ok (ps, section.1)

-- the values of the properties
abbrev pub collect_on : PacketProperties → Result (List Property) PacketFault → Result PacketProperties PacketFault
collect_on values read = read >>= λ ps. Ok (collected values ps)

unfoldable pub values_at : PropertyOwner → List ℕ → Result (PacketProperties × List ℕ) PacketFault
values_at where_ bytes = do
  ps ← properties_at where_ bytes
  Ok (collected nothing ps.0, ps.1)
