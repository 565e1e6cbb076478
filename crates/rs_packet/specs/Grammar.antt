-- The packets that a client sends, as bytes: sections 2 and 3.
use Rattle.std.specs.Prelude.{◌≡◌, ℕ, ◌+◌, ◌*◌, ◌<◌, ◌≤◌, ◌^◌, Bool, true, false, List, [], ◌∷◌, ◌++◌, length, map, take, Option, Some, None}
use Rattle.std.specs.List.{flat_map}
use Rattle.rs_packet_property.specs.declared.property.Property.{Property}
use Rattle.rs_packet_property.specs.declared.property.PropertyOwner.{PropertyOwner}
use Rattle.rs_packet_property.specs.declared.property.PropertyOwner.TheVariants as owner
use Rattle.rs_message.specs.declared.limits.TheConstants.{MAX_PACKET_SIZE}
use Rattle.rs_message.specs.declared.qos.Qos.{Qos}
use Rattle.rs_message.specs.declared.qos.Qos.TheVariants.{AtMostOnce, AtLeastOnce, ExactlyOnce}
use Rattle.rs_packet.specs.declared.packet.RetainHandling.{RetainHandling}
use Rattle.rs_packet.specs.declared.packet.RetainHandling.TheVariants.{Always, IfNew, Never}
use Rattle.rs_packet.specs.declared.packet.Options.{Options}
use Rattle.rs_packet.specs.declared.packet.PacketKind.{PacketKind}
use Rattle.rs_packet.specs.declared.packet.PacketKind.TheVariants as kind
use Rattle.rs_packet.specs.declared.packet.Publish.{Publish}
use Rattle.rs_packet.specs.declared.packet.Acknowledgement.{Acknowledgement}
use Rattle.rs_packet.specs.declared.packet.Connect.{Connect}
use Rattle.rs_packet.specs.declared.packet.ConnectFlags.{ConnectFlags}
use Rattle.rs_packet.specs.declared.packet.Packet.{Packet}
use Rattle.rs_packet.specs.declared.packet.Packet.TheVariants as packet
use Rattle.rs_packet.specs.declared.packet.Decoded.{Decoded}
use Rattle.rs_packet.specs.declared.packet.Decoded.TheVariants.{Whole, More}
use Rattle.rs_message.specs.Sizes.{level}
use Rattle.rs_topic.specs.Texts.{IsText}
use Rattle.rs_topic.specs.Topics.{name_of, filter_of}
use Rattle.rs_packet_property.specs.Values.{PacketProperties}
use Rattle.rs_packet_property.specs.Carried.{carried}
use Rattle.rs_packet.specs.Values.{SubscribeValue, UnsubscribeValue, Asked}
use Rattle.rs_packet_property.specs.Properties.{varint, two, counted, IsShort, AreProperties, properties, collected, nothing}

abbrev pub bit : Bool → ℕ
bit true = 1
bit false = 0

-- ---- 2.1.1: a packet is its type and flags, its length, and its body

-- tables 2-1 and 2-2, and 3.3.1 for the flags of PUBLISH
abbrev pub head : PacketKind → ℕ
head kind.Connect = 0x10
head (kind.Publish duplicate qos retain) = 0x30 + 8 * bit duplicate + 2 * level qos + bit retain
head kind.Puback = 0x40
head kind.Pubrec = 0x50
head kind.Pubrel = 0x62
head kind.Pubcomp = 0x70
head kind.Subscribe = 0x82
head kind.Unsubscribe = 0xA2
head kind.Pingreq = 0xC0
head kind.Disconnect = 0xE0

abbrev pub frame : ℕ → List ℕ → List ℕ
frame first body = first ∷ varint (length body) ++ body

-- 2.2.1: a packet identifier is not 0
abbrev pub IsId : ℕ → Type 0
IsId n = (0 < n) × (n < 2 ^ 16)

-- ---- 3.3: PUBLISH

-- 3.3.2.2: there is an identifier if QoS is 1 or 2
abbrev pub IdFits : Qos → Option ℕ → Type 0
IdFits AtMostOnce None = Unit {0}
IdFits AtMostOnce (Some n) = ⊥
IdFits AtLeastOnce None = ⊥
IdFits AtLeastOnce (Some n) = IsId n
IdFits ExactlyOnce None = ⊥
IdFits ExactlyOnce (Some n) = IsId n

abbrev pub id_bytes : Option ℕ → List ℕ
id_bytes None = []
id_bytes (Some n) = two n

abbrev pub publication : Bool → Qos → Bool → List ℕ → Option ℕ → PacketProperties → List ℕ → Publish
publication duplicate qos retain topic id values payload = record {
  duplicate = duplicate;
  qos = qos;
  retain = retain;
  topic = name_of topic;
  id = id;
  expiry = values.expiry;
  alias = values.alias;
  properties = carried values;
  payload = payload;
}

pub record EncodesPublish (duplicate : Bool) (qos : Qos) (retain : Bool) (body : List ℕ) (publish : Publish) : Type 0 where
  pub topic : List ℕ
  pub id : Option ℕ
  pub ps : List Property
  pub payload : List ℕ
  pub is_text : IsText topic
  pub has_id : IdFits qos id
  pub are_properties : AreProperties owner.Publish ps
  pub fields : body ≡ counted topic ++ (id_bytes id ++ (properties ps ++ payload))
  pub value : publish ≡ publication duplicate qos retain topic id (collected nothing ps) payload

-- ---- 3.4 to 3.7: PUBACK, PUBREC, PUBREL, PUBCOMP

-- 3.4.2.1: an absent code is 0; absent properties are as an empty list of them
pub data EncodesCode (where_ : PropertyOwner) : List ℕ → ℕ → Type 0 where
  no_code : EncodesCode where_ [] 0
  no_properties : {code : ℕ} → code < 256 → EncodesCode where_ (code ∷ []) code
  with_properties : {code : ℕ} {ps : List Property} → code < 256 → AreProperties where_ ps → EncodesCode where_ (code ∷ properties ps) code

pub record EncodesAcknowledgement (body : List ℕ) (acknowledgement : Acknowledgement) : Type 0 where
  pub rest : List ℕ
  pub is_id : IsId acknowledgement.id
  pub fields : body ≡ two acknowledgement.id ++ rest
  pub code : EncodesCode owner.Acknowledgement rest acknowledgement.code

-- ---- 3.8: SUBSCRIBE

abbrev pub handling : RetainHandling → ℕ
handling Always = 0
handling IfNew = 1
handling Never = 2

-- 3.8.3.1
abbrev pub options_byte : Options → ℕ
options_byte options = level options.qos + 4 * bit options.no_local + 8 * bit options.retain_as_published + 16 * handling
    options.retain_handling

-- 3.8.3, 3.10.3: each filter is a UTF-8 encoded string
abbrev pub AreTexts : List (List ℕ) → Type 0
AreTexts [] = Unit {0}
AreTexts (t ∷ ts) = IsText t × AreTexts ts

abbrev pub text_of : List ℕ × Options → List ℕ
text_of item = item.0

abbrev pub filter_bytes : List ℕ × Options → List ℕ
filter_bytes item = counted item.0 ++ options_byte item.1 ∷ []

abbrev pub asked_of : List ℕ × Options → Asked
asked_of item = (filter_of item.0, item.1)

pub record EncodesSubscribe (body : List ℕ) (subscribe : SubscribeValue) : Type 0 where
  pub ps : List Property
  pub filters : List (List ℕ × Options)
  pub is_id : IsId subscribe.id
  pub are_properties : AreProperties owner.Subscribe ps
  pub are_texts : AreTexts (map text_of filters)
  pub some : 0 < length filters
  pub fields : body ≡ two subscribe.id ++ (properties ps ++ flat_map filter_bytes filters)
  pub value : subscribe ≡ record { id = subscribe.id; subscription = (collected nothing ps).subscription; filters = map asked_of filters }

-- ---- 3.10: UNSUBSCRIBE

pub record EncodesUnsubscribe (body : List ℕ) (unsubscribe : UnsubscribeValue) : Type 0 where
  pub ps : List Property
  pub filters : List (List ℕ)
  pub is_id : IsId unsubscribe.id
  pub are_properties : AreProperties owner.Unsubscribe ps
  pub are_texts : AreTexts filters
  pub some : 0 < length filters
  pub fields : body ≡ two unsubscribe.id ++ (properties ps ++ flat_map counted filters)
  pub value : unsubscribe ≡ record { id = unsubscribe.id; filters = map filter_of filters }

-- ---- 3.1: CONNECT

-- 3.1.2.1, 3.1.2.2: the name "MQTT", and version 5
abbrev pub protocol : List ℕ
protocol = 0 ∷ 4 ∷ 77 ∷ 81 ∷ 84 ∷ 84 ∷ 5 ∷ []

-- 3.1.2.3
abbrev pub flags_byte : ConnectFlags → ℕ
flags_byte flags = 128 * bit flags.user_name + 64 * bit flags.password + 32 * bit flags.will_retain + 8 * level flags.will_qos + 4 * bit
    flags.will + 2 * bit flags.clean_start

-- 3.1.2.6, 3.1.2.7: without a will its flags are 0
abbrev pub FlagsFit : ConnectFlags → Type 0
FlagsFit flags = flags.will ≡ false → (flags.will_retain ≡ false) × (flags.will_qos ≡ AtMostOnce)

-- 3.1.3.5, 3.1.3.6: a field that a flag announces
pub data EncodesIf (P : List ℕ → Type 0) : Bool → List ℕ → Type 0 where
  absent : EncodesIf P false []
  present : {field : List ℕ} → P field → EncodesIf P true (counted field)

-- 3.1.3: the client identifier, the user name and the password. If there is a will, nothing of it is read
pub data EncodesPayload : ConnectFlags → List ℕ → Option (List ℕ) → Type 0 where
  with_will : {f : ConnectFlags} {payload : List ℕ} → f.will ≡ true → EncodesPayload f payload None
  with_client : {f : ConnectFlags} {client name password : List ℕ} → f.will ≡ false → IsText client → EncodesIf IsText f.user_name name
      → EncodesIf IsShort f.password password
      → EncodesPayload f (counted client ++ (name ++ password)) (Some client)

-- 3.1.2.11.10: authentication data need a method
abbrev pub MethodFits : PacketProperties → Type 0
MethodFits values = values.authentication ≡ true → (t : List ℕ) × (values.method ≡ Some t)

pub record EncodesConnect (body : List ℕ) (connect : Connect) : Type 0 where
  pub flags : ConnectFlags
  pub ps : List Property
  pub payload : List ℕ
  pub flags_fit : FlagsFit flags
  pub keep_alive : connect.keep_alive < 2 ^ 16
  pub are_properties : AreProperties owner.Connect ps
  pub method : MethodFits (collected nothing ps)
  pub has_payload : EncodesPayload flags payload connect.client
  pub fields : body ≡ protocol ++ (flags_byte flags ∷ (two connect.keep_alive ++ (properties ps ++ payload)))
  pub value : let values = collected nothing ps in connect ≡ record {
    clean_start = flags.clean_start;
    will = flags.will;
    keep_alive = connect.keep_alive;
    session_expiry = values.session_expiry;
    method = values.method;
    receive_maximum = values.receive_maximum;
    packet_maximum = values.packet_maximum;
    client = connect.client;
  }

-- ---- all of them

pub data EncodesBody : PacketKind → List ℕ → Packet → Type 0 where
  connect : {body : List ℕ} {c : Connect} → EncodesConnect body c → EncodesBody kind.Connect body (packet.Connect c)
  -- 3.3.1.1: a packet of QoS 0 is not a duplicate
  publish : {duplicate retain : Bool} {qos : Qos} {body : List ℕ} {p : Publish} → (qos ≡ AtMostOnce → duplicate ≡ false)
      → EncodesPublish duplicate qos retain body p
      → EncodesBody (kind.Publish duplicate qos retain) body (packet.Publish p)
  puback : {body : List ℕ} {a : Acknowledgement} → EncodesAcknowledgement body a → EncodesBody kind.Puback body (packet.Puback a)
  pubrec : {body : List ℕ} {a : Acknowledgement} → EncodesAcknowledgement body a → EncodesBody kind.Pubrec body (packet.Pubrec a)
  pubrel : {body : List ℕ} {a : Acknowledgement} → EncodesAcknowledgement body a → EncodesBody kind.Pubrel body (packet.Pubrel a)
  pubcomp : {body : List ℕ} {a : Acknowledgement} → EncodesAcknowledgement body a → EncodesBody kind.Pubcomp body (packet.Pubcomp a)
  subscribe : {body : List ℕ} {s : SubscribeValue} → EncodesSubscribe body s → EncodesBody kind.Subscribe body (packet.Subscribe s)
  unsubscribe : {body : List ℕ} {u : UnsubscribeValue} → EncodesUnsubscribe body u
      → EncodesBody kind.Unsubscribe body (packet.Unsubscribe u)
  pingreq : EncodesBody kind.Pingreq [] packet.Pingreq
  disconnect : {body : List ℕ} {code : ℕ} → EncodesCode owner.Disconnect body code
      → EncodesBody kind.Disconnect body (packet.Disconnect code)

pub record Encodes (bytes : List ℕ) (p : Packet) : Type 0 where
  pub first : PacketKind
  pub body : List ℕ
  pub fields : bytes ≡ frame (head first) body
  pub small : length bytes ≤ MAX_PACKET_SIZE
  pub says : EncodesBody first body p

-- what was decoded is a prefix of the bytes
abbrev pub HasPrefix : List ℕ → Decoded → Type 0
HasPrefix bytes (Whole p n) = (n ≤ length bytes) × Encodes (take n bytes) p
HasPrefix bytes More = Unit {0}
