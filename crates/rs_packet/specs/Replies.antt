-- The replies of the server: one encoding each. Sections 3.2 to 3.14.
use Rattle.std.specs.Prelude.{◌≡◌, ℕ, ◌+◌, ◌*◌, ◌<◌, ◌^◌, List, [], ◌∷◌, ◌++◌, length, Option, Some, None, IfSome, Bool, true, false, nat_lt, ◌==◌, if◌then◌else◌}
use Rattle.rs_message.specs.declared.qos.Qos.{Qos}
use Rattle.rs_packet.specs.declared.reply.ConnackAccepted.{ConnackAccepted}
use Rattle.rs_packet.specs.declared.reply.PublishReply.{PublishReply}
use Rattle.rs_packet.specs.declared.reply.Reply.{Reply}
use Rattle.rs_packet.specs.declared.reply.Reply.TheVariants as reply
use Rattle.rs_packet_property.specs.Values.{PropertiesValue}
use Rattle.rs_packet_property.specs.Carried.{replayed}
use Rattle.rs_packet_property.specs.Bounds.{SectionFits}
use Rattle.rs_packet.specs.Values.{CodesValue}
use Rattle.rs_packet_property.specs.Properties.{two, four, varint, counted, properties, varint_end, IsShort}
use Rattle.rs_packet.specs.declared.limits.TheConstants.{RECEIVE_MAXIMUM}
use Rattle.rs_message.specs.declared.limits.TheConstants.{MAX_PACKET_SIZE}
use Rattle.rs_packet.specs.Grammar.{IdFits, frame, id_bytes}
use Rattle.rs_message.specs.Sizes.{level}

-- 3.2.2.3.2: an interval of 0, sent if the client asked for another
abbrev pub session_expiry_bytes : Bool → List ℕ
session_expiry_bytes false = []
session_expiry_bytes true = 0x11 ∷ four 0

-- 3.2.2.3.7
abbrev pub assigned_client_bytes : Option (List ℕ) → List ℕ
assigned_client_bytes None = []
assigned_client_bytes (Some client) = 0x12 ∷ counted client

-- 3.2.2.3.3, 3.2.2.3.6, 3.2.2.3.13: the two maxima; no shared subscriptions
abbrev pub limit_bytes : List ℕ
limit_bytes = 0x21 ∷ two RECEIVE_MAXIMUM ++ (0x27 ∷ four MAX_PACKET_SIZE ++ (0x2A ∷ 0 ∷ []))

-- 3.2.2.3: the properties of an accepting CONNACK, in rising order of identifier
abbrev pub accepting : ConnackAccepted → List ℕ
accepting connack = session_expiry_bytes connack.session_expiry_zero ++ (assigned_client_bytes connack.assigned_client ++ limit_bytes)

-- 3.2.2: no session is present, and the code is 0
abbrev pub accepted_body : ConnackAccepted → List ℕ
accepted_body connack = 0 ∷ 0 ∷ (varint (length (accepting connack)) ++ accepting connack)

-- 3.4.2.1: a code of 0 is left out
abbrev pub acknowledging : ℕ → ℕ → List ℕ
acknowledging id code = if code == 0 then two id else two id ++ code ∷ []

abbrev pub first_byte : Reply → ℕ
first_byte (reply.ConnackAccepted a) = 0x20
first_byte (reply.ConnackRefused code) = 0x20
first_byte (reply.Publish p) = 0x31 + 2 * level p.qos
first_byte (reply.Puback id code) = 0x40
first_byte (reply.Pubrec id code) = 0x50
first_byte (reply.Pubrel id code) = 0x62
first_byte (reply.Pubcomp id code) = 0x70
first_byte (reply.Suback codes) = 0x90
first_byte (reply.Unsuback codes) = 0xB0
first_byte reply.Pingresp = 0xD0
first_byte (reply.Disconnect code) = 0xE0

abbrev pub publish_reply_body : PublishReply → List ℕ
publish_reply_body published = counted published.topic
    ++ (id_bytes published.id ++ (properties (replayed published.expiry published.subscription published.properties) ++ published.payload))

-- 2.1.4: the Remaining Length of a PUBLISH whose payload has this length; there is an identifier if QoS is 1 or 2 (3.3.2.2)
unfoldable pub publish_remaining : List ℕ → Qos → Option ℕ → Option ℕ → PropertiesValue → ℕ → ℕ
publish_remaining topic qos expiry subscription carried payload =
    length (counted topic) + (if nat_lt 0 (level qos) then 2 else 0) + length (properties (replayed expiry subscription carried)) + payload

abbrev pub codes_body : CodesValue → List ℕ
codes_body codes = two codes.id ++ 0 ∷ codes.codes

abbrev pub reply_body : Reply → List ℕ
reply_body (reply.ConnackAccepted a) = accepted_body a
reply_body (reply.ConnackRefused code) = 0 ∷ code ∷ 0 ∷ []
reply_body (reply.Publish p) = publish_reply_body p
reply_body (reply.Puback id code) = acknowledging id code
reply_body (reply.Pubrec id code) = acknowledging id code
reply_body (reply.Pubrel id code) = acknowledging id code
reply_body (reply.Pubcomp id code) = acknowledging id code
reply_body (reply.Suback codes) = codes_body codes
reply_body (reply.Unsuback codes) = codes_body codes
reply_body reply.Pingresp = []
reply_body (reply.Disconnect code) = code ∷ []

-- the one encoding of a reply
abbrev pub reply_bytes : Reply → List ℕ
reply_bytes r = frame (first_byte r) (reply_body r)

-- ---- what the types keep

-- 3.3.2: the topic, the identifier and the properties of a PUBLISH have their forms
pub record PublishFits (published : PublishReply) : Type 0 where
  pub topic_fits : IsShort published.topic
  pub id_fits : IdFits published.qos published.id
  pub section_fits : SectionFits published.expiry published.subscription published.properties

-- the fields of a reply have their forms
abbrev pub ReplyFits : Reply → Type 0
ReplyFits (reply.ConnackAccepted a) = IfSome a.assigned_client IsShort
ReplyFits (reply.ConnackRefused code) = Unit {0}
ReplyFits (reply.Publish p) = PublishFits p
ReplyFits (reply.Puback id code) = id < 2 ^ 16
ReplyFits (reply.Pubrec id code) = id < 2 ^ 16
ReplyFits (reply.Pubrel id code) = id < 2 ^ 16
ReplyFits (reply.Pubcomp id code) = id < 2 ^ 16
ReplyFits (reply.Suback codes) = codes.id < 2 ^ 16
ReplyFits (reply.Unsuback codes) = codes.id < 2 ^ 16
ReplyFits reply.Pingresp = Unit {0}
ReplyFits (reply.Disconnect code) = Unit {0}

-- a reply has an encoding if its body has a length that can be written
abbrev pub HasEncoding : Reply → Type 0
HasEncoding r = length (reply_body r) < varint_end

pub record EncodesReply (bytes : List ℕ) (r : Reply) : Type 0 where
  pub fields : bytes ≡ reply_bytes r
  pub small : HasEncoding r
  pub fits : ReplyFits r
