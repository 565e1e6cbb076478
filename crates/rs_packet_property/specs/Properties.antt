-- Properties: 2.2.2.2, and the sections on each packet's own.
use Rattle.std.specs.Prelude.{◌≡◌, ℕ, ◌<◌, ◌^◌, ◌==◌, Bool, true, false, List, [], ◌∷◌, ◌++◌, length, Option, Some, None, replicate}
use Rattle.std.specs.List.{flat_map, find}
use Rattle.rs_packet_property.specs.declared.property.Identifier.{Identifier}
use Rattle.rs_packet_property.specs.declared.property.Identifier.TheVariants as id
use Rattle.rs_packet_property.specs.declared.property.Property.{Property}
use Rattle.rs_packet_property.specs.declared.property.TheConstants.{IDENTIFIERS}
use Rattle.rs_packet_property.specs.declared.property.Property.TheVariants as property
use Rattle.rs_packet_property.specs.declared.property.PropertyOwner.{PropertyOwner}
use Rattle.rs_packet_property.specs.declared.property.PropertyOwner.TheVariants as owner
use Rattle.rs_topic.specs.Texts.{IsText}
use Rattle.rs_topic.specs.Topics.{is_plain}
use Rattle.rs_packet_property.specs.Values.{PacketProperties}
unfoldable pub use Rattle.rs_packet_property.specs.Forms.{low_first}
pub use Rattle.rs_packet_property.specs.Forms.{varint, varint_end, two, four, counted, IsShort, IsSubscriptionId}

-- ---- a property

-- table 2-4
abbrev pub number : Identifier → ℕ
number id.PayloadFormatIndicator = 0x01
number id.MessageExpiryInterval = 0x02
number id.ContentType = 0x03
number id.ResponseTopic = 0x08
number id.CorrelationData = 0x09
number id.SubscriptionIdentifier = 0x0B
number id.SessionExpiryInterval = 0x11
number id.AuthenticationMethod = 0x15
number id.AuthenticationData = 0x16
number id.RequestProblemInformation = 0x17
number id.RequestResponseInformation = 0x19
number id.ServerReference = 0x1C
number id.ReasonString = 0x1F
number id.ReceiveMaximum = 0x21
number id.TopicAliasMaximum = 0x22
number id.TopicAlias = 0x23
number id.UserProperty = 0x26
number id.MaximumPacketSize = 0x27

abbrev pub identifiers : List Identifier
identifiers =
    id.PayloadFormatIndicator ∷ id.MessageExpiryInterval ∷ id.ContentType ∷ id.ResponseTopic ∷ id.CorrelationData
    ∷ id.SubscriptionIdentifier
    ∷ id.SessionExpiryInterval ∷ id.AuthenticationMethod ∷ id.AuthenticationData ∷ id.RequestProblemInformation
    ∷ id.RequestResponseInformation
    ∷ id.ServerReference ∷ id.ReasonString ∷ id.ReceiveMaximum ∷ id.TopicAliasMaximum ∷ id.TopicAlias ∷ id.UserProperty
    ∷ id.MaximumPacketSize ∷ []

unfoldable pub identifier_of : ℕ → Option Identifier
identifier_of n = find (λ i. number i == n) identifiers

abbrev pub identifier : Property → Identifier
identifier (property.PayloadFormatIndicator n) = id.PayloadFormatIndicator
identifier (property.MessageExpiryInterval n) = id.MessageExpiryInterval
identifier (property.ContentType t) = id.ContentType
identifier (property.ResponseTopic t) = id.ResponseTopic
identifier (property.CorrelationData b) = id.CorrelationData
identifier (property.SubscriptionIdentifier n) = id.SubscriptionIdentifier
identifier (property.SessionExpiryInterval n) = id.SessionExpiryInterval
identifier (property.AuthenticationMethod t) = id.AuthenticationMethod
identifier (property.AuthenticationData b) = id.AuthenticationData
identifier (property.RequestProblemInformation n) = id.RequestProblemInformation
identifier (property.RequestResponseInformation n) = id.RequestResponseInformation
identifier (property.ReasonString t) = id.ReasonString
identifier (property.ReceiveMaximum n) = id.ReceiveMaximum
identifier (property.TopicAliasMaximum n) = id.TopicAliasMaximum
identifier (property.TopicAlias n) = id.TopicAlias
identifier (property.UserProperty k v) = id.UserProperty
identifier (property.MaximumPacketSize n) = id.MaximumPacketSize

-- the bytes of its value
abbrev pub value : Property → List ℕ
value (property.PayloadFormatIndicator n) = n ∷ []
value (property.MessageExpiryInterval n) = four n
value (property.ContentType t) = counted t
value (property.ResponseTopic t) = counted t
value (property.CorrelationData b) = counted b
value (property.SubscriptionIdentifier n) = varint n
value (property.SessionExpiryInterval n) = four n
value (property.AuthenticationMethod t) = counted t
value (property.AuthenticationData b) = counted b
value (property.RequestProblemInformation n) = n ∷ []
value (property.RequestResponseInformation n) = n ∷ []
value (property.ReasonString t) = counted t
value (property.ReceiveMaximum n) = two n
value (property.TopicAliasMaximum n) = two n
value (property.TopicAlias n) = two n
value (property.UserProperty k v) = counted k ++ counted v
value (property.MaximumPacketSize n) = four n

-- the values that it may have: 3.3.2.3.2, 3.3.2.3.5, 3.8.2.1.2, 3.1.2.11.3, 3.1.2.11.4, 3.1.2.11.6, 3.1.2.11.7
abbrev pub IsInRange : Property → Type 0
IsInRange (property.PayloadFormatIndicator n) = n < 2
IsInRange (property.MessageExpiryInterval n) = n < 2 ^ 32
IsInRange (property.ContentType t) = IsText t
IsInRange (property.ResponseTopic t) = IsText t × (is_plain t ≡ true)
IsInRange (property.CorrelationData b) = IsShort b
IsInRange (property.SubscriptionIdentifier n) = IsSubscriptionId n
IsInRange (property.SessionExpiryInterval n) = n < 2 ^ 32
IsInRange (property.AuthenticationMethod t) = IsText t
IsInRange (property.AuthenticationData b) = IsShort b
IsInRange (property.RequestProblemInformation n) = n < 2
IsInRange (property.RequestResponseInformation n) = n < 2
IsInRange (property.ReasonString t) = IsText t
IsInRange (property.ReceiveMaximum n) = (0 < n) × (n < 2 ^ 16)
IsInRange (property.TopicAliasMaximum n) = n < 2 ^ 16
IsInRange (property.TopicAlias n) = n < 2 ^ 16
IsInRange (property.UserProperty k v) = IsText k × IsText v
IsInRange (property.MaximumPacketSize n) = (0 < n) × (n < 2 ^ 32)

-- 2.2.2: the identifier, and the value
abbrev pub property_bytes : Property → List ℕ
property_bytes p = number (identifier p) ∷ value p

-- table 2-4: which packet may have which property of a client
abbrev pub may_stand : PropertyOwner → Identifier → Bool
may_stand owner.Connect id.SessionExpiryInterval = true
may_stand owner.Connect id.AuthenticationMethod = true
may_stand owner.Connect id.AuthenticationData = true
may_stand owner.Connect id.RequestProblemInformation = true
may_stand owner.Connect id.RequestResponseInformation = true
may_stand owner.Connect id.ReceiveMaximum = true
may_stand owner.Connect id.TopicAliasMaximum = true
may_stand owner.Connect id.MaximumPacketSize = true
may_stand owner.Connect id.UserProperty = true
may_stand owner.Publish id.PayloadFormatIndicator = true
may_stand owner.Publish id.MessageExpiryInterval = true
may_stand owner.Publish id.ContentType = true
may_stand owner.Publish id.ResponseTopic = true
may_stand owner.Publish id.CorrelationData = true
may_stand owner.Publish id.TopicAlias = true
may_stand owner.Publish id.UserProperty = true
may_stand owner.Acknowledgement id.ReasonString = true
may_stand owner.Acknowledgement id.UserProperty = true
may_stand owner.Subscribe id.SubscriptionIdentifier = true
may_stand owner.Subscribe id.UserProperty = true
may_stand owner.Unsubscribe id.UserProperty = true
may_stand owner.Disconnect id.SessionExpiryInterval = true
may_stand owner.Disconnect id.ReasonString = true
may_stand owner.Disconnect id.UserProperty = true
may_stand _ _ = false

-- only a user property may occur more than once
abbrev pub may_repeat : Identifier → Bool
may_repeat id.UserProperty = true
may_repeat _ = false

-- whether each identifier has occurred before, by its number
abbrev pub none_yet : List Bool
none_yet = replicate IDENTIFIERS false

-- ---- the properties of a packet, in any order

-- a property beside others of the packet: of one identifier only if they are user properties
abbrev pub MayStandBeside : Property → List Property → Type 0
MayStandBeside p [] = Unit {0}
MayStandBeside p (q ∷ qs) = (identifier p ≡ identifier q → identifier p ≡ id.UserProperty) × MayStandBeside p qs

-- 2.2.2.2, 3.1.2.11.8: no two properties of one identifier, but user properties
abbrev pub AreOnce : List Property → Type 0
AreOnce [] = Unit {0}
AreOnce (p ∷ ps) = MayStandBeside p ps × AreOnce ps

-- the packet may have each, with a value in its range
abbrev pub AreAllowed : PropertyOwner → List Property → Type 0
AreAllowed where_ [] = Unit {0}
AreAllowed where_ (p ∷ ps) = (may_stand where_ (identifier p) ≡ true) × IsInRange p × AreAllowed where_ ps

pub record AreProperties (where_ : PropertyOwner) (ps : List Property) : Type 0 where
  pub allowed : AreAllowed where_ ps
  pub once : AreOnce ps
  pub short : length (flat_map property_bytes ps) < varint_end

-- 2.2.2.1: their length in bytes, and the properties
abbrev pub properties : List Property → List ℕ
properties ps = varint (length (flat_map property_bytes ps)) ++ flat_map property_bytes ps

-- ---- their values

abbrev pub nothing : PacketProperties
nothing = record {
  format = None;
  expiry = None;
  content_type = None;
  response_topic = None;
  correlation = None;
  subscription = None;
  session_expiry = None;
  method = None;
  authentication = false;
  receive_maximum = None;
  alias = None;
  user = [];
  packet_maximum = None;
}

abbrev pub put : PacketProperties → Property → PacketProperties
put values (property.PayloadFormatIndicator n) = record values { format = Some n }
put values (property.MessageExpiryInterval n) = record values { expiry = Some n }
put values (property.ContentType t) = record values { content_type = Some t }
put values (property.ResponseTopic t) = record values { response_topic = Some t }
put values (property.CorrelationData b) = record values { correlation = Some b }
put values (property.SubscriptionIdentifier n) = record values { subscription = Some n }
put values (property.SessionExpiryInterval n) = record values { session_expiry = Some n }
put values (property.AuthenticationMethod t) = record values { method = Some t }
put values (property.AuthenticationData b) = record values { authentication = true }
put values (property.RequestProblemInformation n) = values
put values (property.RequestResponseInformation n) = values
put values (property.ReasonString t) = values
put values (property.ReceiveMaximum n) = record values { receive_maximum = Some n }
put values (property.TopicAliasMaximum n) = values
put values (property.TopicAlias n) = record values { alias = Some n }
put values (property.UserProperty k v) = record values { user = values.user ++ (k, v) ∷ [] }
put values (property.MaximumPacketSize n) = record values { packet_maximum = Some n }

unfoldable pub collected : PacketProperties → List Property → PacketProperties
collected values [] = values
collected values (p ∷ ps) = collected (put values p) ps
