-- What the types of properties hold, and what properties that were read have in common.
use Rattle.std.specs.Prelude.{ℕ, ◌<◌, ◌^◌, Option, IfSome}
use Rattle.std.specs.List.{All}
use Rattle.rs_packet_property.specs.Values.{PropertiesValue, PacketProperties}
use Rattle.rs_packet_property.specs.Forms.{IsShort, IsSubscriptionId}

-- 3.3.2.3.6: correlation data are binary data
abbrev pub CorrelationFits : PropertiesValue → Type 0
CorrelationFits properties = IfSome properties.correlation IsShort

abbrev pub IsSome : ℕ → Type 0
IsSome n = 0 < n

-- 3.1.2.11.3, 3.1.2.11.4: neither maximum is 0
pub record MaximaFit (receive packet : Option ℕ) : Type 0 where
  pub receive_fits : IfSome receive IsSome
  pub packet_fits : IfSome packet IsSome

-- the values of the properties of a packet, each in its range
pub record AreInRange (values : PacketProperties) : Type 0 where
  pub short : IfSome values.correlation IsShort
  pub maxima : MaximaFit values.receive_maximum values.packet_maximum

-- the properties of a PUBLISH have their forms (1.5.3, 1.5.4, 1.5.6, 3.8.2.1.2)
pub record SectionFits (expiry subscription : Option ℕ) (properties : PropertiesValue) : Type 0 where
  pub expiry_fits : IfSome expiry (λ n. n < 2 ^ 32)
  pub content_type_fits : IfSome properties.content_type IsShort
  pub response_topic_fits : IfSome properties.response_topic IsShort
  pub correlation_fits : IfSome properties.correlation IsShort
  pub subscription_fits : IfSome subscription IsSubscriptionId
  pub user_fits : All (λ pair. IsShort pair.0 × IsShort pair.1) properties.user
