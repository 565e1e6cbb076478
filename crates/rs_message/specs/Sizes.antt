-- The level of a QoS, and how many bytes a message takes in a PUBLISH: sections 4.3 and 3.3.2.3.
use Rattle.std.specs.Prelude.{ℕ, ◌+◌, List, length, Option, None}
use Rattle.rs_packet_property.specs.Carried.{replayed}
use Rattle.rs_packet_property.specs.Properties.{properties}
use Rattle.rs_packet_property.specs.Values.{PropertiesValue}
use Rattle.rs_message.specs.declared.qos.Qos.{Qos}
use Rattle.rs_message.specs.declared.qos.Qos.TheVariants.{AtMostOnce, AtLeastOnce, ExactlyOnce}

-- 4.3
abbrev pub level : Qos → ℕ
level AtMostOnce = 0
level AtLeastOnce = 1
level ExactlyOnce = 2

-- how many bytes a payload of this length and the properties of its message take in a PUBLISH without a Subscription Identifier
abbrev pub message_len : Option ℕ → PropertiesValue → ℕ → ℕ
message_len expiry carried payload = payload + length (properties (replayed expiry None carried))

abbrev pub message_size : Option ℕ → PropertiesValue → List ℕ → ℕ
message_size expiry carried payload = message_len expiry carried (length payload)
