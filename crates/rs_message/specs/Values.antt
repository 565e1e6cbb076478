-- What contracts see of the types that keep a bound: the same fields.
use Rattle.std.specs.Prelude.{ℕ, List, Option}
use Rattle.rs_packet_property.specs.Values.{PropertiesValue}
use Rattle.rs_message.specs.declared.qos.Qos.{Qos}

-- 3.3.1.3: a retained message, with the properties that it carries (3.3.2.3), and when it came
pub record MessageValue : Type 0 where
  pub payload : List ℕ
  pub qos : Qos
  pub received : ℕ
  pub expiry : Option ℕ
  pub properties : PropertiesValue

-- 3.3.1.3: a topic and its retained message
pub record FoundValue : Type 0 where
  pub topic : List ℕ
  pub message : MessageValue

pub record OriginValue : Type 0 where
  pub place : ℕ
  pub serial : ℕ
