-- What contracts see of the packets that a window gives: the same fields.
use Rattle.std.specs.Prelude.{ℕ, List, Option}
use Rattle.rs_message.specs.declared.qos.Qos.{Qos}
use Rattle.rs_message.specs.Values.{MessageValue}

pub record OutgoingValue : Type 0 where
  pub topic : List ℕ
  pub message : MessageValue
  pub qos : Qos
  pub id : Option ℕ
  pub expiry : Option ℕ
  pub subscription : Option ℕ
