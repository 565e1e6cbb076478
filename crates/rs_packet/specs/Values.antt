-- What contracts see of the types that hold vectors or keep a bound: the same fields, with lists.
use Rattle.std.specs.Prelude.{ℕ, List, Bool, Option, Result}
use Rattle.rs_topic.specs.declared.text.TopicFault.{TopicFault}
use Rattle.rs_message.specs.declared.qos.Qos.{Qos}
use Rattle.rs_packet.specs.declared.packet.Options.{Options}
use Rattle.rs_packet_property.specs.Values.{PropertiesValue}

pub record PublishValue : Type 0 where
  pub duplicate : Bool
  pub qos : Qos
  pub retain : Bool
  pub topic : Result (List ℕ) TopicFault
  pub id : Option ℕ
  pub expiry : Option ℕ
  pub alias : Option ℕ
  pub properties : PropertiesValue
  pub payload : List ℕ

pub record ConnectValue : Type 0 where
  pub clean_start : Bool
  pub will : Bool
  pub keep_alive : ℕ
  pub session_expiry : Option ℕ
  pub method : Option (List ℕ)
  pub receive_maximum : Option ℕ
  pub packet_maximum : Option ℕ
  pub client : Option (List ℕ)

pub record PublishReplyValue : Type 0 where
  pub topic : List ℕ
  pub qos : Qos
  pub id : Option ℕ
  pub subscription : Option ℕ
  pub expiry : Option ℕ
  pub properties : PropertiesValue
  pub payload : List ℕ

-- a filter, or its fault
abbrev pub Filter : Type 0
Filter = Result (List ℕ) TopicFault

-- an item of SUBSCRIBE: the filter or its fault, and the options
abbrev pub Asked : Type 0
Asked = Filter × Options

pub record SubscribeValue : Type 0 where
  pub id : ℕ
  pub subscription : Option ℕ
  pub filters : List Asked

pub record UnsubscribeValue : Type 0 where
  pub id : ℕ
  pub filters : List Filter

pub record CodesValue : Type 0 where
  pub id : ℕ
  pub codes : List ℕ
