-- What contracts see of the types that hold vectors or keep a bound: the same fields, with lists.
use Rattle.std.specs.Prelude.{ℕ, List, [], Bool, Option, None}

pub record PacketProperties : Type 0 where
  pub format : Option ℕ
  pub expiry : Option ℕ
  pub content_type : Option (List ℕ)
  pub response_topic : Option (List ℕ)
  pub correlation : Option (List ℕ)
  pub subscription : Option ℕ
  pub session_expiry : Option ℕ
  pub method : Option (List ℕ)
  pub authentication : Bool
  pub receive_maximum : Option ℕ
  pub alias : Option ℕ
  pub user : List (List ℕ × List ℕ)
  pub packet_maximum : Option ℕ

pub record PropertiesValue : Type 0 where
  pub format : Option ℕ
  pub content_type : Option (List ℕ)
  pub response_topic : Option (List ℕ)
  pub correlation : Option (List ℕ)
  pub user : List (List ℕ × List ℕ)

-- without any property
abbrev pub no_properties : PropertiesValue
no_properties = record { format = None; content_type = None; response_topic = None; correlation = None; user = [] }
