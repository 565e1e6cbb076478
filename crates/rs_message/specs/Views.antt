-- What contracts see of a message: its fields.
use Rattle.std.specs.Prelude.{if◌then◌else◌, Some, None}
use Rattle.rs_message.specs.Values.{MessageValue}
use Rattle.rs_message.specs.declared.message.Message.TheInside.{Inside}

abbrev pub message_view : Inside → MessageValue
message_view m = record {
  payload = m.payload;
  qos = m.qos;
  received = m.received;
  expiry = if m.expires then Some m.interval
      else None;
  properties = m.properties;
}
