-- What contracts see of a PUBLISH: its fields.
use Rattle.rs_window.specs.Values.{OutgoingValue}
use Rattle.rs_window.specs.declared.window.Outgoing.TheInside.{Inside}

abbrev pub outgoing_view : Inside → OutgoingValue
outgoing_view p = record {
  topic = p.found.topic;
  message = p.found.message;
  qos = p.qos;
  id = p.id;
  expiry = p.expiry;
  subscription = p.subscription;
}
