-- The PUBLISH of a retained message: section 3.3 of OASIS MQTT Version 5.0.
use Rattle.std.specs.Prelude.{◌≡◌, is_some}
use Rattle.rs_packet.specs.Grammar.{IdFits}
use Rattle.rs_packet.specs.declared.reply.PublishReply.{PublishReply}
use Rattle.rs_packet.specs.declared.reply.Reply.{Reply}
use Rattle.rs_packet.specs.declared.reply.Reply.TheVariants as reply
use Rattle.rs_window.specs.Values.{OutgoingValue}

-- 3.3.2.2, 3.3.2.3.3: there is an identifier if QoS is 1 or 2, and an interval if the message came with one
pub record FieldsFit (p : OutgoingValue) : Type 0 where
  pub id_fits : IdFits p.qos p.id
  pub expires : is_some p.expiry ≡ is_some p.message.expiry

-- 3.3.1.3: with RETAIN 1 and DUP 0, as every PUBLISH of the server
abbrev pub publish_reply_of : OutgoingValue → PublishReply
publish_reply_of p = record {
  topic = p.topic;
  qos = p.qos;
  id = p.id;
  subscription = p.subscription;
  expiry = p.expiry;
  properties = p.message.properties;
  payload = p.message.payload;
}

abbrev pub reply_of : OutgoingValue → Reply
reply_of p = reply.Publish (publish_reply_of p)
