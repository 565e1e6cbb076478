-- What the bound on a message says of the number of its User Properties, of its payload, and of its record.
use Rattle.std.proofs.Common.{ℕ, cond, ◌+◌, ◌<◌, ◌≤◌, ◌^◌, List, [], ◌∷◌, ◌++◌, length, arith, length-append}
use Rattle.std.specs.Prelude.{map, is_some, Option, Some, None}
use Rattle.std.specs.List.{flat_map}
use Rattle.rs_packet_property.specs.declared.property.Property.TheVariants as property
use Rattle.rs_packet_property.specs.Forms.{counted, four}
use Rattle.rs_packet_property.specs.Properties.{property_bytes, varint}
use Rattle.rs_packet_property.specs.Carried.{optional, user_property, replayed}
use Rattle.rs_packet_property.proofs.Replayed.{length_replayed}
use Rattle.rs_message.specs.declared.entry.Operation.{Operation}
use Rattle.rs_message.specs.declared.entry.Operation.TheVariants.{Set, Clear, Sweep}
use Rattle.rs_message.specs.Values.{MessageValue}
use Rattle.rs_message.specs.Messages.{IsMessage}
use Rattle.rs_journal_record.specs.Fields.{single, maybe}
use Rattle.rs_journal_record.specs.Properties.{pair_form, properties_form, user_form}
use Rattle.rs_journal_record.specs.Records.{message_form, payload_form, record_form, IsKept, IsOperation}

each_takes : (users : List (List ℕ × List ℕ)) → length users ≤ length (flat_map property_bytes (map user_property users))
each_takes [] = omega arith
each_takes (pair ∷ users) = omega (arith, each_takes users, length-append (property_bytes (user_property pair)) (flat_map property_bytes (map user_property users)))

pub few_users : (m : MessageValue) → IsMessage m → length m.properties.user < 2 ^ 32
few_users m is =
    let section = flat_map property_bytes (replayed m.expiry None m.properties) in
    omega (arith, is.fits, length-append (varint (length section)) section, length_replayed m.expiry None m.properties, each_takes m.properties.user)

pub small_payload : (m : MessageValue) → IsMessage m → length m.payload < 2 ^ 32
small_payload m is = omega (arith, is.fits)

-- ---- a record is not much longer than what it has in a packet

format_len : (o : Option ℕ) → length (maybe single o) ≤ cond (is_some o) 2 0 + 1
format_len None = omega arith
format_len (Some n) = omega arith

content_type_len : (o : Option (List ℕ)) → length (maybe counted o) ≤ length (flat_map property_bytes (optional property.ContentType o)) + 1
content_type_len None = omega arith
content_type_len (Some t) = omega (arith, length-append (property_bytes (property.ContentType t)) [])

response_topic_len : (o : Option (List ℕ)) → length (maybe counted o) ≤ length (flat_map property_bytes (optional property.ResponseTopic o)) + 1
response_topic_len None = omega arith
response_topic_len (Some t) = omega (arith, length-append (property_bytes (property.ResponseTopic t)) [])

correlation_len : (o : Option (List ℕ)) → length (maybe counted o) ≤ length (flat_map property_bytes (optional property.CorrelationData o)) + 1
correlation_len None = omega arith
correlation_len (Some b) = omega (arith, length-append (property_bytes (property.CorrelationData b)) [])

expiry_len : (o : Option ℕ) → length (maybe four o) ≤ 5
expiry_len None = omega arith
expiry_len (Some n) = omega arith

pairs_len : (users : List (List ℕ × List ℕ)) → length (flat_map pair_form users) ≤ length (flat_map property_bytes (map user_property users))
pairs_len [] = omega arith
pairs_len (pair ∷ users) =
    omega (arith, pairs_len users, length-append (property_bytes (user_property pair)) (flat_map property_bytes (map user_property users)), length-append (pair_form pair) (flat_map pair_form users))

properties_len : (m : MessageValue) → length (properties_form m.properties) ≤ length (flat_map property_bytes (replayed m.expiry None m.properties)) + 8
properties_len m =
    let p = m.properties in
    let a = maybe single p.format in
    let b = maybe counted p.content_type in
    let c = maybe counted p.response_topic in
    let d = maybe counted p.correlation in
    let e = user_form p.user in
    omega (
      arith,
      length_replayed m.expiry None p,
      format_len p.format,
      content_type_len p.content_type,
      response_topic_len p.response_topic,
      correlation_len p.correlation,
      pairs_len p.user,
      length-append (((a ++ b) ++ c) ++ d) e,
      length-append ((a ++ b) ++ c) d,
      length-append (a ++ b) c,
      length-append a b,
      length-append (four (length p.user)) (flat_map pair_form p.user),
    )

message_len : (m : MessageValue) → IsKept m → length (message_form m) < 2 ^ 24
message_len m is =
    let section = flat_map property_bytes (replayed m.expiry None m.properties) in
    let front = maybe four m.expiry in
    let properties = properties_form m.properties in
    let payload = payload_form m.payload in
    omega (
      arith,
      is.message.fits,
      properties_len m,
      expiry_len m.expiry,
      length-append (varint (length section)) section,
      length-append (front ++ properties) payload,
      length-append front properties,
    )

pub small_record : (operation : Operation) → IsOperation operation → length (record_form operation) < 2 ^ 32
small_record (Set found) is = omega (arith, message_len found.message is.1, is.0.is_text.short, length-append (counted found.topic) (message_form found.message))
small_record (Clear topic) is = omega (arith, is.is_text.short)
small_record (Sweep moment) is = omega arith
