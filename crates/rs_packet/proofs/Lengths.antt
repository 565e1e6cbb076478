-- How many bytes a reply takes, by its parts.
use Rattle.std.proofs.Common.{◌≡◌, ℕ, ◌+◌, ◌*◌, ◌<◌, ◌≤◌, ◌^◌, Bool, true, false, cond, ltb, List, ◌++◌, length, refl, sym, ap, ◌∙◌, arith}
use Rattle.std.specs.List.{flat_map}
use Rattle.std.specs.Prelude.{Option}
use Rattle.std.proofs.Common.{Some, None}
use Rattle.std.specs.Prelude.{is_some}
use Rattle.std.proofs.lemmas.List.{append-nil, length-append}
use Rattle.rs_packet_property.specs.declared.property.Property.TheVariants as property
use Rattle.rs_packet_property.specs.Values.{PropertiesValue}
use Rattle.rs_message.specs.declared.qos.Qos.{Qos}
use Rattle.rs_message.specs.declared.qos.Qos.TheVariants.{AtMostOnce, AtLeastOnce, ExactlyOnce}
use Rattle.rs_packet.specs.declared.reply.ConnackAccepted.{ConnackAccepted}
use Rattle.rs_packet.specs.declared.reply.PublishReply.{PublishReply}
use Rattle.rs_packet.specs.declared.reply.Reply.TheVariants as reply
use Rattle.rs_packet.specs.Grammar.{IdFits, id_bytes, frame}
use Rattle.rs_message.specs.Sizes.{level}
use Rattle.rs_packet_property.specs.Carried.{optional, replayed}
use Rattle.rs_message.specs.declared.limits.TheConstants.{MAX_PACKET_SIZE}
use Rattle.rs_packet.specs.Replies.{publish_remaining, publish_reply_body, reply_bytes, session_expiry_bytes, assigned_client_bytes, limit_bytes, accepting, accepted_body}
use Rattle.rs_message.specs.Sizes.{message_len}
use Rattle.rs_packet_property.proofs.Replayed.{length_replayed}
use Rattle.rs_packet_field.proofs.Written.{varint_short}
use Rattle.rs_packet_property.specs.Properties.{varint, varint_end, property_bytes, counted}

id_len : (o : Option ℕ) → length (id_bytes o) ≡ cond (is_some o) 2 0
id_len None = refl
id_len (Some n) = refl

pub length_frame : (first : ℕ) (body : List ℕ) → length (frame first body) ≡ 1 + length (varint (length body)) + length body
length_frame first body = omega (arith, length-append (varint (length body)) body)

-- the length of a PUBLISH's body, by its parts
pub length_body : (p : PublishReply) → let section = flat_map property_bytes (replayed p.expiry p.subscription p.properties) in
    length (publish_reply_body p) ≡ 2 + length p.topic + cond (is_some p.id) 2 0 + length (varint (length section)) + length section + length p.payload
length_body p =
    let section = flat_map property_bytes (replayed p.expiry p.subscription p.properties) in
    omega (
      arith,
      id_len p.id,
      length-append (counted p.topic) (id_bytes p.id ++ ((varint (length section) ++ section) ++ p.payload)),
      length-append (id_bytes p.id) ((varint (length section) ++ section) ++ p.payload),
      length-append (varint (length section) ++ section) p.payload,
      length-append (varint (length section)) section,
    )

subscription_short : (o : Option ℕ) → length (flat_map property_bytes (optional property.SubscriptionIdentifier o)) ≤ 5
subscription_short None = omega arith
subscription_short (Some n) = omega (arith, varint_short n, ap length (append-nil (varint n)))

-- a Subscription Identifier adds five bytes at most
pub section_le : (expiry subscription : Option ℕ) (carried : PropertiesValue) → length (flat_map property_bytes (replayed expiry subscription carried)) ≤ 5 + length (flat_map property_bytes (replayed expiry None carried))
section_le expiry subscription carried = omega (arith, length_replayed expiry subscription carried, length_replayed expiry None carried, subscription_short subscription)

-- a message of a packet's size has properties of less than that
pub message_section : (expiry subscription : Option ℕ) (carried : PropertiesValue) (payload : ℕ) → message_len expiry carried payload ≤ MAX_PACKET_SIZE
    → payload + length (flat_map property_bytes (replayed expiry subscription carried)) ≤ 262149
message_section expiry subscription carried payload le =
    let section = flat_map property_bytes (replayed expiry None carried) in
    omega (arith, le, section_le expiry subscription carried, length-append (varint (length section)) section)

pub two_if : (b : Bool) → cond b 2 0 ≤ 2
two_if true = omega arith
two_if false = omega arith

-- a message whose payload and properties fit a packet has a PUBLISH
pub message_publish : (topic : List ℕ) (qos : Qos) (expiry subscription : Option ℕ) (carried : PropertiesValue) (payload : ℕ) → length topic < 2 ^ 16 → message_len expiry carried payload ≤ MAX_PACKET_SIZE
    → publish_remaining topic qos expiry subscription carried payload < varint_end
unfolding publish_remaining
message_publish topic qos expiry subscription carried payload lt le =
    let section = flat_map property_bytes (replayed expiry subscription carried) in
    omega (arith, lt, message_section expiry subscription carried payload le, varint_short (length section), length-append (varint (length section)) section, two_if (ltb 0 (level qos)))

-- an interval takes the same room, whatever it is
pub message_len_alike : (a b : Option ℕ) (carried : PropertiesValue) (payload : ℕ) → is_some a ≡ is_some b → message_len a carried payload ≡ message_len b carried payload
message_len_alike None None carried payload e = refl
message_len_alike None (Some n) carried payload e = absurd (cc (e))
message_len_alike (Some m) None carried payload e = absurd (cc (e))
message_len_alike (Some m) (Some n) carried payload e =
    let a = flat_map property_bytes (replayed (Some m) None carried) in
    let b = flat_map property_bytes (replayed (Some n) None carried) in
    let same : length a ≡ length b = omega (arith, length_replayed (Some m) None carried, length_replayed (Some n) None carried) in
    let head : length (varint (length a)) ≡ length (varint (length b)) = ap (λ (k : ℕ). length (varint k)) same in
    omega (arith, same, head, length-append (varint (length a)) a, length-append (varint (length b)) b)

-- the Remaining Length, by its parts
pub remaining_parts : (topic : List ℕ) (qos : Qos) (expiry subscription : Option ℕ) (carried : PropertiesValue) (payload section quality : ℕ)
    → section ≡ length (flat_map property_bytes (replayed expiry subscription carried)) → quality ≡ level qos
    → publish_remaining topic qos expiry subscription carried payload ≡ 2 + length topic + cond (ltb 0 quality) 2 0 + length (varint section) + section + payload
unfolding publish_remaining
remaining_parts topic qos expiry subscription carried payload section quality is-section is-quality =
    let s = flat_map property_bytes (replayed expiry subscription carried) in
    rw (is-section, is-quality) (omega (arith, length-append (varint (length s)) s))

pub section_small : (p : PublishReply) → length (publish_reply_body p) < varint_end → length (flat_map property_bytes (replayed p.expiry p.subscription p.properties)) < varint_end
section_small p h = omega (arith, h, length_body p)

-- there is an identifier if QoS is above 0
with_id : (qos : Qos) (id : Option ℕ) → IdFits qos id → is_some id ≡ ltb 0 (level qos)
with_id AtMostOnce None h = refl
with_id AtMostOnce (Some n) h = absurd h
with_id AtLeastOnce None h = absurd h
with_id AtLeastOnce (Some n) h = refl
with_id ExactlyOnce None h = absurd h
with_id ExactlyOnce (Some n) h = refl

-- the body of a PUBLISH has the Remaining Length
pub remaining_is : (topic : List ℕ) (qos : Qos) (id subscription expiry : Option ℕ) (carried : PropertiesValue) (payload : List ℕ) → IdFits qos id
    → length (publish_reply_body (record { topic = topic; qos = qos; id = id; subscription = subscription; expiry = expiry; properties = carried; payload = payload })) ≡ publish_remaining topic qos expiry subscription carried (length payload)
unfolding publish_remaining
remaining_is topic qos id subscription expiry carried payload fits =
    let p : PublishReply = record { topic = topic; qos = qos; id = id; subscription = subscription; expiry = expiry; properties = carried; payload = payload } in
    let section = flat_map property_bytes (replayed expiry subscription carried) in
    let some : ◌≡◌ {A = ℕ} (cond (is_some id) 2 0) (cond (ltb 0 (level qos)) 2 0) = ap (λ (b : Bool). cond b 2 0) (with_id qos id fits) in
    omega (arith, length_body p, some, length-append (varint (length section)) section)

-- the length of a PUBLISH, by those of its parts
pub length_publish : (topic : List ℕ) (qos : Qos) (id subscription expiry : Option ℕ) (carried : PropertiesValue) (bytes : List ℕ) (section quality payload len digits : ℕ) → IdFits qos id
    → section ≡ length (flat_map property_bytes (replayed expiry subscription carried)) → quality ≡ level qos → length bytes ≡ payload
    → len ≡ 2 + length topic + cond (ltb 0 quality) 2 0 + length (varint section) + section + payload → digits ≡ length (varint len)
    → 1 + digits + len ≡ length (reply_bytes (reply.Publish (record { topic = topic; qos = qos; id = id; subscription = subscription; expiry = expiry; properties = carried; payload = bytes })))
length_publish topic qos id subscription expiry carried bytes section quality payload len digits fits is-section is-quality is-payload is-len is-digits =
    let p : PublishReply = record { topic = topic; qos = qos; id = id; subscription = subscription; expiry = expiry; properties = carried; payload = bytes } in
    let parts : 2 + length topic + cond (ltb 0 quality) 2 0 + length (varint section) + section + payload ≡ length (publish_reply_body p) = rw (is-section, is-quality, ← is-payload, ← with_id qos id fits) (sym (length_body p)) in
    let body : len ≡ length (publish_reply_body p) = is-len ∙ parts in
    rw (is-digits, body) (sym (length_frame (0x31 + 2 * level qos) (publish_reply_body p)))

-- ---- an accepting CONNACK, by its parts

session_expiry_length : (is_sent : Bool) → length (session_expiry_bytes is_sent) ≡ cond is_sent 5 0
session_expiry_length true = refl
session_expiry_length false = refl

pub length_accepting : (a : ConnackAccepted) → length (accepting a) ≡ cond a.session_expiry_zero 5 0 + length (assigned_client_bytes a.assigned_client) + 10
length_accepting a =
    let limits : length limit_bytes ≡ 10 = refl in
    omega (arith, limits, session_expiry_length a.session_expiry_zero, length-append (session_expiry_bytes a.session_expiry_zero) (assigned_client_bytes a.assigned_client ++ limit_bytes), length-append (assigned_client_bytes a.assigned_client) limit_bytes)

pub length_accepted : (a : ConnackAccepted) → length (accepted_body a) ≡ 2 + length (varint (length (accepting a))) + length (accepting a)
length_accepted a = omega (arith, length-append (varint (length (accepting a))) (accepting a))
