-- The properties that are sent on, by their parts.
use Rattle.std.proofs.Common.{◌≡◌, ℕ, ◌+◌, cond, List, [], ◌++◌, length, Option, Some, None, refl, sym, ap, arith, append_assoc, append-nil, length-append}
use Rattle.std.specs.List.{flat_map}
use Rattle.std.specs.Prelude.{map, is_some}
use Rattle.std.proofs.lemmas.List.Concat.{flat_map-append}
use Rattle.rs_packet_property.specs.declared.property.Property.TheVariants as property
use Rattle.rs_packet_property.specs.Values.{PropertiesValue, no_properties}
use Rattle.rs_packet_property.specs.Carried.{optional, user_property, replayed}
use Rattle.rs_packet_property.specs.Properties.{property_bytes}

-- the parts of the properties, one after the other
pub replayed_parts : (old : List ℕ) (expiry subscription : Option ℕ) (p : PropertiesValue) →
    ((((((old ++ flat_map property_bytes (optional property.PayloadFormatIndicator p.format)) ++ flat_map property_bytes (optional property.MessageExpiryInterval expiry)) ++ flat_map property_bytes (optional property.ContentType p.content_type))
    ++ flat_map property_bytes (optional property.ResponseTopic p.response_topic)) ++ flat_map property_bytes (optional property.CorrelationData p.correlation)) ++ flat_map property_bytes (optional property.SubscriptionIdentifier subscription))
    ++ flat_map property_bytes (map user_property p.user)
    ≡ old ++ flat_map property_bytes (replayed expiry subscription p)
replayed_parts old expiry subscription p = simp (flat_map-append, append_assoc) refl

-- if there is no other property
pub replayed_bare : (old : List ℕ) (expiry subscription : Option ℕ) →
    (old ++ flat_map property_bytes (optional property.MessageExpiryInterval expiry)) ++ flat_map property_bytes (optional property.SubscriptionIdentifier subscription)
    ≡ old ++ flat_map property_bytes (replayed expiry subscription no_properties)
replayed_bare old expiry subscription = simp (flat_map-append, append_assoc, append-nil) refl

format_len : (o : Option ℕ) → length (flat_map property_bytes (optional property.PayloadFormatIndicator o)) ≡ cond (is_some o) 2 0
format_len None = refl
format_len (Some n) = refl

expiry_len : (o : Option ℕ) → length (flat_map property_bytes (optional property.MessageExpiryInterval o)) ≡ cond (is_some o) 5 0
expiry_len None = refl
expiry_len (Some n) = refl

-- the length of the properties, by their parts
pub length_replayed : (expiry subscription : Option ℕ) (p : PropertiesValue) → length (flat_map property_bytes (replayed expiry subscription p))
    ≡ cond (is_some p.format) 2 0 + cond (is_some expiry) 5 0 + (length (flat_map property_bytes (optional property.ContentType p.content_type)) + length (flat_map property_bytes (optional property.ResponseTopic p.response_topic)))
    + (length (flat_map property_bytes (optional property.CorrelationData p.correlation)) + length (flat_map property_bytes (optional property.SubscriptionIdentifier subscription))) + length (flat_map property_bytes (map user_property p.user))
length_replayed expiry subscription p =
    let a = flat_map property_bytes (optional property.PayloadFormatIndicator p.format) in
    let b = flat_map property_bytes (optional property.MessageExpiryInterval expiry) in
    let c = flat_map property_bytes (optional property.ContentType p.content_type) in
    let d = flat_map property_bytes (optional property.ResponseTopic p.response_topic) in
    let e = flat_map property_bytes (optional property.CorrelationData p.correlation) in
    let f = flat_map property_bytes (optional property.SubscriptionIdentifier subscription) in
    let g = flat_map property_bytes (map user_property p.user) in
    let parts : flat_map property_bytes (replayed expiry subscription p) ≡ (((((a ++ b) ++ c) ++ d) ++ e) ++ f) ++ g = sym (replayed_parts [] expiry subscription p) in
    omega (arith, ap length parts, length-append (((((a ++ b) ++ c) ++ d) ++ e) ++ f) g, length-append ((((a ++ b) ++ c) ++ d) ++ e) f, length-append (((a ++ b) ++ c) ++ d) e, length-append ((a ++ b) ++ c) d, length-append (a ++ b) c, length-append a b, format_len p.format, expiry_len expiry)
