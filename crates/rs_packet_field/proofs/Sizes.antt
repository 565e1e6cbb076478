-- The values of the properties of a packet are no longer than the properties, and are in their ranges.
use Rattle.std.proofs.Common.{◌≡◌, ℕ, zero, suc, ◌+◌, ◌/◌, ◌≤◌, Bool, true, false, cond, ltb, List, [], ◌∷◌, ◌++◌, length, Result, Ok, Err, sym, ap, subst, ◌∙◌, arith, inl, inr}
use Rattle.std.specs.Prelude.{map, is_some, IfOk, None}
use Rattle.std.specs.List.{flat_map}
use Rattle.std.proofs.lemmas.Bool.{cases_lt, lt-ltb, le-ltb}
use Rattle.std.proofs.lemmas.List.{length-append, map-append}
use Rattle.std.proofs.lemmas.List.Concat.{flat_map-append}
use Rattle.rs_packet_field.specs.declared.fault.PacketFault.{PacketFault}
use Rattle.rs_packet_property.specs.declared.property.Property.{Property}
use Rattle.rs_packet_property.specs.declared.property.Property.TheVariants as property
use Rattle.rs_packet_property.specs.declared.property.PropertyOwner.{PropertyOwner}
use Rattle.rs_packet_property.specs.Values.{PacketProperties}
use Rattle.rs_packet_property.specs.Properties.{low_first, varint, property_bytes, value, IsInRange, AreAllowed, properties, nothing, put, collected}
use Rattle.rs_packet_property.specs.Carried.{carried, optional, user_property, replayed}
use Rattle.rs_packet_property.specs.Bounds.{AreInRange}
use Rattle.rs_packet_field.specs.Reading.{Gives, values_at}
use Rattle.rs_packet_field.proofs.Fields.{IsBytes}
use Rattle.rs_packet_field.proofs.PropertyLaws.{values_takes}
use Rattle.rs_packet_property.proofs.Replayed.{length_replayed}

-- how many bytes the properties that a message carries take
abbrev pub size : PacketProperties → ℕ
size f = length (flat_map property_bytes (replayed f.expiry None (carried f)))

sizes : (f : PacketProperties) → size f
    ≡ cond (is_some f.format) 2 0 + cond (is_some f.expiry) 5 0 + (length (flat_map property_bytes (optional property.ContentType f.content_type)) + length (flat_map property_bytes (optional property.ResponseTopic f.response_topic)))
    + length (flat_map property_bytes (optional property.CorrelationData f.correlation)) + length (flat_map property_bytes (map user_property f.user))
sizes f = omega (arith, length_replayed f.expiry None (carried f))

one_len : (p : Property) → length (flat_map property_bytes (p ∷ [])) ≡ length (property_bytes p)
one_len p = omega (arith, length-append (value p) [])

users_len : (us : List (List ℕ × List ℕ)) (k v : List ℕ) → length (flat_map property_bytes (map user_property (us ++ (k, v) ∷ []))) ≡ length (flat_map property_bytes (map user_property us)) + length (property_bytes (property.UserProperty k v))
users_len us k v =
    let one : Property = property.UserProperty k v in
    ap (λ (ps : List Property). length (flat_map property_bytes ps)) (map-append user_property us ((k, v) ∷ []))
    ∙ ap length (flat_map-append property_bytes (map user_property us) (one ∷ []))
    ∙ length-append (flat_map property_bytes (map user_property us)) (flat_map property_bytes (one ∷ []))
    ∙ ap (λ (n : ℕ). length (flat_map property_bytes (map user_property us)) + n) (one_len one)

few : (b : Bool) (n : ℕ) → cond b n 0 ≤ n
few true n = omega arith
few false n = omega arith

pub put_size : (f : PacketProperties) (p : Property) → size (put f p) ≤ size f + length (property_bytes p)
put_size f (property.PayloadFormatIndicator n) = omega (arith, sizes f, sizes (put f (property.PayloadFormatIndicator n)))
put_size f (property.MessageExpiryInterval n) = omega (arith, sizes f, sizes (put f (property.MessageExpiryInterval n)))
put_size f (property.ContentType t) = omega (arith, sizes f, sizes (put f (property.ContentType t)), one_len (property.ContentType t))
put_size f (property.ResponseTopic t) = omega (arith, sizes f, sizes (put f (property.ResponseTopic t)), one_len (property.ResponseTopic t))
put_size f (property.CorrelationData b) = omega (arith, sizes f, sizes (put f (property.CorrelationData b)), one_len (property.CorrelationData b))
put_size f (property.SubscriptionIdentifier n) = omega arith
put_size f (property.SessionExpiryInterval n) = omega arith
put_size f (property.AuthenticationMethod t) = omega arith
put_size f (property.AuthenticationData b) = omega arith
put_size f (property.RequestProblemInformation n) = omega arith
put_size f (property.RequestResponseInformation n) = omega arith
put_size f (property.ReasonString t) = omega arith
put_size f (property.ReceiveMaximum n) = omega arith
put_size f (property.TopicAliasMaximum n) = omega arith
put_size f (property.TopicAlias n) = omega arith
put_size f (property.UserProperty k v) = omega (arith, sizes f, sizes (put f (property.UserProperty k v)), users_len f.user k v)
put_size f (property.MaximumPacketSize n) = omega arith

pub collected_size : (f : PacketProperties) (ps : List Property) → size (collected f ps) ≤ size f + length (flat_map property_bytes ps)
unfolding collected
collected_size f [] = omega arith
collected_size f (p ∷ ps) = omega (arith, collected_size (put f p) ps, put_size f p, length-append (value p) (flat_map property_bytes ps))

all_size : (ps : List Property) → size (collected nothing ps) ≤ length (flat_map property_bytes ps)
all_size ps = omega (arith, collected_size nothing ps)

-- a smaller number has no longer form
low_first_le : (k a b : ℕ) → a ≤ b → length (low_first k a) ≤ length (low_first k b)
unfolding low_first
low_first_le zero a b le = omega arith
low_first_le (suc k) a b le =
    elim (cases_lt b 128) [
      | inl small ↦ let s : ltb a 128 ≡ true = lt-ltb _ _ (omega (arith, le, small)) in let t : ltb b 128 ≡ true = lt-ltb _ _ small in rw (s, t) (omega arith)
      | inr big ↦
          let t : ltb b 128 ≡ false = le-ltb _ _ big in
          elim (cases_lt a 128) [
            | inl small ↦ let s : ltb a 128 ≡ true = lt-ltb _ _ small in rw (s, t) (omega arith)
            | inr large ↦
                let s : ltb a 128 ≡ false = le-ltb _ _ large in
                let up : a / 128 ≤ b / 128 = omega (arith, le) in
                rw (s, t) (omega (arith, low_first_le k (a / 128) (b / 128) up))
          ]
    ]

properties_le : (ps qs : List Property) → length (flat_map property_bytes ps) ≤ length (flat_map property_bytes qs) → length (properties ps) ≤ length (properties qs)
properties_le ps qs le =
    let m = length (flat_map property_bytes ps) in
    let n = length (flat_map property_bytes qs) in
    omega (arith, le, low_first_le 4 (length (flat_map property_bytes ps)) (length (flat_map property_bytes qs)) le, length-append (varint (length (flat_map property_bytes ps))) (flat_map property_bytes ps), length-append (varint (length (flat_map property_bytes qs))) (flat_map property_bytes qs))

-- ---- the ranges

put_values : (f : PacketProperties) (p : Property) → AreInRange f → IsInRange p → AreInRange (put f p)
put_values f (property.PayloadFormatIndicator n) h r = record { short = h.short; maxima = h.maxima }
put_values f (property.MessageExpiryInterval n) h r = record { short = h.short; maxima = h.maxima }
put_values f (property.ContentType t) h r = record { short = h.short; maxima = h.maxima }
put_values f (property.ResponseTopic t) h r = record { short = h.short; maxima = h.maxima }
put_values f (property.CorrelationData b) h r = record { short = r; maxima = h.maxima }
put_values f (property.SubscriptionIdentifier n) h r = record { short = h.short; maxima = h.maxima }
put_values f (property.SessionExpiryInterval n) h r = record { short = h.short; maxima = h.maxima }
put_values f (property.AuthenticationMethod t) h r = record { short = h.short; maxima = h.maxima }
put_values f (property.AuthenticationData b) h r = record { short = h.short; maxima = h.maxima }
put_values f (property.RequestProblemInformation n) h r = h
put_values f (property.RequestResponseInformation n) h r = h
put_values f (property.ReasonString t) h r = h
put_values f (property.ReceiveMaximum n) h r = record { short = h.short; maxima = record { receive_fits = r.0; packet_fits = h.maxima.packet_fits } }
put_values f (property.TopicAliasMaximum n) h r = h
put_values f (property.TopicAlias n) h r = record { short = h.short; maxima = h.maxima }
put_values f (property.UserProperty k v) h r = record { short = h.short; maxima = h.maxima }
put_values f (property.MaximumPacketSize n) h r = record { short = h.short; maxima = record { receive_fits = h.maxima.receive_fits; packet_fits = r.0 } }

collected_values : (where_ : PropertyOwner) (f : PacketProperties) (ps : List Property) → AreInRange f → AreAllowed where_ ps → AreInRange (collected f ps)
unfolding collected
collected_values where_ f [] h a = h
collected_values where_ f (p ∷ ps) h a = collected_values where_ (put f p) ps (put_values f p h a.1) a.2

nothing_values : AreInRange nothing
nothing_values = record { short = tt; maxima = record { receive_fits = tt; packet_fits = tt } }

-- ---- what a reader of properties learns

pub record ValuesFit (bytes : List ℕ) (f : PacketProperties) (rest : List ℕ) : Type 0 where
  pub fits : AreInRange f
  pub size_fits : length (properties (replayed f.expiry None (carried f))) + length rest ≤ length bytes

pub values_fits : (where_ : PropertyOwner) (bytes : List ℕ) (f : PacketProperties) (rest : List ℕ) → IsBytes bytes → values_at where_ bytes ≡ Ok (f, rest) → ValuesFit bytes f rest
values_fits where_ bytes f rest fits e =
    let g = values_takes where_ bytes (f, rest) fits e in
    let made : ValuesFit bytes (collected nothing g.ps) rest = record {
      fits = collected_values where_ nothing g.ps nothing_values g.are.allowed;
      size_fits =
          let inner : size (collected nothing g.ps) ≤ length (flat_map property_bytes g.ps) = all_size g.ps in
          omega (arith, properties_le (replayed (collected nothing g.ps).expiry None (carried (collected nothing g.ps))) g.ps inner, ap length g.takes.parts, length-append (properties g.ps) rest);
    } in
    subst (λ (v : PacketProperties). ValuesFit bytes v rest) (sym g.says) made

pub values_is : (where_ : PropertyOwner) (bytes rest : List ℕ) (r : Result PacketProperties PacketFault) → IsBytes bytes → Gives (λ f. (f, rest)) r (values_at where_ bytes) → IfOk r (λ f. AreInRange f)
values_is where_ bytes rest (Ok f) fits e = (values_fits where_ bytes f rest fits e).fits
values_is where_ bytes rest (Err d) fits e = tt

pub values_size : (where_ : PropertyOwner) (bytes rest : List ℕ) (r : Result PacketProperties PacketFault) → IsBytes bytes → Gives (λ f. (f, rest)) r (values_at where_ bytes)
    → IfOk r (λ f. length (properties (replayed f.expiry None (carried f))) + length rest ≤ length bytes)
values_size where_ bytes rest (Ok f) fits e = (values_fits where_ bytes f rest fits e).size_fits
values_size where_ bytes rest (Err d) fits e = tt
