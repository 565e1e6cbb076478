-- The properties that are sent with a message are read back from their bytes.
use Rattle.std.proofs.Common.{◌≡◌, ℕ, zero, suc, ◌<◌, ◌≤◌, ◌^◌, false, cond, eqb, List, [], ◌∷◌, ◌++◌, length, Option, Some, None, Result, Ok, Err, refl, sym, ap, ◌∙◌, append_assoc, arith, length-append}
use Rattle.std.specs.Prelude.{map, IfSome}
use Rattle.std.specs.List.{All, flat_map}
use Rattle.std.specs.Int.{w32}
use Rattle.std.proofs.lemmas.List.{append-nil}
use Rattle.rs_packet_field.specs.declared.fault.PacketFault.{PacketFault}
use Rattle.rs_packet_property.specs.declared.property.Property.{Property}
use Rattle.rs_packet_property.specs.declared.property.Property.TheVariants as property
use Rattle.rs_packet_property.specs.Values.{PacketProperties, PropertiesValue}
use Rattle.rs_packet_property.specs.Properties.{varint_end, number, identifier, value, property_bytes, counted, nothing, collected, IsShort, IsSubscriptionId}
use Rattle.rs_packet_field.specs.Reading.{◌>>=◌, byte_at, number_at, binary_at, varint_at}
use Rattle.rs_packet_property.specs.Carried.{optional, user_property, replayed}
use Rattle.rs_packet_field.proofs.Fields.{wide32, number_again, binary_again, varint_again}
use Rattle.rs_packet_property.specs.Bounds.{SectionFits}

-- a property of a message whose value has its form
abbrev pub HasForm : Property → Type 0
HasForm (property.PayloadFormatIndicator n) = Unit {0}
HasForm (property.MessageExpiryInterval n) = n < 2 ^ 32
HasForm (property.ContentType t) = IsShort t
HasForm (property.ResponseTopic t) = IsShort t
HasForm (property.CorrelationData b) = IsShort b
HasForm (property.SubscriptionIdentifier n) = n < varint_end
HasForm (property.SessionExpiryInterval n) = ⊥
HasForm (property.AuthenticationMethod t) = ⊥
HasForm (property.AuthenticationData b) = ⊥
HasForm (property.RequestProblemInformation n) = ⊥
HasForm (property.RequestResponseInformation n) = ⊥
HasForm (property.ReasonString t) = ⊥
HasForm (property.ReceiveMaximum n) = ⊥
HasForm (property.TopicAliasMaximum n) = ⊥
HasForm (property.TopicAlias n) = ⊥
HasForm (property.UserProperty k v) = IsShort k × IsShort v
HasForm (property.MaximumPacketSize n) = ⊥

abbrev pub HaveForms : List Property → Type 0
HaveForms [] = Unit {0}
HaveForms (p ∷ ps) = HasForm p × HaveForms ps

-- the property with this number whose value is at the front
abbrev value_back : ℕ → List ℕ → Result (Property × List ℕ) PacketFault
value_back n bytes =
    cond (eqb n 0x01) (byte_at bytes >>= λ x. Ok (property.PayloadFormatIndicator x.0, x.1))
    (cond (eqb n 0x02) (number_at w32 bytes >>= λ x. Ok (property.MessageExpiryInterval x.0, x.1))
    (cond (eqb n 0x03) (binary_at bytes >>= λ x. Ok (property.ContentType x.0, x.1))
    (cond (eqb n 0x08) (binary_at bytes >>= λ x. Ok (property.ResponseTopic x.0, x.1))
    (cond (eqb n 0x09) (binary_at bytes >>= λ x. Ok (property.CorrelationData x.0, x.1))
    (cond (eqb n 0x0B) (varint_at bytes >>= λ x. Ok (property.SubscriptionIdentifier x.0, x.1))
    (binary_at bytes >>= λ k. binary_at k.1 >>= λ v. Ok (property.UserProperty k.0 v.0, v.1)))))))

back_again : (p : Property) (rest : List ℕ) → HasForm p → value_back (number (identifier p)) (value p ++ rest) ≡ Ok (p, rest)
back_again (property.PayloadFormatIndicator n) rest h = refl
back_again (property.MessageExpiryInterval n) rest h = rw (number_again w32 (2 ^ 32) wide32 n rest h) refl
back_again (property.ContentType t) rest h = rw (binary_again t rest h) refl
back_again (property.ResponseTopic t) rest h = rw (binary_again t rest h) refl
back_again (property.CorrelationData b) rest h = rw (binary_again b rest h) refl
back_again (property.SubscriptionIdentifier n) rest h = rw (varint_again n rest h) refl
back_again (property.SessionExpiryInterval n) rest h = absurd h
back_again (property.AuthenticationMethod t) rest h = absurd h
back_again (property.AuthenticationData b) rest h = absurd h
back_again (property.RequestProblemInformation n) rest h = absurd h
back_again (property.RequestResponseInformation n) rest h = absurd h
back_again (property.ReasonString t) rest h = absurd h
back_again (property.ReceiveMaximum n) rest h = absurd h
back_again (property.TopicAliasMaximum n) rest h = absurd h
back_again (property.TopicAlias n) rest h = absurd h
back_again (property.UserProperty k v) rest h = ap (value_back 0x26) (append_assoc (counted k) (counted v) rest) ∙ rw (binary_again k (counted v ++ rest) h.0, binary_again v rest h.1) refl
back_again (property.MaximumPacketSize n) rest h = absurd h

abbrev with_more : (List ℕ → List Property) → Result (Property × List ℕ) PacketFault → List Property
with_more more (Ok x) = x.0 ∷ more x.1
with_more more (Err e) = []

all_back : ℕ → List ℕ → List Property
all_back zero bytes = []
all_back (suc n) [] = []
all_back (suc n) (b ∷ bytes) = with_more (all_back n) (value_back b bytes)

all_back_again : (n : ℕ) (ps : List Property) → length (flat_map property_bytes ps) ≤ n → HaveForms ps → all_back n (flat_map property_bytes ps) ≡ ps
unfolding all_back
all_back_again zero [] le h = refl
all_back_again (suc n) [] le h = refl
all_back_again zero (p ∷ ps) le h = absurd (omega (arith, le))
all_back_again (suc n) (p ∷ ps) le h =
    let small : length (flat_map property_bytes ps) ≤ n = omega (arith, le, length-append (value p) (flat_map property_bytes ps)) in
    ap (with_more (all_back n)) (back_again p (flat_map property_bytes ps) h.0) ∙ ap (λ (qs : List Property). p ∷ qs) (all_back_again n ps small h.1)

-- one list of bytes encodes one list of properties
encoded_is : (ps qs : List Property) → HaveForms ps → HaveForms qs → flat_map property_bytes ps ≡ flat_map property_bytes qs → ps ≡ qs
encoded_is ps qs h k e =
    sym (all_back_again (length (flat_map property_bytes ps)) ps (omega arith) h) ∙ ap (all_back (length (flat_map property_bytes ps))) e
    ∙ all_back_again (length (flat_map property_bytes ps)) qs (omega (arith, ap length e)) k

-- ---- those of a message have their forms

both_have : (ps qs : List Property) → HaveForms ps → HaveForms qs → HaveForms (ps ++ qs)
both_have [] qs h k = k
both_have (p ∷ ps) qs h k = (h.0, both_have ps qs h.1 k)

optional_has : {A : Type 0} (make : A → Property) (o : Option A) → IfSome o (λ x. HasForm (make x)) → HaveForms (optional make o)
optional_has make None h = tt
optional_has make (Some x) h = (h, tt)

any_format : (o : Option ℕ) → IfSome o (λ n. HasForm (property.PayloadFormatIndicator n))
any_format None = tt
any_format (Some n) = tt

in_range : (o : Option ℕ) → IfSome o IsSubscriptionId → IfSome o (λ n. HasForm (property.SubscriptionIdentifier n))
in_range None h = tt
in_range (Some n) h = h.1

users_have : (us : List (List ℕ × List ℕ)) → All (λ pair. IsShort pair.0 × IsShort pair.1) us → HaveForms (map user_property us)
users_have [] h = tt
users_have (u ∷ us) h = (h 0 u (omega arith), users_have us (λ k d lt. h (suc k) d (omega (arith, lt))))

replayed_has : (expiry subscription : Option ℕ) (p : PropertiesValue) → SectionFits expiry subscription p → HaveForms (replayed expiry subscription p)
replayed_has expiry subscription p h =
    both_have (optional property.PayloadFormatIndicator p.format) _ (optional_has property.PayloadFormatIndicator p.format (any_format p.format))
    (both_have (optional property.MessageExpiryInterval expiry) _ (optional_has property.MessageExpiryInterval expiry h.expiry_fits)
    (both_have (optional property.ContentType p.content_type) _ (optional_has property.ContentType p.content_type h.content_type_fits)
    (both_have (optional property.ResponseTopic p.response_topic) _ (optional_has property.ResponseTopic p.response_topic h.response_topic_fits)
    (both_have (optional property.CorrelationData p.correlation) _ (optional_has property.CorrelationData p.correlation h.correlation_fits)
    (both_have (optional property.SubscriptionIdentifier subscription) _ (optional_has property.SubscriptionIdentifier subscription (in_range subscription h.subscription_fits))
    (users_have p.user h.user_fits))))))

-- ---- and say what the message has

abbrev said : Option ℕ → Option ℕ → Option (List ℕ) → Option (List ℕ) → Option (List ℕ) → Option ℕ → List (List ℕ × List ℕ) → PacketProperties
said format expiry content_type response_topic correlation subscription user = record {
  format = format;
  expiry = expiry;
  content_type = content_type;
  response_topic = response_topic;
  correlation = correlation;
  subscription = subscription;
  session_expiry = None;
  method = None;
  authentication = false;
  receive_maximum = None;
  alias = None;
  user = user;
  packet_maximum = None;
}

format_said : (o : Option ℕ) (ps : List Property) → collected nothing (optional property.PayloadFormatIndicator o ++ ps) ≡ collected (said o None None None None None []) ps
unfolding collected
format_said None ps = refl
format_said (Some n) ps = refl

module _ (f : Option ℕ) where
  expiry_said : (o : Option ℕ) (ps : List Property) → collected (said f None None None None None []) (optional property.MessageExpiryInterval o ++ ps) ≡ collected (said f o None None None None []) ps
  unfolding collected
  expiry_said None ps = refl
  expiry_said (Some n) ps = refl

module _ (f e : Option ℕ) where
  content_type_said : (o : Option (List ℕ)) (ps : List Property) → collected (said f e None None None None []) (optional property.ContentType o ++ ps) ≡ collected (said f e o None None None []) ps
  unfolding collected
  content_type_said None ps = refl
  content_type_said (Some t) ps = refl

module _ (f e : Option ℕ) (c : Option (List ℕ)) where
  response_topic_said : (o : Option (List ℕ)) (ps : List Property) → collected (said f e c None None None []) (optional property.ResponseTopic o ++ ps) ≡ collected (said f e c o None None []) ps
  unfolding collected
  response_topic_said None ps = refl
  response_topic_said (Some t) ps = refl

module _ (f e : Option ℕ) (c r : Option (List ℕ)) where
  correlation_said : (o : Option (List ℕ)) (ps : List Property) → collected (said f e c r None None []) (optional property.CorrelationData o ++ ps) ≡ collected (said f e c r o None []) ps
  unfolding collected
  correlation_said None ps = refl
  correlation_said (Some b) ps = refl

module _ (f e : Option ℕ) (c r b : Option (List ℕ)) where
  subscription_said : (o : Option ℕ) (ps : List Property) → collected (said f e c r b None []) (optional property.SubscriptionIdentifier o ++ ps) ≡ collected (said f e c r b o []) ps
  unfolding collected
  subscription_said None ps = refl
  subscription_said (Some n) ps = refl

module _ (f e : Option ℕ) (c r b : Option (List ℕ)) (s : Option ℕ) where
  users_said : (us vs : List (List ℕ × List ℕ)) → collected (said f e c r b s us) (map user_property vs) ≡ said f e c r b s (us ++ vs)
  unfolding collected
  users_said us [] = ap (said f e c r b s) (sym (append-nil us))
  users_said us ((k, v) ∷ vs) = users_said (us ++ (k, v) ∷ []) vs ∙ ap (said f e c r b s) (append_assoc us ((k, v) ∷ []) vs)

all_said : (e s : Option ℕ) (p : PropertiesValue) → collected nothing (replayed e s p) ≡ said p.format e p.content_type p.response_topic p.correlation s p.user
all_said e s p =
    format_said p.format _ ∙ expiry_said p.format e _ ∙ content_type_said p.format e p.content_type _ ∙ response_topic_said p.format e p.content_type p.response_topic _
    ∙ correlation_said p.format e p.content_type p.response_topic p.correlation _ ∙ subscription_said p.format e p.content_type p.response_topic p.correlation s _
    ∙ users_said p.format e p.content_type p.response_topic p.correlation s [] p.user

properties_is : (p q : PropertiesValue) → p.format ≡ q.format → p.content_type ≡ q.content_type → p.response_topic ≡ q.response_topic → p.correlation ≡ q.correlation → p.user ≡ q.user → p ≡ q
properties_is p q a b c d e = made a b c d e
  where
    made : {x y : Option ℕ} {b1 b2 c1 c2 d1 d2 : Option (List ℕ)} {u v : List (List ℕ × List ℕ)} → x ≡ y → b1 ≡ b2 → c1 ≡ c2 → d1 ≡ d2 → u ≡ v
        → ◌≡◌ {A = PropertiesValue} (record { format = x; content_type = b1; response_topic = c1; correlation = d1; user = u }) (record { format = y; content_type = b2; response_topic = c2; correlation = d2; user = v })
    made a b c d e = rw (a, b, c, d, e) refl

-- one list of bytes is of one interval, one Subscription Identifier and one message's properties
pub section_is : (e s : Option ℕ) (p : PropertiesValue) (f t : Option ℕ) (q : PropertiesValue) → SectionFits e s p → SectionFits f t q
    → flat_map property_bytes (replayed e s p) ≡ flat_map property_bytes (replayed f t q) → (e ≡ f) × (s ≡ t) × (p ≡ q)
section_is e s p f t q h k same =
    let list : replayed e s p ≡ replayed f t q = encoded_is (replayed e s p) (replayed f t q) (replayed_has e s p h) (replayed_has f t q k) same in
    let values : said p.format e p.content_type p.response_topic p.correlation s p.user ≡ said q.format f q.content_type q.response_topic q.correlation t q.user = sym (all_said e s p) ∙ ap (collected nothing) list ∙ all_said f t q in (
      ap (λ (v : PacketProperties). v.expiry) values,
      ap (λ (v : PacketProperties). v.subscription) values,
      properties_is p q (ap (λ (v : PacketProperties). v.format) values) (ap (λ (v : PacketProperties). v.content_type) values) (ap (λ (v : PacketProperties). v.response_topic) values) (ap (λ (v : PacketProperties). v.correlation) values) (ap (λ (v : PacketProperties). v.user) values),
    )
