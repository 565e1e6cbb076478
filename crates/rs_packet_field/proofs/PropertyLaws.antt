-- A property that is read is encoded so, and what is encoded so is read.
use Rattle.std.proofs.Common.{◌≡◌, ℕ, zero, suc, ◌<◌, ◌≤◌, ◌^◌, Bool, true, false, cond, not, ltb, ◌||◌, List, [], ◌∷◌, ◌++◌, length, slice_index_or, slice_set, Option, Some, None, Result, Ok, Err, refl, sym, ap, subst, ◌∙◌, append_assoc, arith}
use Rattle.std.specs.List.{flat_map}
use Rattle.std.specs.Int.{w16, w32}
use Rattle.std.proofs.lemmas.Bool.{ltb-true, le-ltb, lt-ltb}
use Rattle.std.proofs.lemmas.List.{length-append}
use Rattle.rs_packet_field.specs.declared.fault.PacketFault.{PacketFault}
use Rattle.rs_packet_field.specs.declared.fault.PacketFault.TheVariants.{Protocol}
use Rattle.rs_packet_property.specs.declared.property.Identifier.{Identifier}
use Rattle.rs_packet_property.specs.declared.property.Identifier.TheVariants as id
use Rattle.rs_packet_property.specs.declared.property.Property.{Property}
use Rattle.rs_packet_property.specs.declared.property.Property.TheVariants as property
use Rattle.rs_packet_property.specs.declared.property.PropertyOwner.{PropertyOwner}
use Rattle.rs_topic.specs.Topics.{is_plain}
use Rattle.rs_packet_property.specs.Properties.{varint, varint_end, number, identifier, value, property_bytes, may_stand, may_repeat, IsInRange, AreAllowed, AreProperties, properties, none_yet, counted, nothing, collected}
use Rattle.rs_packet_property.specs.Values.{PacketProperties}
use Rattle.rs_packet_field.specs.Reading.{◌>>=◌, varint_at, byte_at, number_at, part_at, binary_at, text_at, wanting, misplaced, judged, value_at, property_at, properties_in, properties_at, values_at}
use Rattle.rs_packet_property.specs.Properties.{identifier_of}
use Rattle.rs_packet_field.proofs.Numbers.{bind_ok, ok_is}
use Rattle.rs_packet_property.proofs.Identifiers.{identifier_of_is, identifier_again, one_byte, number_small, AreNew, once_when_new, new_when_once}
use Rattle.rs_packet_field.proofs.Fields.{IsBytes, IsBytes-rest, Takes, Takes-then, wide16, wide32, number_takes, number_again, part_takes, part_again, binary_takes, binary_again, text_takes, text_again, varint_takes, varint_again}

pub wanted : {A : Type 0} (b : Bool) (x y : A) → wanting b x ≡ Ok y → (b ≡ true) × (x ≡ y)
wanted true x y e = (refl, ok_is x y e)
wanted false x y e = absurd cc

pub byte_takes : (bytes : List ℕ) (x : ℕ × List ℕ) → IsBytes bytes → byte_at bytes ≡ Ok x → Takes bytes (x.0 ∷ []) x.1 × (x.0 < 256)
byte_takes [] x fits e = absurd cc
byte_takes (b ∷ bytes) x fits e = subst (λ (y : ℕ × List ℕ). Takes (b ∷ bytes) (y.0 ∷ []) y.1 × (y.0 < 256)) (ok_is (b, bytes) x e) (record { parts = refl; rest_fits = IsBytes-rest b bytes fits }, fits 0)

-- ---- a value

-- what reading a value gives
abbrev IsTaken : Identifier → List ℕ → Property × List ℕ → Type 0
IsTaken i bytes x = (identifier x.0 ≡ i) × Takes bytes (value x.0) x.1 × IsInRange x.0

module _ (i : Identifier) (bytes : List ℕ) (x : Property × List ℕ) (fits : IsBytes bytes) where
  -- a number with no test, and with one
  plain_takes : {A : Type 0} (read : Result (A × List ℕ) PacketFault) (make : A → Property) → ((y : A × List ℕ) → read ≡ Ok y → IsTaken i bytes (make y.0, y.1)) → (read >>= λ n. Ok (make n.0, n.1)) ≡ Ok x → IsTaken i bytes x
  plain_takes read make f e =
      let b = bind_ok read (λ n. Ok (make n.0, n.1)) x e in
      subst (IsTaken i bytes) (ok_is (make b.0.0, b.0.1) x b.2) (f b.0 b.1)

  tested_takes : {A : Type 0} (read : Result (A × List ℕ) PacketFault) (test : A → Bool) (make : A → Property) → ((y : A × List ℕ) → read ≡ Ok y → test y.0 ≡ true → IsTaken i bytes (make y.0, y.1)) → (read >>= λ n. wanting (test n.0) (make n.0, n.1)) ≡ Ok x → IsTaken i bytes x
  tested_takes read test make f e =
      let b = bind_ok read (λ n. wanting (test n.0) (make n.0, n.1)) x e in
      let w = wanted (test b.0.0) (make b.0.0, b.0.1) x b.2 in
      subst (IsTaken i bytes) w.1 (f b.0 b.1 w.0)

pub value_takes : (i : Identifier) (bytes : List ℕ) (x : Property × List ℕ) → IsBytes bytes → value_at i bytes ≡ Ok x → IsTaken i bytes x
unfolding value_at
value_takes id.PayloadFormatIndicator bytes x fits e = tested_takes _ bytes x fits (byte_at bytes) (λ n. ltb n 2) property.PayloadFormatIndicator (λ y h t. let g = byte_takes bytes y fits h in (refl, g.0, ltb-true _ _ t)) e
value_takes id.MessageExpiryInterval bytes x fits e = plain_takes _ bytes x fits (number_at w32 bytes) property.MessageExpiryInterval (λ y h. let g = number_takes w32 (2 ^ 32) wide32 bytes y fits h in (refl, g.0, g.1)) e
value_takes id.ContentType bytes x fits e = plain_takes _ bytes x fits (text_at bytes) property.ContentType (λ y h. let g = text_takes bytes y fits h in (refl, g.0, g.1)) e
value_takes id.ResponseTopic bytes x fits e = tested_takes _ bytes x fits (text_at bytes) (λ n. is_plain n) property.ResponseTopic (λ y h t. let g = text_takes bytes y fits h in (refl, g.0, (g.1, t))) e
value_takes id.CorrelationData bytes x fits e = plain_takes _ bytes x fits (binary_at bytes) property.CorrelationData (λ y h. let g = binary_takes bytes y fits h in (refl, g.0, g.1)) e
value_takes id.SubscriptionIdentifier bytes x fits e = tested_takes _ bytes x fits (varint_at bytes) (λ n. ltb 0 n) property.SubscriptionIdentifier (λ y h t. let g = varint_takes bytes y fits h in (refl, g.0, (ltb-true _ _ t, g.1))) e
value_takes id.SessionExpiryInterval bytes x fits e = plain_takes _ bytes x fits (number_at w32 bytes) property.SessionExpiryInterval (λ y h. let g = number_takes w32 (2 ^ 32) wide32 bytes y fits h in (refl, g.0, g.1)) e
value_takes id.AuthenticationMethod bytes x fits e = plain_takes _ bytes x fits (text_at bytes) property.AuthenticationMethod (λ y h. let g = text_takes bytes y fits h in (refl, g.0, g.1)) e
value_takes id.AuthenticationData bytes x fits e = plain_takes _ bytes x fits (binary_at bytes) property.AuthenticationData (λ y h. let g = binary_takes bytes y fits h in (refl, g.0, g.1)) e
value_takes id.RequestProblemInformation bytes x fits e = tested_takes _ bytes x fits (byte_at bytes) (λ n. ltb n 2) property.RequestProblemInformation (λ y h t. let g = byte_takes bytes y fits h in (refl, g.0, ltb-true _ _ t)) e
value_takes id.RequestResponseInformation bytes x fits e = tested_takes _ bytes x fits (byte_at bytes) (λ n. ltb n 2) property.RequestResponseInformation (λ y h t. let g = byte_takes bytes y fits h in (refl, g.0, ltb-true _ _ t)) e
value_takes id.ServerReference bytes x fits e = absurd cc
value_takes id.ReasonString bytes x fits e = plain_takes _ bytes x fits (text_at bytes) property.ReasonString (λ y h. let g = text_takes bytes y fits h in (refl, g.0, g.1)) e
value_takes id.ReceiveMaximum bytes x fits e = tested_takes _ bytes x fits (number_at w16 bytes) (λ n. ltb 0 n) property.ReceiveMaximum (λ y h t. let g = number_takes w16 (2 ^ 16) wide16 bytes y fits h in (refl, g.0, (ltb-true _ _ t, g.1))) e
value_takes id.TopicAliasMaximum bytes x fits e = plain_takes _ bytes x fits (number_at w16 bytes) property.TopicAliasMaximum (λ y h. let g = number_takes w16 (2 ^ 16) wide16 bytes y fits h in (refl, g.0, g.1)) e
value_takes id.TopicAlias bytes x fits e = plain_takes _ bytes x fits (number_at w16 bytes) property.TopicAlias (λ y h. let g = number_takes w16 (2 ^ 16) wide16 bytes y fits h in (refl, g.0, g.1)) e
value_takes id.UserProperty bytes x fits e =
    let k = bind_ok (text_at bytes) (λ k. text_at k.1 >>= λ v. Ok (property.UserProperty k.0 v.0, v.1)) x e in
    let v = bind_ok (text_at k.0.1) (λ v. Ok (property.UserProperty k.0.0 v.0, v.1)) x k.2 in
    let g = text_takes bytes k.0 fits k.1 in
    let h = text_takes k.0.1 v.0 g.0.rest_fits v.1 in
    subst (IsTaken id.UserProperty bytes) (ok_is (property.UserProperty k.0.0 v.0.0, v.0.1) x v.2) (refl, Takes-then bytes (counted k.0.0) k.0.1 (counted v.0.0) v.0.1 g.0 h.0, (g.1, h.1))
value_takes id.MaximumPacketSize bytes x fits e = tested_takes _ bytes x fits (number_at w32 bytes) (λ n. ltb 0 n) property.MaximumPacketSize (λ y h t. let g = number_takes w32 (2 ^ 32) wide32 bytes y fits h in (refl, g.0, (ltb-true _ _ t, g.1))) e

pub value_again : (p : Property) (rest : List ℕ) → IsInRange p → value_at (identifier p) (value p ++ rest) ≡ Ok (p, rest)
unfolding value_at
value_again (property.PayloadFormatIndicator n) rest h = rw (lt-ltb n 2 h) refl
value_again (property.MessageExpiryInterval n) rest h = rw (number_again w32 (2 ^ 32) wide32 n rest h) refl
value_again (property.ContentType t) rest h = rw (text_again t rest h) refl
value_again (property.ResponseTopic t) rest h = rw (text_again t rest h.0, h.1) refl
value_again (property.CorrelationData b) rest h = rw (binary_again b rest h) refl
value_again (property.SubscriptionIdentifier n) rest h = rw (varint_again n rest h.1, lt-ltb 0 n h.0) refl
value_again (property.SessionExpiryInterval n) rest h = rw (number_again w32 (2 ^ 32) wide32 n rest h) refl
value_again (property.AuthenticationMethod t) rest h = rw (text_again t rest h) refl
value_again (property.AuthenticationData b) rest h = rw (binary_again b rest h) refl
value_again (property.RequestProblemInformation n) rest h = rw (lt-ltb n 2 h) refl
value_again (property.RequestResponseInformation n) rest h = rw (lt-ltb n 2 h) refl
value_again (property.ReasonString t) rest h = rw (text_again t rest h) refl
value_again (property.ReceiveMaximum n) rest h = rw (number_again w16 (2 ^ 16) wide16 n rest h.1, lt-ltb 0 n h.0) refl
value_again (property.TopicAliasMaximum n) rest h = rw (number_again w16 (2 ^ 16) wide16 n rest h) refl
value_again (property.TopicAlias n) rest h = rw (number_again w16 (2 ^ 16) wide16 n rest h) refl
value_again (property.UserProperty k v) rest h = ap (value_at id.UserProperty) (append_assoc (counted k) (counted v) rest) ∙ rw (text_again k (counted v ++ rest) h.0, text_again v rest h.1) refl
value_again (property.MaximumPacketSize n) rest h = rw (number_again w32 (2 ^ 32) wide32 n rest h.1, lt-ltb 0 n h.0) refl

-- ---- identifiers

-- what is judged right is what was read, may stand and is new
pub record IsJudged (where_ : PropertyOwner) (before : List Bool) (i : Identifier) : Type 0 where
  pub stands : may_stand where_ i ≡ true
  pub new : (may_repeat i || not (slice_index_or before (number i) false)) ≡ true

judged_is : (where_ : PropertyOwner) (before : List Bool) (o : Option Identifier) (i : Identifier) → judged where_ before o ≡ Ok i → (o ≡ Some i) × IsJudged where_ before i
judged_is where_ before None i e = absurd cc
judged_is where_ before (Some j) i e = go (may_stand where_ j) (may_repeat j || not (slice_index_or before (number j) false)) refl refl e
  where
    go : (a b : Bool) → may_stand where_ j ≡ a → (may_repeat j || not (slice_index_or before (number j) false)) ≡ b → cond (not a) (Err (misplaced where_ j)) (cond b (Ok j) (Err Protocol)) ≡ Ok i → (◌≡◌ {A = Option Identifier} (Some j) (Some i)) × IsJudged where_ before i
    go true true s n e = subst (λ k. (◌≡◌ {A = Option Identifier} (Some j) (Some k)) × IsJudged where_ before k) (ok_is j i e) (refl, record { stands = s; new = n })
    go true false s n e = absurd cc
    go false b s n e = absurd cc

judged_again : (where_ : PropertyOwner) (before : List Bool) (i : Identifier) → IsJudged where_ before i → judged where_ before (Some i) ≡ Ok i
judged_again where_ before i h = rw (h.stands, h.new) refl

-- ---- a property

identifier_byte : (i j : Identifier) (n : ℕ) → i ≡ j → number j ≡ n → varint n ≡ number i ∷ []
identifier_byte i j n same is = rw (same, ← is) (one_byte j)

section_is : (n : ℕ) (section : List ℕ) (ps : List Property) → length (flat_map property_bytes ps) ≡ n → section ≡ flat_map property_bytes ps → varint n ++ section ≡ properties ps
section_is n section ps len is = rw (is, ← len) refl

pub property_takes : (where_ : PropertyOwner) (before : List Bool) (bytes : List ℕ) (x : Property × List ℕ) → IsBytes bytes → property_at where_ before bytes ≡ Ok x
    → Takes bytes (property_bytes x.0) x.1 × IsInRange x.0 × IsJudged where_ before (identifier x.0)
unfolding property_at
property_takes where_ before bytes x fits e =
    let n = bind_ok (varint_at bytes) (λ n. judged where_ before (identifier_of n.0) >>= λ i. value_at i n.1) x e in
    let i = bind_ok (judged where_ before (identifier_of n.0.0)) (λ i. value_at i n.0.1) x n.2 in
    let t = varint_takes bytes n.0 fits n.1 in
    let j = judged_is where_ before (identifier_of n.0.0) i.0 i.1 in
    let v = value_takes i.0 n.0.1 x t.0.rest_fits i.2 in
    let is : number i.0 ≡ n.0.0 = identifier_of_is n.0.0 i.0 j.0 in
    let byte : varint n.0.0 ≡ number (identifier x.0) ∷ [] = identifier_byte (identifier x.0) i.0 n.0.0 v.0 is in
    let both = Takes-then bytes (varint n.0.0) n.0.1 (value x.0) x.1 t.0 v.1 in
    (subst (λ (front : List ℕ). Takes bytes (front ++ value x.0) x.1) byte both, v.2, subst (IsJudged where_ before) (sym v.0) j.1)

pub property_again : (where_ : PropertyOwner) (before : List Bool) (p : Property) (rest : List ℕ) → IsInRange p → IsJudged where_ before (identifier p) → property_at where_ before (property_bytes p ++ rest) ≡ Ok (p, rest)
unfolding property_at
property_again where_ before p rest h j =
    let i = identifier p in
    let small : number i < varint_end = number_small i in
    let front : varint_at (number i ∷ (value p ++ rest)) ≡ Ok (number i, value p ++ rest) = ap (λ (x : List ℕ). varint_at (x ++ (value p ++ rest))) (sym (one_byte i)) ∙ varint_again (number i) (value p ++ rest) small in
    rw (front, identifier_again i, judged_again where_ before i j) (value_again p rest h)

-- ---- the properties

pub properties_take : (n : ℕ) (where_ : PropertyOwner) (before : List Bool) (bytes : List ℕ) (ps : List Property) → IsBytes bytes → length bytes ≤ n → properties_in n where_ before bytes ≡ Ok ps
    → (bytes ≡ flat_map property_bytes ps) × AreAllowed where_ ps × AreNew before ps
unfolding properties_in
properties_take n where_ before [] ps fits le e = subst (λ (qs : List Property). ([] ≡ flat_map property_bytes qs) × AreAllowed where_ qs × AreNew before qs) (ok_is [] ps e) (refl, tt, tt)
properties_take zero where_ before (b ∷ bytes) ps fits le e = absurd (omega (arith, le))
properties_take (suc n) where_ before (b ∷ bytes) ps fits le e =
    let p = bind_ok (property_at where_ before (b ∷ bytes)) (λ p. properties_in n where_ (slice_set before (number (identifier p.0)) true) p.1 >>= λ ps. Ok (p.0 ∷ ps)) ps e in
    let q = bind_ok (properties_in n where_ (slice_set before (number (identifier p.0.0)) true) p.0.1) (λ ps. Ok (p.0.0 ∷ ps)) ps p.2 in
    let t = property_takes where_ before (b ∷ bytes) p.0 fits p.1 in
    let shorter : length p.0.1 ≤ n = omega (arith, le, simp length-append at (ap length t.0.parts)) in
    let others = properties_take n where_ (slice_set before (number (identifier p.0.0)) true) p.0.1 q.0 t.0.rest_fits shorter q.1 in
    let whole : b ∷ bytes ≡ flat_map property_bytes (p.0.0 ∷ q.0) = t.0.parts ∙ ap (λ (r : List ℕ). property_bytes p.0.0 ++ r) others.0 in
    subst (λ (qs : List Property). (b ∷ bytes ≡ flat_map property_bytes qs) × AreAllowed where_ qs × AreNew before qs) (ok_is (p.0.0 ∷ q.0) ps q.2) (whole, (t.2.stands, t.1, others.1), (t.2.new, others.2))

pub properties_again : (n : ℕ) (where_ : PropertyOwner) (before : List Bool) (ps : List Property) → length (flat_map property_bytes ps) ≤ n → AreAllowed where_ ps → AreNew before ps → properties_in n where_ before (flat_map property_bytes ps) ≡ Ok ps
unfolding properties_in
properties_again n where_ before [] le allowed new = refl
properties_again zero where_ before (p ∷ ps) le allowed new = absurd (omega (arith, le))
properties_again (suc n) where_ before (p ∷ ps) le allowed new =
    let first = property_again where_ before p (flat_map property_bytes ps) allowed.1 (record { stands = allowed.0; new = new.0 }) in
    let small : length (flat_map property_bytes ps) ≤ n = omega (arith, le, length-append (value p) (flat_map property_bytes ps)) in
    rw (first, properties_again n where_ (slice_set before (number (identifier p)) true) ps small allowed.2 new.1) refl

pub all_take : (where_ : PropertyOwner) (bytes : List ℕ) (x : List Property × List ℕ) → IsBytes bytes → properties_at where_ bytes ≡ Ok x → Takes bytes (properties x.0) x.1 × AreProperties where_ x.0
unfolding properties_at
all_take where_ bytes x fits e =
    let n = bind_ok (varint_at bytes) (λ n. part_at n.0 n.1 >>= λ section. properties_in (length section.0) where_ none_yet section.0 >>= λ ps. Ok (ps, section.1)) x e in
    let s = bind_ok (part_at n.0.0 n.0.1) (λ section. properties_in (length section.0) where_ none_yet section.0 >>= λ ps. Ok (ps, section.1)) x n.2 in
    let ps = bind_ok (properties_in (length s.0.0) where_ none_yet s.0.0) (λ ps. Ok (ps, s.0.1)) x s.2 in
    let t = varint_takes bytes n.0 fits n.1 in
    let part = part_takes n.0.0 n.0.1 s.0 t.0.rest_fits s.1 in
    let in_ = properties_take (length s.0.0) where_ none_yet s.0.0 ps.0 part.2 (omega arith) ps.1 in
    let len : length (flat_map property_bytes ps.0) ≡ n.0.0 = ap length (sym in_.0) ∙ part.1 in
    let both = Takes-then bytes (varint n.0.0) n.0.1 s.0.0 s.0.1 t.0 part.0 in
    let same : varint n.0.0 ++ s.0.0 ≡ properties ps.0 = section_is n.0.0 s.0.0 ps.0 len in_.0 in
    let made : List Property × List ℕ = (ps.0, s.0.1) in
    subst (λ (y : List Property × List ℕ). Takes bytes (properties y.0) y.1 × AreProperties where_ y.0) (ok_is made x ps.2)
    (subst (λ (front : List ℕ). Takes bytes front s.0.1) same both, record { allowed = in_.1; once = (once_when_new none_yet ps.0 refl in_.2).1; short = omega (arith, len, t.1) })

pub all_again : (where_ : PropertyOwner) (ps : List Property) (rest : List ℕ) → AreProperties where_ ps → properties_at where_ (properties ps ++ rest) ≡ Ok (ps, rest)
unfolding properties_at
all_again where_ ps rest h =
    let text = flat_map property_bytes ps in
    let regrouped : properties ps ++ rest ≡ varint (length text) ++ (text ++ rest) = append_assoc (varint (length text)) text rest in
    ap (properties_at where_) regrouped ∙ rw (varint_again (length text) (text ++ rest) h.short, part_again text rest, properties_again (length text) where_ none_yet ps (omega arith) h.allowed (new_when_once ps h.once)) refl

-- ---- the properties, by what they say

pub record ValuesIn (where_ : PropertyOwner) (bytes : List ℕ) (x : PacketProperties × List ℕ) : Type 0 where
  pub ps : List Property
  pub takes : Takes bytes (properties ps) x.1
  pub are : AreProperties where_ ps
  pub says : x.0 ≡ collected nothing ps

pub values_takes : (where_ : PropertyOwner) (bytes : List ℕ) (x : PacketProperties × List ℕ) → IsBytes bytes → values_at where_ bytes ≡ Ok x → ValuesIn where_ bytes x
unfolding values_at
values_takes where_ bytes x fits e =
    let b = bind_ok (properties_at where_ bytes) (λ ps. Ok (collected nothing ps.0, ps.1)) x e in
    let t = all_take where_ bytes b.0 fits b.1 in
    let made : PacketProperties × List ℕ = (collected nothing b.0.0, b.0.1) in
    subst (ValuesIn where_ bytes) (ok_is made x b.2) (record { ps = b.0.0; takes = t.0; are = t.1; says = refl })

pub values_again : (where_ : PropertyOwner) (ps : List Property) (rest : List ℕ) → AreProperties where_ ps → values_at where_ (properties ps ++ rest) ≡ Ok (collected nothing ps, rest)
unfolding values_at
values_again where_ ps rest h = rw (all_again where_ ps rest h) refl

-- a section of length 0 is taken at once
pub values_none : (where_ : PropertyOwner) (bytes rest : List ℕ) → varint_at bytes ≡ Ok (0, rest) → values_at where_ bytes ≡ Ok (nothing, rest)
unfolding values_at properties_at properties_in collected
values_none where_ bytes rest h = rw (h, le-ltb (length rest) 0 (omega arith)) refl
