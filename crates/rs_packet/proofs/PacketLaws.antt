-- What is read is encoded so, and what is encoded so is read: PUBLISH, SUBSCRIBE, the acknowledgements and DISCONNECT.
use Rattle.std.proofs.Common.{◌≡◌, ℕ, zero, suc, ◌+◌, ◌/◌, ◌%◌, ◌<◌, ◌≤◌, ◌^◌, Bool, true, false, cond, not, eqb, ltb, List, [], ◌∷◌, ◌++◌, length, Option, Some, None, Result, Ok, Err, refl, sym, ap, subst, ◌∙◌, append_assoc, arith}
use Rattle.std.specs.List.{flat_map}
use Rattle.std.specs.Prelude.{◌&&◌, is_none, map}
use Rattle.std.specs.Str.{bytes_eq, is_utf8, chars}
use lib.Utf8.{encode}
use Rattle.std.specs.Bool.{Decides}
use Rattle.std.proofs.lemmas.Slice.Eq.{bytes_eq-Decides}
use Rattle.rs_packet.specs.declared.packet.ConnectFlags.{ConnectFlags}
use Rattle.rs_packet.specs.declared.packet.Connect.{Connect}
use Rattle.std.specs.Int.{w16}
use Rattle.std.proofs.lemmas.Bool.{ltb-true, lt-ltb, eqb-false, eqb-true, ne_eqb}
use Rattle.std.proofs.lemmas.List.{length-append, append-nil}
use Rattle.rs_packet_field.specs.declared.fault.PacketFault.{PacketFault}
use Rattle.rs_packet_field.specs.declared.fault.PacketFault.TheVariants.{Malformed, Protocol, Version}
use Rattle.rs_packet_property.specs.declared.property.PropertyOwner.{PropertyOwner}
use Rattle.rs_packet_property.specs.declared.property.PropertyOwner.TheVariants as owner
use Rattle.rs_message.specs.declared.qos.Qos.{Qos}
use Rattle.rs_message.specs.declared.qos.Qos.TheVariants.{AtMostOnce, AtLeastOnce, ExactlyOnce}
use Rattle.rs_packet.specs.declared.packet.RetainHandling.{RetainHandling}
use Rattle.rs_packet.specs.declared.packet.RetainHandling.TheVariants.{Always, IfNew, Never}
use Rattle.rs_packet.specs.declared.packet.Options.{Options}
use Rattle.rs_packet.specs.declared.packet.Publish.{Publish}
use Rattle.rs_packet.specs.declared.packet.Acknowledgement.{Acknowledgement}
use Rattle.rs_topic.specs.Texts.{IsText}
use Rattle.rs_topic.specs.Topics.{filter_of}
use Rattle.rs_packet_property.specs.Values.{PacketProperties}
use Rattle.rs_packet.specs.Values.{SubscribeValue, UnsubscribeValue, Asked, Filter}
use Rattle.rs_packet_property.specs.Properties.{two, counted, IsShort, properties, collected, nothing, low_first, property_bytes}
use Rattle.rs_packet_field.specs.Reading.{◌>>=◌, number_at, byte_at, binary_at, text_at, wanting, values_at}
use Rattle.rs_packet.specs.Grammar.{bit, handling, IsId, IdFits, id_bytes, publication, EncodesPublish, EncodesCode, EncodesAcknowledgement, options_byte, AreTexts, text_of, filter_bytes, asked_of, EncodesSubscribe, EncodesUnsubscribe, protocol, flags_byte, FlagsFit, EncodesIf, EncodesPayload, MethodFits, EncodesConnect}
use Rattle.rs_message.specs.Sizes.{level}
use Rattle.rs_packet.specs.PacketReading.{id_at, id_for, publish_at, ended, code_at, acknowledgement_at, qos_of, handling_of, options_of, asked_at, all_in, some_of, subscribe_at, filter_at, unsubscribe_at, mqtt, flags_of, past_text, past_binary, client_at, version_at, connect_at}
use Rattle.rs_packet_field.proofs.Numbers.{bind_ok, ok_is}
use Rattle.rs_packet_field.proofs.Fields.{IsBytes, IsBytes-rest, Takes, Takes-then, wide16, number_takes, number_again, binary_takes, binary_again, text_takes, text_again}
use Rattle.rs_packet_field.proofs.PropertyLaws.{wanted, byte_takes, values_takes, values_again}

-- ---- packet identifiers

pub id_takes : (bytes : List ℕ) (x : ℕ × List ℕ) → IsBytes bytes → id_at bytes ≡ Ok x → Takes bytes (two x.0) x.1 × IsId x.0
unfolding id_at
id_takes bytes x fits e =
    let b = bind_ok (number_at w16 bytes) (λ n. wanting (ltb 0 n.0) (n.0, n.1)) x e in
    let w = wanted (ltb 0 b.0.0) (b.0.0, b.0.1) x b.2 in
    let t = number_takes w16 (2 ^ 16) wide16 bytes b.0 fits b.1 in
    subst (λ (y : ℕ × List ℕ). Takes bytes (two y.0) y.1 × IsId y.0) w.1 (t.0, (ltb-true _ _ w.0, t.1))

pub id_again : (n : ℕ) (rest : List ℕ) → IsId n → id_at (two n ++ rest) ≡ Ok (n, rest)
unfolding id_at
id_again n rest h = rw (number_again w16 (2 ^ 16) wide16 n rest h.1, lt-ltb 0 n h.0) refl

some_id : (qos : Qos) (bytes : List ℕ) (x : Option ℕ × List ℕ) → IsBytes bytes → ((n : ℕ) → IsId n → IdFits qos (Some n)) → (id_at bytes >>= λ n. Ok (Some n.0, n.1)) ≡ Ok x → Takes bytes (id_bytes x.0) x.1 × IdFits qos x.0
some_id qos bytes x fits f e =
    let b = bind_ok (id_at bytes) (λ n. Ok (Some n.0, n.1)) x e in
    let t = id_takes bytes b.0 fits b.1 in
    let made : Option ℕ × List ℕ = (Some b.0.0, b.0.1) in
    subst (λ (y : Option ℕ × List ℕ). Takes bytes (id_bytes y.0) y.1 × IdFits qos y.0) (ok_is made x b.2) (t.0, f b.0.0 t.1)

pub id_for_takes : (qos : Qos) (bytes : List ℕ) (x : Option ℕ × List ℕ) → IsBytes bytes → id_for qos bytes ≡ Ok x → Takes bytes (id_bytes x.0) x.1 × IdFits qos x.0
id_for_takes AtMostOnce bytes x fits e =
    let made : Option ℕ × List ℕ = (None, bytes) in
    subst (λ (y : Option ℕ × List ℕ). Takes bytes (id_bytes y.0) y.1 × IdFits AtMostOnce y.0) (ok_is made x e) (record { parts = refl; rest_fits = fits }, tt)
id_for_takes AtLeastOnce bytes x fits e = some_id AtLeastOnce bytes x fits (λ n h. h) e
id_for_takes ExactlyOnce bytes x fits e = some_id ExactlyOnce bytes x fits (λ n h. h) e

pub id_for_again : (qos : Qos) (id : Option ℕ) (rest : List ℕ) → IdFits qos id → id_for qos (id_bytes id ++ rest) ≡ Ok (id, rest)
id_for_again AtMostOnce None rest h = refl
id_for_again AtMostOnce (Some n) rest h = absurd h
id_for_again AtLeastOnce None rest h = absurd h
id_for_again AtLeastOnce (Some n) rest h = rw (id_again n rest h) refl
id_for_again ExactlyOnce None rest h = absurd h
id_for_again ExactlyOnce (Some n) rest h = rw (id_again n rest h) refl

-- ---- PUBLISH

pub publish_takes : (duplicate : Bool) (qos : Qos) (retain : Bool) (body : List ℕ) (p : Publish) → IsBytes body → publish_at duplicate qos retain body ≡ Ok p → EncodesPublish duplicate qos retain body p
unfolding publish_at
publish_takes duplicate qos retain body p fits e =
    let topic = bind_ok (text_at body) (λ topic. id_for qos topic.1 >>= λ id. values_at owner.Publish id.1 >>= λ f. Ok (publication duplicate qos retain topic.0 id.0 f.0 f.1)) p e in
    let id = bind_ok (id_for qos topic.0.1) (λ id. values_at owner.Publish id.1 >>= λ f. Ok (publication duplicate qos retain topic.0.0 id.0 f.0 f.1)) p topic.2 in
    let f = bind_ok (values_at owner.Publish id.0.1) (λ f. Ok (publication duplicate qos retain topic.0.0 id.0.0 f.0 f.1)) p id.2 in
    let t = text_takes body topic.0 fits topic.1 in
    let i = id_for_takes qos topic.0.1 id.0 t.0.rest_fits id.1 in
    let g = values_takes owner.Publish id.0.1 f.0 i.0.rest_fits f.1 in
    let fields : body ≡ counted topic.0.0 ++ (id_bytes id.0.0 ++ (properties g.ps ++ f.0.1)) =
    t.0.parts ∙ ap (λ (r : List ℕ). counted topic.0.0 ++ r) (i.0.parts ∙ ap (λ (r : List ℕ). id_bytes id.0.0 ++ r) g.takes.parts) in
    let made : publication duplicate qos retain topic.0.0 id.0.0 f.0.0 f.0.1 ≡ publication duplicate qos retain topic.0.0 id.0.0 (collected nothing g.ps) f.0.1 =
    ap (λ (v : PacketProperties). publication duplicate qos retain topic.0.0 id.0.0 v f.0.1) g.says in
    record {
      topic = topic.0.0;
      id = id.0.0;
      ps = g.ps;
      payload = f.0.1;
      is_text = t.1;
      has_id = i.1;
      are_properties = g.are;
      fields = fields;
      value = sym (ok_is (publication duplicate qos retain topic.0.0 id.0.0 f.0.0 f.0.1) p f.2) ∙ made;
    }

pub publish_again : (duplicate : Bool) (qos : Qos) (retain : Bool) (body : List ℕ) (p : Publish) → EncodesPublish duplicate qos retain body p → publish_at duplicate qos retain body ≡ Ok p
unfolding publish_at
publish_again duplicate qos retain body p h =
    ap (publish_at duplicate qos retain) h.fields
    ∙ (rw (text_again h.topic (id_bytes h.id ++ (properties h.ps ++ h.payload)) h.is_text, id_for_again qos h.id (properties h.ps ++ h.payload) h.has_id, values_again owner.Publish h.ps h.payload h.are_properties)
    (ap (λ (q : Publish). Ok q) (sym h.value)))

-- ---- acknowledgements and DISCONNECT

ended_is : {A : Type 0} (x y : A) (rest : List ℕ) → ended x rest ≡ Ok y → (rest ≡ []) × (x ≡ y)
ended_is x y [] e = (refl, ok_is x y e)
ended_is x y (b ∷ rest) e = absurd cc

pub code_takes : (where_ : PropertyOwner) (bytes : List ℕ) (code : ℕ) → IsBytes bytes → code_at where_ bytes ≡ Ok code → EncodesCode where_ bytes code
unfolding code_at
code_takes where_ [] code fits e = subst (EncodesCode where_ []) (ok_is 0 code e) EncodesCode.no_code
code_takes where_ (c ∷ []) code fits e = subst (EncodesCode where_ (c ∷ [])) (ok_is c code e) (EncodesCode.no_properties (fits 0))
code_takes where_ (c ∷ b ∷ bytes) code fits e =
    let f = bind_ok (values_at where_ (b ∷ bytes)) (λ f. ended c f.1) code e in
    let end = ended_is c code f.0.1 f.2 in
    let g = values_takes where_ (b ∷ bytes) f.0 (IsBytes-rest c (b ∷ bytes) fits) f.1 in
    let whole : properties g.ps ≡ b ∷ bytes = sym (g.takes.parts ∙ ap (λ (r : List ℕ). properties g.ps ++ r) end.0 ∙ append-nil (properties g.ps)) in
    let made : EncodesCode where_ (c ∷ properties g.ps) c = EncodesCode.with_properties (fits 0) g.are in
    subst (EncodesCode where_ (c ∷ b ∷ bytes)) end.1 (subst (λ (r : List ℕ). EncodesCode where_ (c ∷ r) c) whole made)

varint_some : (k n : ℕ) → (b : ℕ) × (bs : List ℕ) × (low_first (suc k) n ≡ b ∷ bs)
unfolding low_first
varint_some k n = by (ltb n 128)
  where
    by : (t : Bool) → (b : ℕ) × (bs : List ℕ) × (cond t (n ∷ []) ((n % 128 + 128) ∷ low_first k (n / 128)) ≡ b ∷ bs)
    by true = (n, [], refl)
    by false = (n % 128 + 128, low_first k (n / 128), refl)

pub code_again : (where_ : PropertyOwner) (bytes : List ℕ) (code : ℕ) → EncodesCode where_ bytes code → code_at where_ bytes ≡ Ok code
unfolding code_at
code_again where_ _ _ EncodesCode.no_code = refl
code_again where_ _ _ (EncodesCode.no_properties h) = refl
code_again where_ _ _ (EncodesCode.with_properties {code = code} {ps = ps} h are) =
    let v = varint_some 3 (length (flat_map property_bytes ps)) in
    let shape : properties ps ≡ v.0 ∷ (v.1 ++ flat_map property_bytes ps) = ap (λ (r : List ℕ). r ++ flat_map property_bytes ps) v.2 in
    let read : values_at where_ (v.0 ∷ (v.1 ++ flat_map property_bytes ps)) ≡ Ok (collected nothing ps, []) = ap (values_at where_) (sym shape ∙ sym (append-nil (properties ps))) ∙ values_again where_ ps [] are in
    ap (λ (r : List ℕ). code_at where_ (code ∷ r)) shape ∙ rw read refl

pub acknowledgement_takes : (body : List ℕ) (a : Acknowledgement) → IsBytes body → acknowledgement_at body ≡ Ok a → EncodesAcknowledgement body a
unfolding acknowledgement_at
acknowledgement_takes body a fits e =
    let id = bind_ok (id_at body) (λ id. code_at owner.Acknowledgement id.1 >>= λ code. Ok (record { id = id.0; code = code })) a e in
    let code = bind_ok (code_at owner.Acknowledgement id.0.1) (λ code. Ok (record { id = id.0.0; code = code })) a id.2 in
    let t = id_takes body id.0 fits id.1 in
    let s = code_takes owner.Acknowledgement id.0.1 code.0 t.0.rest_fits code.1 in
    let made : Acknowledgement = record { id = id.0.0; code = code.0 } in
    subst (EncodesAcknowledgement body) (ok_is made a code.2) (record { rest = id.0.1; is_id = t.1; fields = t.0.parts; code = s })

pub acknowledgement_again : (body : List ℕ) (a : Acknowledgement) → EncodesAcknowledgement body a → acknowledgement_at body ≡ Ok a
unfolding acknowledgement_at
acknowledgement_again body a h = ap acknowledgement_at h.fields ∙ rw (id_again a.id h.rest h.is_id, code_again owner.Acknowledgement h.rest a.code h.code) refl

-- ---- the options of a filter

qos_level : (n : ℕ) → n < 3 → level (qos_of n) ≡ n
qos_level zero h = refl
qos_level (suc zero) h = refl
qos_level (suc (suc zero)) h = refl
qos_level (suc (suc (suc n))) h = absurd (omega (arith, h))

handling_number : (n : ℕ) → n < 3 → handling (handling_of n) ≡ n
handling_number zero h = refl
handling_number (suc zero) h = refl
handling_number (suc (suc zero)) h = refl
handling_number (suc (suc (suc n))) h = absurd (omega (arith, h))

bit_number : (n : ℕ) → n < 2 → bit (eqb n 1) ≡ n
bit_number zero h = refl
bit_number (suc zero) h = refl
bit_number (suc (suc n)) h = absurd (omega (arith, h))

pub options_takes : (b : ℕ) (o : Options) → options_of b ≡ Ok o → options_byte o ≡ b
unfolding options_of
options_takes b o e =
    let made : Options = record { qos = qos_of (b % 4); no_local = eqb (b / 4 % 2) 1; retain_as_published = eqb (b / 8 % 2) 1; retain_handling = handling_of (b / 16) } in
    let small = tested (not (ltb b 64)) Malformed (cond (eqb (b % 4) 3) (Err Protocol) (cond (eqb (b / 16) 3) (Err Protocol) (Ok made))) o e in
    let q = tested (eqb (b % 4) 3) Protocol (cond (eqb (b / 16) 3) (Err Protocol) (Ok made)) o small.1 in
    let h = tested (eqb (b / 16) 3) Protocol (Ok made) o q.1 in
    let lt : b < 64 = ltb-true _ _ (not_false (ltb b 64) small.0) in
    let q3 : b % 4 ≡ 3 → ⊥ = eqb-false _ _ q.0 in
    let h3 : b / 16 ≡ 3 → ⊥ = eqb-false _ _ h.0 in
    let ql : level (qos_of (b % 4)) ≡ b % 4 = qos_level (b % 4) (omega arith) in
    let hl : handling (handling_of (b / 16)) ≡ b / 16 = handling_number (b / 16) (omega arith) in
    let n : bit (eqb (b / 4 % 2) 1) ≡ b / 4 % 2 = bit_number (b / 4 % 2) (omega arith) in
    let r : bit (eqb (b / 8 % 2) 1) ≡ b / 8 % 2 = bit_number (b / 8 % 2) (omega arith) in
    let is : options_byte made ≡ b = rw (ql, hl, n, r) (omega arith) in
    subst (λ (p : Options). options_byte p ≡ b) (ok_is made o h.1) is
  where
    tested : {A : Type 0} (t : Bool) (d : PacketFault) (x : Result A PacketFault) (y : A) → cond t (Err d) x ≡ Ok y → (t ≡ false) × (x ≡ Ok y)
    tested true d x y e = absurd cc
    tested false d x y e = (refl, e)

    not_false : (t : Bool) → not t ≡ false → t ≡ true
    not_false true e = refl
    not_false false e = absurd cc

abbrev chosen_options : Qos → Bool → Bool → RetainHandling → Options
chosen_options q n r h = record { qos = q; no_local = n; retain_as_published = r; retain_handling = h }

options_back : (q : Qos) (n r : Bool) (h : RetainHandling) → options_of (options_byte (chosen_options q n r h)) ≡ Ok (chosen_options q n r h)
unfolding options_of
options_back AtMostOnce true true Always = refl
options_back AtMostOnce true true IfNew = refl
options_back AtMostOnce true true Never = refl
options_back AtMostOnce true false Always = refl
options_back AtMostOnce true false IfNew = refl
options_back AtMostOnce true false Never = refl
options_back AtMostOnce false true Always = refl
options_back AtMostOnce false true IfNew = refl
options_back AtMostOnce false true Never = refl
options_back AtMostOnce false false Always = refl
options_back AtMostOnce false false IfNew = refl
options_back AtMostOnce false false Never = refl
options_back AtLeastOnce true true Always = refl
options_back AtLeastOnce true true IfNew = refl
options_back AtLeastOnce true true Never = refl
options_back AtLeastOnce true false Always = refl
options_back AtLeastOnce true false IfNew = refl
options_back AtLeastOnce true false Never = refl
options_back AtLeastOnce false true Always = refl
options_back AtLeastOnce false true IfNew = refl
options_back AtLeastOnce false true Never = refl
options_back AtLeastOnce false false Always = refl
options_back AtLeastOnce false false IfNew = refl
options_back AtLeastOnce false false Never = refl
options_back ExactlyOnce true true Always = refl
options_back ExactlyOnce true true IfNew = refl
options_back ExactlyOnce true true Never = refl
options_back ExactlyOnce true false Always = refl
options_back ExactlyOnce true false IfNew = refl
options_back ExactlyOnce true false Never = refl
options_back ExactlyOnce false true Always = refl
options_back ExactlyOnce false true IfNew = refl
options_back ExactlyOnce false true Never = refl
options_back ExactlyOnce false false Always = refl
options_back ExactlyOnce false false IfNew = refl
options_back ExactlyOnce false false Never = refl

pub options_again : (o : Options) → options_of (options_byte o) ≡ Ok o
options_again o = options_back o.qos o.no_local o.retain_as_published o.retain_handling

-- ---- SUBSCRIBE

pub asked_takes : (bytes : List ℕ) (x : Asked × List ℕ) → IsBytes bytes → asked_at bytes ≡ Ok x
    → (f : List ℕ × Options) × Takes bytes (filter_bytes f) x.1 × IsText f.0 × (x.0 ≡ (filter_of f.0, f.1))
unfolding asked_at
asked_takes bytes x fits e =
    let t = bind_ok (text_at bytes) (λ t. byte_at t.1 >>= λ b. options_of b.0 >>= λ o. Ok ((filter_of t.0, o), b.1)) x e in
    let b = bind_ok (byte_at t.0.1) (λ b. options_of b.0 >>= λ o. Ok ((filter_of t.0.0, o), b.1)) x t.2 in
    let o = bind_ok (options_of b.0.0) (λ o. Ok ((filter_of t.0.0, o), b.0.1)) x b.2 in
    let text = text_takes bytes t.0 fits t.1 in
    let byte = byte_takes t.0.1 b.0 text.0.rest_fits b.1 in
    let both = Takes-then bytes (counted t.0.0) t.0.1 (b.0.0 ∷ []) b.0.1 text.0 byte.0 in
    let is : options_byte o.0 ≡ b.0.0 = options_takes b.0.0 o.0 o.1 in
    let property_bytes : Takes bytes (filter_bytes (t.0.0, o.0)) b.0.1 = subst (λ (n : ℕ). Takes bytes (counted t.0.0 ++ n ∷ []) b.0.1) (sym is) both in
    let made : Asked × List ℕ = ((filter_of t.0.0, o.0), b.0.1) in
    subst (λ (y : Asked × List ℕ). (f : List ℕ × Options) × Takes bytes (filter_bytes f) y.1 × IsText f.0 × (y.0 ≡ (filter_of f.0, f.1))) (ok_is made x o.2)
    ((t.0.0, o.0), property_bytes, text.1, refl)

pub asked_again : (f : List ℕ × Options) (rest : List ℕ) → IsText f.0 → asked_at (filter_bytes f ++ rest) ≡ Ok ((filter_of f.0, f.1), rest)
unfolding asked_at
asked_again f rest h =
    ap asked_at (append_assoc (counted f.0) (options_byte f.1 ∷ []) rest) ∙ rw (text_again f.0 (options_byte f.1 ∷ rest) h, options_again f.1) refl

pub all_asked_take : (n : ℕ) (bytes : List ℕ) (all : List Asked) → IsBytes bytes → length bytes ≤ n → all_in asked_at n bytes ≡ Ok all
    → (fs : List (List ℕ × Options)) × AreTexts (map text_of fs) × (bytes ≡ flat_map filter_bytes fs) × (all ≡ map asked_of fs)
unfolding all_in
all_asked_take n [] all fits le e = ([], tt, refl, sym (ok_is [] all e))
all_asked_take zero (b ∷ bytes) all fits le e = absurd (omega (arith, le))
all_asked_take (suc n) (b ∷ bytes) all fits le e =
    let a = bind_ok (asked_at (b ∷ bytes)) (λ a. all_in asked_at n a.1 >>= λ more. Ok (a.0 ∷ more)) all e in
    let m = bind_ok (all_in asked_at n a.0.1) (λ more. Ok (a.0.0 ∷ more)) all a.2 in
    let t = asked_takes (b ∷ bytes) a.0 fits a.1 in
    let shorter : length a.0.1 ≤ n = omega (arith, le, simp length-append at (ap length t.1.parts)) in
    let others = all_asked_take n a.0.1 m.0 t.1.rest_fits shorter m.1 in (
      t.0 ∷ others.0,
      (t.2, others.1),
      t.1.parts ∙ ap (λ (r : List ℕ). filter_bytes t.0 ++ r) others.2,
      sym (ok_is (a.0.0 ∷ m.0) all m.2) ∙ (ap (λ (x : Asked). x ∷ m.0) t.3 ∙ ap (λ (xs : List Asked). (filter_of t.0.0, t.0.1) ∷ xs) others.3),
    )

pub all_asked_again : (n : ℕ) (fs : List (List ℕ × Options)) → length (flat_map filter_bytes fs) ≤ n → AreTexts (map text_of fs) → all_in asked_at n (flat_map filter_bytes fs) ≡ Ok (map asked_of fs)
unfolding all_in
all_asked_again n [] le h = refl
all_asked_again zero (f ∷ fs) le h = absurd (omega (arith, le))
all_asked_again (suc n) (f ∷ fs) le h =
    let first = asked_again f (flat_map filter_bytes fs) h.0 in
    let small : length (flat_map filter_bytes fs) ≤ n = omega (arith, le, length-append (f.0 ++ options_byte f.1 ∷ []) (flat_map filter_bytes fs)) in
    rw (first, all_asked_again n fs small h.1) refl

pub subscribe_takes : (body : List ℕ) (s : SubscribeValue) → IsBytes body → subscribe_at body ≡ Ok s → EncodesSubscribe body s
unfolding subscribe_at
subscribe_takes body s fits e =
    let id = bind_ok (id_at body) (λ id. values_at owner.Subscribe id.1 >>= λ f. some_of asked_at f.1 >>= λ filters. Ok (record { id = id.0; subscription = f.0.subscription; filters = filters })) s e in
    let f = bind_ok (values_at owner.Subscribe id.0.1) (λ f. some_of asked_at f.1 >>= λ filters. Ok (record { id = id.0.0; subscription = f.0.subscription; filters = filters })) s id.2 in
    let l = bind_ok (some_of asked_at f.0.1) (λ filters. Ok (record { id = id.0.0; subscription = f.0.0.subscription; filters = filters })) s f.2 in
    let t = id_takes body id.0 fits id.1 in
    let g = values_takes owner.Subscribe id.0.1 f.0 t.0.rest_fits f.1 in
    let some = tested (eqb (length f.0.1) 0) Protocol (all_in asked_at (length f.0.1) f.0.1) l.0 l.1 in
    let fs = all_asked_take (length f.0.1) f.0.1 l.0 g.takes.rest_fits (omega arith) some.1 in
    let long : 0 < length f.0.1 = omega (arith, eqb-false _ _ some.0) in
    let count : 0 < length fs.0 = not_none fs.0 f.0.1 fs.2 long in
    let fields : body ≡ two id.0.0 ++ (properties g.ps ++ flat_map filter_bytes fs.0) = t.0.parts ∙ ap (λ (r : List ℕ). two id.0.0 ++ r) (g.takes.parts ∙ ap (λ (r : List ℕ). properties g.ps ++ r) fs.2) in
    let made : SubscribeValue = record { id = id.0.0; subscription = f.0.0.subscription; filters = l.0 } in
    let is : made ≡ record { id = id.0.0; subscription = (collected nothing g.ps).subscription; filters = map asked_of fs.0 } = same id.0.0 f.0.0 (collected nothing g.ps) l.0 (map asked_of fs.0) g.says fs.3 in
    subst (EncodesSubscribe body) (ok_is made s l.2)
    (record { ps = g.ps; filters = fs.0; is_id = t.1; are_properties = g.are; are_texts = fs.1; some = count; fields = fields; value = is })
  where
    tested : {A : Type 0} (t : Bool) (d : PacketFault) (x : Result A PacketFault) (y : A) → cond t (Err d) x ≡ Ok y → (t ≡ false) × (x ≡ Ok y)
    tested true d x y e = absurd cc
    tested false d x y e = (refl, e)

    not_none : (fs : List (List ℕ × Options)) (bytes : List ℕ) → bytes ≡ flat_map filter_bytes fs → 0 < length bytes → 0 < length fs
    not_none [] bytes e h = absurd (omega (arith, h, ap length e))
    not_none (f ∷ fs) bytes e h = omega arith

    same : (id : ℕ) (f g : PacketProperties) (xs ys : List Asked) → f ≡ g → xs ≡ ys → ◌≡◌ {A = SubscribeValue} (record { id = id; subscription = f.subscription; filters = xs }) (record { id = id; subscription = g.subscription; filters = ys })
    same id f g xs ys p q = rw (p, q) refl

pub subscribe_again : (body : List ℕ) (s : SubscribeValue) → EncodesSubscribe body s → subscribe_at body ≡ Ok s
unfolding subscribe_at
subscribe_again body s h =
    let text = flat_map filter_bytes h.filters in
    let some : eqb (length text) 0 ≡ false = ne_eqb _ _ (λ z. none h.filters h.some z) in
    ap subscribe_at h.fields
    ∙ (rw (id_again s.id (properties h.ps ++ text) h.is_id, values_again owner.Subscribe h.ps text h.are_properties, some, all_asked_again (length text) h.filters (omega arith) h.are_texts)
    (ap (λ (v : SubscribeValue). Ok v) (sym h.value)))
  where
    none : (fs : List (List ℕ × Options)) → 0 < length fs → length (flat_map filter_bytes fs) ≡ 0 → ⊥
    none [] h z = absurd (omega (arith, h))
    none (f ∷ fs) h z = omega (arith, z, length-append (filter_bytes f) (flat_map filter_bytes fs))

-- ---- UNSUBSCRIBE

filter_takes : (bytes : List ℕ) (x : Filter × List ℕ) → IsBytes bytes → filter_at bytes ≡ Ok x → (t : List ℕ) × Takes bytes (counted t) x.1 × IsText t × (x.0 ≡ filter_of t)
unfolding filter_at
filter_takes bytes x fits e =
    let t = bind_ok (text_at bytes) (λ t. Ok (filter_of t.0, t.1)) x e in
    let text = text_takes bytes t.0 fits t.1 in
    let made : Filter × List ℕ = (filter_of t.0.0, t.0.1) in
    subst (λ (y : Filter × List ℕ). (t : List ℕ) × Takes bytes (counted t) y.1 × IsText t × (y.0 ≡ filter_of t)) (ok_is made x t.2) (t.0.0, text.0, text.1, refl)

filter_again : (t rest : List ℕ) → IsText t → filter_at (counted t ++ rest) ≡ Ok (filter_of t, rest)
unfolding filter_at
filter_again t rest h = rw (text_again t rest h) refl

filters_take : (n : ℕ) (bytes : List ℕ) (all : List Filter) → IsBytes bytes → length bytes ≤ n → all_in filter_at n bytes ≡ Ok all → (ts : List (List ℕ)) × AreTexts ts × (bytes ≡ flat_map counted ts) × (all ≡ map filter_of ts)
unfolding all_in
filters_take n [] all fits le e = ([], tt, refl, sym (ok_is [] all e))
filters_take zero (b ∷ bytes) all fits le e = absurd (omega (arith, le))
filters_take (suc n) (b ∷ bytes) all fits le e =
    let a = bind_ok (filter_at (b ∷ bytes)) (λ a. all_in filter_at n a.1 >>= λ more. Ok (a.0 ∷ more)) all e in
    let m = bind_ok (all_in filter_at n a.0.1) (λ more. Ok (a.0.0 ∷ more)) all a.2 in
    let t = filter_takes (b ∷ bytes) a.0 fits a.1 in
    let shorter : length a.0.1 ≤ n = omega (arith, le, simp length-append at (ap length t.1.parts)) in
    let others = filters_take n a.0.1 m.0 t.1.rest_fits shorter m.1 in (
      t.0 ∷ others.0,
      (t.2, others.1),
      t.1.parts ∙ ap (λ (r : List ℕ). counted t.0 ++ r) others.2,
      sym (ok_is (a.0.0 ∷ m.0) all m.2) ∙ (ap (λ (x : Filter). x ∷ m.0) t.3 ∙ ap (λ (xs : List Filter). filter_of t.0 ∷ xs) others.3),
    )

filters_again : (n : ℕ) (ts : List (List ℕ)) → length (flat_map counted ts) ≤ n → AreTexts ts → all_in filter_at n (flat_map counted ts) ≡ Ok (map filter_of ts)
unfolding all_in
filters_again n [] le h = refl
filters_again zero (t ∷ ts) le h = absurd (omega (arith, le))
filters_again (suc n) (t ∷ ts) le h =
    let first = filter_again t (flat_map counted ts) h.0 in
    let small : length (flat_map counted ts) ≤ n = omega (arith, le, length-append t (flat_map counted ts)) in
    rw (first, filters_again n ts small h.1) refl

pub unsubscribe_takes : (body : List ℕ) (u : UnsubscribeValue) → IsBytes body → unsubscribe_at body ≡ Ok u → EncodesUnsubscribe body u
unfolding unsubscribe_at
unsubscribe_takes body u fits e =
    let id = bind_ok (id_at body) (λ id. values_at owner.Unsubscribe id.1 >>= λ f. some_of filter_at f.1 >>= λ filters. Ok (record { id = id.0; filters = filters })) u e in
    let f = bind_ok (values_at owner.Unsubscribe id.0.1) (λ f. some_of filter_at f.1 >>= λ filters. Ok (record { id = id.0.0; filters = filters })) u id.2 in
    let l = bind_ok (some_of filter_at f.0.1) (λ filters. Ok (record { id = id.0.0; filters = filters })) u f.2 in
    let t = id_takes body id.0 fits id.1 in
    let g = values_takes owner.Unsubscribe id.0.1 f.0 t.0.rest_fits f.1 in
    let some = tested (eqb (length f.0.1) 0) Protocol (all_in filter_at (length f.0.1) f.0.1) l.0 l.1 in
    let ts = filters_take (length f.0.1) f.0.1 l.0 g.takes.rest_fits (omega arith) some.1 in
    let long : 0 < length f.0.1 = omega (arith, eqb-false _ _ some.0) in
    let count : 0 < length ts.0 = not_none ts.0 f.0.1 ts.2 long in
    let fields : body ≡ two id.0.0 ++ (properties g.ps ++ flat_map counted ts.0) = t.0.parts ∙ ap (λ (r : List ℕ). two id.0.0 ++ r) (g.takes.parts ∙ ap (λ (r : List ℕ). properties g.ps ++ r) ts.2) in
    let made : UnsubscribeValue = record { id = id.0.0; filters = l.0 } in
    let is : made ≡ record { id = id.0.0; filters = map filter_of ts.0 } = ap (λ (xs : List Filter). let v : UnsubscribeValue = record { id = id.0.0; filters = xs } in v) ts.3 in
    subst (EncodesUnsubscribe body) (ok_is made u l.2) (record { ps = g.ps; filters = ts.0; is_id = t.1; are_properties = g.are; are_texts = ts.1; some = count; fields = fields; value = is })
  where
    tested : {A : Type 0} (t : Bool) (d : PacketFault) (x : Result A PacketFault) (y : A) → cond t (Err d) x ≡ Ok y → (t ≡ false) × (x ≡ Ok y)
    tested true d x y e = absurd cc
    tested false d x y e = (refl, e)

    not_none : (ts : List (List ℕ)) (bytes : List ℕ) → bytes ≡ flat_map counted ts → 0 < length bytes → 0 < length ts
    not_none [] bytes e h = absurd (omega (arith, h, ap length e))
    not_none (t ∷ ts) bytes e h = omega arith

pub unsubscribe_again : (body : List ℕ) (u : UnsubscribeValue) → EncodesUnsubscribe body u → unsubscribe_at body ≡ Ok u
unfolding unsubscribe_at
unsubscribe_again body u h =
    let text = flat_map counted h.filters in
    let some : eqb (length text) 0 ≡ false = ne_eqb _ _ (λ z. none h.filters h.some z) in
    ap unsubscribe_at h.fields
    ∙ (rw (id_again u.id (properties h.ps ++ text) h.is_id, values_again owner.Unsubscribe h.ps text h.are_properties, some, filters_again (length text) h.filters (omega arith) h.are_texts)
    (ap (λ (v : UnsubscribeValue). Ok v) (sym h.value)))
  where
    none : (ts : List (List ℕ)) → 0 < length ts → length (flat_map counted ts) ≡ 0 → ⊥
    none [] h z = absurd (omega (arith, h))
    none (t ∷ ts) h z = omega (arith, z, length-append (counted t) (flat_map counted ts))

-- ---- CONNECT

decided : (t : Bool) (P : Type 0) → Decides t P → t ≡ true → P
decided t P d e = d.0 e

version_takes : (body rest : List ℕ) → IsBytes body → version_at body ≡ Ok rest → Takes body protocol rest
unfolding version_at
version_takes body rest fits e =
    let name = bind_ok (text_at body) (λ name. cond (bytes_eq name.0 mqtt) (byte_at name.1) (Err Version) >>= λ version. cond (eqb version.0 5) (Ok version.1) (Err Version)) rest e in
    let version = bind_ok (cond (bytes_eq name.0.0 mqtt) (byte_at name.0.1) (Err Version)) (λ version. cond (eqb version.0 5) (Ok version.1) (Err Version)) rest name.2 in
    let named = passed (bytes_eq name.0.0 mqtt) (byte_at name.0.1) version.0 version.1 in
    let five = passed (eqb version.0.0 5) (Ok version.0.1) rest version.2 in
    let t = text_takes body name.0 fits name.1 in
    let b = byte_takes name.0.1 version.0 t.0.rest_fits named.1 in
    let is : name.0.0 ≡ mqtt = decided (bytes_eq name.0.0 mqtt) (name.0.0 ≡ mqtt) (bytes_eq-Decides name.0.0 mqtt) named.0 in
    let v : version.0.0 ≡ 5 = eqb-true _ _ five.0 in
    let both = Takes-then body (counted name.0.0) name.0.1 (version.0.0 ∷ []) version.0.1 t.0 b.0 in
    let property_bytes : counted name.0.0 ++ version.0.0 ∷ [] ≡ protocol = same name.0.0 version.0.0 is v in
    subst (λ (r : List ℕ). Takes body protocol r) (ok_is version.0.1 rest five.1) (subst (λ (front : List ℕ). Takes body front version.0.1) property_bytes both)
  where
    passed : {A : Type 0} (t : Bool) (x : Result A PacketFault) (y : A) → cond t x (Err Version) ≡ Ok y → (t ≡ true) × (x ≡ Ok y)
    passed true x y e = (refl, e)
    passed false x y e = absurd cc

    same : (name : List ℕ) (v : ℕ) → name ≡ mqtt → v ≡ 5 → counted name ++ v ∷ [] ≡ protocol
    same name v p q = rw (p, q) refl

flags_takes : (b : ℕ) (f : ConnectFlags) → b < 256 → flags_of b ≡ Ok f → (flags_byte f ≡ b) × FlagsFit f
unfolding flags_of
flags_takes b f lt e =
    let made : ConnectFlags = record {
      user_name = eqb (b / 128) 1;
      password = eqb (b / 64 % 2) 1;
      will_retain = eqb (b / 32 % 2) 1;
      will_qos = qos_of (b / 8 % 4);
      will = eqb (b / 4 % 2) 1;
      clean_start = eqb (b / 2 % 2) 1;
    } in
    let low = tested (eqb (b % 2) 1) Malformed (cond (eqb (b / 8 % 4) 3) (Err Malformed) (cond (eqb (b / 4 % 2) 0 && not (eqb (b / 8 % 8) 0)) (Err Malformed) (Ok made))) f e in
    let qos = tested (eqb (b / 8 % 4) 3) Malformed (cond (eqb (b / 4 % 2) 0 && not (eqb (b / 8 % 8) 0)) (Err Malformed) (Ok made)) f low.1 in
    let will = tested (eqb (b / 4 % 2) 0 && not (eqb (b / 8 % 8) 0)) Malformed (Ok made) f qos.1 in
    let l0 : b % 2 ≡ 1 → ⊥ = eqb-false _ _ low.0 in
    let q3 : b / 8 % 4 ≡ 3 → ⊥ = eqb-false _ _ qos.0 in
    let u : bit (eqb (b / 128) 1) ≡ b / 128 = bit_number (b / 128) (omega arith) in
    let p : bit (eqb (b / 64 % 2) 1) ≡ b / 64 % 2 = bit_number (b / 64 % 2) (omega arith) in
    let r : bit (eqb (b / 32 % 2) 1) ≡ b / 32 % 2 = bit_number (b / 32 % 2) (omega arith) in
    let q : level (qos_of (b / 8 % 4)) ≡ b / 8 % 4 = qos_level (b / 8 % 4) (omega arith) in
    let w : bit (eqb (b / 4 % 2) 1) ≡ b / 4 % 2 = bit_number (b / 4 % 2) (omega arith) in
    let c : bit (eqb (b / 2 % 2) 1) ≡ b / 2 % 2 = bit_number (b / 2 % 2) (omega arith) in
    let is : flags_byte made ≡ b = rw (u, p, r, q, w, c) (omega arith) in
    let fit : FlagsFit made = λ no_will.
    let zero_will : b / 4 % 2 ≡ 0 = omega (arith, eqb-false _ _ no_will) in
    let none : b / 8 % 8 ≡ 0 = empty (b / 4 % 2) (b / 8 % 8) zero_will will.0 in
    let r0 : b / 32 % 2 ≡ 0 = omega arith in
    let q0 : b / 8 % 4 ≡ 0 = omega arith in
    (rw r0 refl, rw q0 refl) in
    subst (λ (g : ConnectFlags). (flags_byte g ≡ b) × FlagsFit g) (ok_is made f will.1) (is, fit)
  where
    tested : {A : Type 0} (t : Bool) (d : PacketFault) (x : Result A PacketFault) (y : A) → cond t (Err d) x ≡ Ok y → (t ≡ false) × (x ≡ Ok y)
    tested true d x y e = absurd cc
    tested false d x y e = (refl, e)

    empty : (w n : ℕ) → w ≡ 0 → (eqb w 0 && not (eqb n 0)) ≡ false → n ≡ 0
    empty w zero h e = refl
    empty w (suc n) h e = let s : eqb (suc n) 0 ≡ false = ne_eqb _ _ (λ z. omega arith) in let f = rw s at e in let t : ◌≡◌ {A = Bool} true false = rw h at f in absurd cc

past_text_takes : (present : Bool) (bytes rest : List ℕ) → IsBytes bytes → past_text present bytes ≡ Ok rest → (field : List ℕ) × Takes bytes field rest × EncodesIf IsText present field
past_text_takes false bytes rest fits e = subst (λ (r : List ℕ). (field : List ℕ) × Takes bytes field r × EncodesIf IsText false field) (ok_is bytes rest e) ([], record { parts = refl; rest_fits = fits }, EncodesIf.absent)
past_text_takes true bytes rest fits e =
    let t = bind_ok (text_at bytes) (λ t. Ok t.1) rest e in
    let g = text_takes bytes t.0 fits t.1 in
    subst (λ (r : List ℕ). (field : List ℕ) × Takes bytes field r × EncodesIf IsText true field) (ok_is t.0.1 rest t.2) (counted t.0.0, g.0, EncodesIf.present g.1)

past_binary_takes : (present : Bool) (bytes rest : List ℕ) → IsBytes bytes → past_binary present bytes ≡ Ok rest → (field : List ℕ) × Takes bytes field rest × EncodesIf IsShort present field
past_binary_takes false bytes rest fits e = subst (λ (r : List ℕ). (field : List ℕ) × Takes bytes field r × EncodesIf IsShort false field) (ok_is bytes rest e) ([], record { parts = refl; rest_fits = fits }, EncodesIf.absent)
past_binary_takes true bytes rest fits e =
    let t = bind_ok (binary_at bytes) (λ t. Ok t.1) rest e in
    let g = binary_takes bytes t.0 fits t.1 in
    subst (λ (r : List ℕ). (field : List ℕ) × Takes bytes field r × EncodesIf IsShort true field) (ok_is t.0.1 rest t.2) (counted t.0.0, g.0, EncodesIf.present g.1)

client_takes : (f : ConnectFlags) (bytes : List ℕ) (client : Option (List ℕ)) → IsBytes bytes → client_at f bytes ≡ Ok client → EncodesPayload f bytes client
unfolding client_at
client_takes f bytes client fits e = by f.will refl e
  where
    by : (w : Bool) → f.will ≡ w → cond w (Ok None) (text_at bytes >>= λ client. past_text f.user_name client.1 >>= λ name. past_binary f.password name >>= λ rest. ended (Some client.0) rest) ≡ Ok client → EncodesPayload f bytes client
    by true is e = subst (EncodesPayload f bytes) (ok_is None client e) (EncodesPayload.with_will is)
    by false is e =
        let t = bind_ok (text_at bytes) (λ client. past_text f.user_name client.1 >>= λ name. past_binary f.password name >>= λ rest. ended (Some client.0) rest) client e in
        let n = bind_ok (past_text f.user_name t.0.1) (λ name. past_binary f.password name >>= λ rest. ended (Some t.0.0) rest) client t.2 in
        let p = bind_ok (past_binary f.password n.0) (λ rest. ended (Some t.0.0) rest) client n.2 in
        let end = ended_is (Some t.0.0) client p.0 p.2 in
        let tt_ = text_takes bytes t.0 fits t.1 in
        let nn = past_text_takes f.user_name t.0.1 n.0 tt_.0.rest_fits n.1 in
        let pp = past_binary_takes f.password n.0 p.0 nn.1.rest_fits p.1 in
        let whole : counted t.0.0 ++ (nn.0 ++ pp.0) ≡ bytes = sym (tt_.0.parts ∙ ap (λ (r : List ℕ). counted t.0.0 ++ r) (nn.1.parts ∙ ap (λ (r : List ℕ). nn.0 ++ r) (pp.1.parts ∙ ap (λ (r : List ℕ). pp.0 ++ r) end.0 ∙ append-nil pp.0))) in
        subst (EncodesPayload f bytes) end.1 (subst (λ (r : List ℕ). EncodesPayload f r (Some t.0.0)) whole (EncodesPayload.with_client is tt_.1 nn.2 pp.2))

pub connect_takes : (body : List ℕ) (c : Connect) → IsBytes body → connect_at body ≡ Ok c → EncodesConnect body c
unfolding connect_at
connect_takes body c fits e =
    let v = bind_ok (version_at body) (λ rest. byte_at rest >>= λ b. flags_of b.0 >>= λ flags. after flags b.1) c e in
    let b = bind_ok (byte_at v.0) (λ b. flags_of b.0 >>= λ flags. after flags b.1) c v.2 in
    let fl = bind_ok (flags_of b.0.0) (λ flags. after flags b.0.1) c b.2 in
    let k = bind_ok (number_at w16 b.0.1) (λ keep. values_at owner.Connect keep.1 >>= λ f. checked f.0 >>= λ values. client_at fl.0 f.1 >>= λ client. Ok (made fl.0 keep.0 values client)) c fl.2 in
    let f = bind_ok (values_at owner.Connect k.0.1) (λ f. checked f.0 >>= λ values. client_at fl.0 f.1 >>= λ client. Ok (made fl.0 k.0.0 values client)) c k.2 in
    let ch = bind_ok (checked f.0.0) (λ values. client_at fl.0 f.0.1 >>= λ client. Ok (made fl.0 k.0.0 values client)) c f.2 in
    let cl = bind_ok (client_at fl.0 f.0.1) (λ client. Ok (made fl.0 k.0.0 ch.0 client)) c ch.2 in
    let tv = version_takes body v.0 fits v.1 in
    let tb = byte_takes v.0 b.0 tv.rest_fits b.1 in
    let tf = flags_takes b.0.0 fl.0 tb.1 fl.1 in
    let tk = number_takes w16 (2 ^ 16) wide16 b.0.1 k.0 tb.0.rest_fits k.1 in
    let g = values_takes owner.Connect k.0.1 f.0 tk.0.rest_fits f.1 in
    let m = method_fits f.0.0 ch.0 ch.1 in
    let pay = client_takes fl.0 f.0.1 cl.0 g.takes.rest_fits cl.1 in
    let byte : b.0.0 ∷ [] ≡ flags_byte fl.0 ∷ [] = ap (λ (n : ℕ). n ∷ []) (sym tf.0) in
    let fields : body ≡ protocol ++ (flags_byte fl.0 ∷ (two k.0.0 ++ (properties g.ps ++ f.0.1))) =
    tv.parts ∙ ap (λ (r : List ℕ). protocol ++ r) (tb.0.parts ∙ ap (λ (x : List ℕ). x ++ b.0.1) byte ∙ ap (λ (r : List ℕ). flags_byte fl.0 ∷ r) (tk.0.parts ∙ ap (λ (r : List ℕ). two k.0.0 ++ r) g.takes.parts)) in
    let is : ch.0 ≡ collected nothing g.ps = sym m.1 ∙ g.says in
    let value : made fl.0 k.0.0 ch.0 cl.0 ≡ made fl.0 k.0.0 (collected nothing g.ps) cl.0 = ap (λ (x : PacketProperties). made fl.0 k.0.0 x cl.0) is in
    subst (EncodesConnect body) (ok_is (made fl.0 k.0.0 ch.0 cl.0) c cl.2)
    (record { flags = fl.0; ps = g.ps; payload = f.0.1; flags_fit = tf.1; keep_alive = tk.1; are_properties = g.are; method = subst MethodFits g.says m.0; has_payload = pay; fields = fields; value = value })
  where
    made : ConnectFlags → ℕ → PacketProperties → Option (List ℕ) → Connect
    made flags keep values client = record {
      clean_start = flags.clean_start;
      will = flags.will;
      keep_alive = keep;
      session_expiry = values.session_expiry;
      method = values.method;
      receive_maximum = values.receive_maximum;
      packet_maximum = values.packet_maximum;
      client = client;
    }

    checked : PacketProperties → Result PacketProperties PacketFault
    checked f = cond (f.authentication && is_none f.method) (Err Protocol) (Ok f)

    after : ConnectFlags → List ℕ → Result Connect PacketFault
    after flags bytes = number_at w16 bytes >>= λ keep. values_at owner.Connect keep.1 >>= λ f. checked f.0 >>= λ values. client_at flags f.1 >>= λ client. Ok (made flags keep.0 values client)

    method_fits : (f g : PacketProperties) → checked f ≡ Ok g → MethodFits f × (f ≡ g)
    method_fits f g e = by f.authentication f.method e
      where
        by : (a : Bool) (m : Option (List ℕ)) → cond (a && is_none m) (Err Protocol) (Ok f) ≡ Ok g → (a ≡ true → (t : List ℕ) × (m ≡ Some t)) × (f ≡ g)
        by true None e = absurd cc
        by true (Some t) e = (λ h. (t, refl), ok_is f g e)
        by false m e = (λ h. absurd cc, ok_is f g e)

abbrev chosen_flags : Bool → Bool → Bool → Qos → Bool → Bool → ConnectFlags
chosen_flags u p r q w c = record { user_name = u; password = p; will_retain = r; will_qos = q; will = w; clean_start = c }

flags_back : (u p r : Bool) (q : Qos) (w c : Bool) → FlagsFit (chosen_flags u p r q w c) → flags_of (flags_byte (chosen_flags u p r q w c)) ≡ Ok (chosen_flags u p r q w c)
unfolding flags_of
flags_back true true true AtMostOnce true true h = refl
flags_back true true true AtMostOnce true false h = refl
flags_back true true true AtLeastOnce true true h = refl
flags_back true true true AtLeastOnce true false h = refl
flags_back true true true ExactlyOnce true true h = refl
flags_back true true true ExactlyOnce true false h = refl
flags_back true true false AtMostOnce true true h = refl
flags_back true true false AtMostOnce true false h = refl
flags_back true true false AtLeastOnce true true h = refl
flags_back true true false AtLeastOnce true false h = refl
flags_back true true false ExactlyOnce true true h = refl
flags_back true true false ExactlyOnce true false h = refl
flags_back true false true AtMostOnce true true h = refl
flags_back true false true AtMostOnce true false h = refl
flags_back true false true AtLeastOnce true true h = refl
flags_back true false true AtLeastOnce true false h = refl
flags_back true false true ExactlyOnce true true h = refl
flags_back true false true ExactlyOnce true false h = refl
flags_back true false false AtMostOnce true true h = refl
flags_back true false false AtMostOnce true false h = refl
flags_back true false false AtLeastOnce true true h = refl
flags_back true false false AtLeastOnce true false h = refl
flags_back true false false ExactlyOnce true true h = refl
flags_back true false false ExactlyOnce true false h = refl
flags_back false true true AtMostOnce true true h = refl
flags_back false true true AtMostOnce true false h = refl
flags_back false true true AtLeastOnce true true h = refl
flags_back false true true AtLeastOnce true false h = refl
flags_back false true true ExactlyOnce true true h = refl
flags_back false true true ExactlyOnce true false h = refl
flags_back false true false AtMostOnce true true h = refl
flags_back false true false AtMostOnce true false h = refl
flags_back false true false AtLeastOnce true true h = refl
flags_back false true false AtLeastOnce true false h = refl
flags_back false true false ExactlyOnce true true h = refl
flags_back false true false ExactlyOnce true false h = refl
flags_back false false true AtMostOnce true true h = refl
flags_back false false true AtMostOnce true false h = refl
flags_back false false true AtLeastOnce true true h = refl
flags_back false false true AtLeastOnce true false h = refl
flags_back false false true ExactlyOnce true true h = refl
flags_back false false true ExactlyOnce true false h = refl
flags_back false false false AtMostOnce true true h = refl
flags_back false false false AtMostOnce true false h = refl
flags_back false false false AtLeastOnce true true h = refl
flags_back false false false AtLeastOnce true false h = refl
flags_back false false false ExactlyOnce true true h = refl
flags_back false false false ExactlyOnce true false h = refl
flags_back true true false AtMostOnce false true h = refl
flags_back true true false AtMostOnce false false h = refl
flags_back true false false AtMostOnce false true h = refl
flags_back true false false AtMostOnce false false h = refl
flags_back false true false AtMostOnce false true h = refl
flags_back false true false AtMostOnce false false h = refl
flags_back false false false AtMostOnce false true h = refl
flags_back false false false AtMostOnce false false h = refl
flags_back u p true q false c h = absurd (let t : ◌≡◌ {A = Bool} true false = (h refl).0 in cc)
flags_back u p false AtLeastOnce false c h = absurd (let t : AtLeastOnce ≡ AtMostOnce = (h refl).1 in cc)
flags_back u p false ExactlyOnce false c h = absurd (let t : ExactlyOnce ≡ AtMostOnce = (h refl).1 in cc)

flags_again : (f : ConnectFlags) → FlagsFit f → flags_of (flags_byte f) ≡ Ok f
flags_again f h = flags_back f.user_name f.password f.will_retain f.will_qos f.will f.clean_start h

mqtt_is_text : IsText mqtt
unfolding is_utf8 chars encode
mqtt_is_text = record { short = omega arith; utf8 = refl; no_nul = refl }

version_again : (rest : List ℕ) → version_at (protocol ++ rest) ≡ Ok rest
unfolding version_at
version_again rest = let t : text_at (counted mqtt ++ 5 ∷ rest) ≡ Ok (mqtt, 5 ∷ rest) = text_again mqtt (5 ∷ rest) mqtt_is_text in rw t refl

past_text_again : (present : Bool) (field rest : List ℕ) → EncodesIf IsText present field → past_text present (field ++ rest) ≡ Ok rest
past_text_again _ _ rest EncodesIf.absent = refl
past_text_again _ _ rest (EncodesIf.present {field = t} h) = rw (text_again t rest h) refl

past_binary_again : (present : Bool) (field rest : List ℕ) → EncodesIf IsShort present field → past_binary present (field ++ rest) ≡ Ok rest
past_binary_again _ _ rest EncodesIf.absent = refl
past_binary_again _ _ rest (EncodesIf.present {field = t} h) = rw (binary_again t rest h) refl

client_again : (f : ConnectFlags) (bytes : List ℕ) (client : Option (List ℕ)) → EncodesPayload f bytes client → client_at f bytes ≡ Ok client
unfolding client_at
client_again f _ _ (EncodesPayload.with_will is) = rw is refl
client_again f _ _ (EncodesPayload.with_client {client = c} {name = n} {password = p} is text name password) =
    let pp : past_binary f.password p ≡ Ok [] = ap (past_binary f.password) (sym (append-nil p)) ∙ past_binary_again f.password p [] password in
    rw (is, text_again c (n ++ p) text, past_text_again f.user_name n p name, pp) refl

method_again : (f : PacketProperties) → MethodFits f → (f.authentication && is_none f.method) ≡ false
method_again f h = by f.authentication f.method h
  where
    by : (a : Bool) (m : Option (List ℕ)) → (a ≡ true → (t : List ℕ) × (m ≡ Some t)) → (a && is_none m) ≡ false
    by false m h = refl
    by true (Some t) h = refl
    by true None h = absurd (let e = (h refl).1 in cc)

pub connect_again : (body : List ℕ) (c : Connect) → EncodesConnect body c → connect_at body ≡ Ok c
unfolding connect_at
connect_again body c h =
    let tail = two c.keep_alive ++ (properties h.ps ++ h.payload) in
    ap connect_at h.fields
    ∙ (rw (
      version_again (flags_byte h.flags ∷ tail),
      flags_again h.flags h.flags_fit,
      number_again w16 (2 ^ 16) wide16 c.keep_alive (properties h.ps ++ h.payload) h.keep_alive,
      values_again owner.Connect h.ps h.payload h.are_properties,
      method_again (collected nothing h.ps) h.method,
      client_again h.flags h.payload c.client h.has_payload,
    )
    (ap (λ (v : Connect). Ok v) (sym h.value)))
