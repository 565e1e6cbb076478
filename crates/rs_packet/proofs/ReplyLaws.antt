-- A reply is read back from its bytes: one encoding is of one reply.
use Rattle.std.proofs.Common.{◌≡◌, ℕ, ◌+◌, ◌*◌, ◌<◌, ◌^◌, Bool, true, false, cond, eqb, List, [], ◌∷◌, ◌++◌, length, drop, slice_index_or, Option, Some, None, Result, Ok, Err, refl, sym, ap, subst, ◌∙◌, append_assoc, arith}
use Rattle.std.specs.Prelude.{IfSome}
use Rattle.std.specs.List.{flat_map}
use Rattle.std.specs.Int.{w16}
use Rattle.std.proofs.lemmas.Bool.{ne_eqb, eqb-true}
use Rattle.rs_packet_field.specs.declared.fault.PacketFault.{PacketFault}
use Rattle.rs_packet_property.specs.Values.{PropertiesValue}
use Rattle.rs_packet_property.specs.Properties.{varint, varint_end, two, property_bytes, properties, IsShort}
use Rattle.rs_packet_field.specs.Reading.{number_at, binary_at, varint_at}
use Rattle.rs_packet_property.specs.Carried.{replayed}
use Rattle.rs_packet_field.proofs.Fields.{wide16, number_again, binary_again, varint_again}
use Rattle.rs_message.specs.declared.qos.Qos.{Qos}
use Rattle.rs_message.specs.declared.qos.Qos.TheVariants.{AtMostOnce, AtLeastOnce, ExactlyOnce}
use Rattle.rs_packet.specs.declared.reply.ConnackAccepted.{ConnackAccepted}
use Rattle.rs_packet.specs.declared.reply.PublishReply.{PublishReply}
use Rattle.rs_packet.specs.declared.reply.Reply.{Reply}
use Rattle.rs_packet.specs.declared.reply.Reply.TheVariants as reply
use Rattle.rs_packet.specs.Values.{CodesValue}
use Rattle.rs_packet.specs.Grammar.{IdFits, id_bytes}
use Rattle.rs_message.specs.Sizes.{level}
use Rattle.rs_packet.specs.Replies.{limit_bytes, accepting, accepted_body, acknowledging, codes_body, publish_reply_body, first_byte, reply_body, HasEncoding, PublishFits, ReplyFits, EncodesReply}
use Rattle.rs_packet.proofs.Lengths.{length_accepting, length_accepted, section_small}
use Rattle.rs_packet.proofs.AnswerLaws.{pair_is, same_prefix, frame_parts}
use Rattle.rs_packet_field.proofs.CarriedLaws.{section_is}

-- ---- PUBLISH

numbers_are : (n m : ℕ) (x y : List ℕ) → n < 2 ^ 16 → m < 2 ^ 16 → two n ++ x ≡ two m ++ y → (◌≡◌ {A = Option ℕ} (Some n) (Some m)) × (x ≡ y)
numbers_are n m x y ln lm e =
    let p = pair_is n m x y (sym (number_again w16 (2 ^ 16) wide16 n x ln) ∙ ap (number_at w16) e ∙ number_again w16 (2 ^ 16) wide16 m y lm) in
    (ap (λ (z : ℕ). Some z) p.0, p.1)

ids_are : (qos : Qos) (i j : Option ℕ) (x y : List ℕ) → IdFits qos i → IdFits qos j → id_bytes i ++ x ≡ id_bytes j ++ y → (i ≡ j) × (x ≡ y)
ids_are AtMostOnce None None x y h k e = (refl, e)
ids_are AtMostOnce None (Some m) x y h k e = absurd k
ids_are AtMostOnce (Some n) j x y h k e = absurd h
ids_are AtLeastOnce None j x y h k e = absurd h
ids_are AtLeastOnce (Some n) None x y h k e = absurd k
ids_are AtLeastOnce (Some n) (Some m) x y h k e = numbers_are n m x y h.1 k.1 e
ids_are ExactlyOnce None j x y h k e = absurd h
ids_are ExactlyOnce (Some n) None x y h k e = absurd k
ids_are ExactlyOnce (Some n) (Some m) x y h k e = numbers_are n m x y h.1 k.1 e

publish_reply_is : (p q : PublishReply) → PublishFits p → PublishFits q → length (publish_reply_body p) < varint_end → length (publish_reply_body q) < varint_end → p.qos ≡ q.qos → publish_reply_body p ≡ publish_reply_body q → p ≡ q
publish_reply_is p q h k lp lq qos e =
    let ps = flat_map property_bytes (replayed p.expiry p.subscription p.properties) in
    let qs = flat_map property_bytes (replayed q.expiry q.subscription q.properties) in
    let topic = pair_is p.topic q.topic (id_bytes p.id ++ (properties (replayed p.expiry p.subscription p.properties) ++ p.payload)) (id_bytes q.id ++ (properties (replayed q.expiry q.subscription q.properties) ++ q.payload))
    (sym (binary_again p.topic (id_bytes p.id ++ (properties (replayed p.expiry p.subscription p.properties) ++ p.payload)) h.topic_fits) ∙ ap binary_at e
    ∙ binary_again q.topic (id_bytes q.id ++ (properties (replayed q.expiry q.subscription q.properties) ++ q.payload)) k.topic_fits) in
    let ids = ids_are p.qos p.id q.id (properties (replayed p.expiry p.subscription p.properties) ++ p.payload) (properties (replayed q.expiry q.subscription q.properties) ++ q.payload)
    h.id_fits (subst (λ (o : Qos). IdFits o q.id) (sym qos) k.id_fits) topic.1 in
    let tails : varint (length ps) ++ (ps ++ p.payload) ≡ varint (length qs) ++ (qs ++ q.payload) = sym (append_assoc (varint (length ps)) ps p.payload) ∙ ids.1 ∙ append_assoc (varint (length qs)) qs q.payload in
    let read = pair_is (length ps) (length qs) (ps ++ p.payload) (qs ++ q.payload)
    (sym (varint_again (length ps) (ps ++ p.payload) (section_small p lp)) ∙ ap varint_at tails ∙ varint_again (length qs) (qs ++ q.payload) (section_small q lq)) in
    let parts = same_prefix ps qs p.payload q.payload read.0 read.1 in
    let carried = section_is p.expiry p.subscription p.properties q.expiry q.subscription q.properties h.section_fits k.section_fits parts.0 in
    made topic.0 qos ids.0 carried.1 carried.0 carried.2 parts.1
  where
    made : {t1 t2 : List ℕ} {o1 o2 : Qos} {i1 i2 s1 s2 e1 e2 : Option ℕ} {p1 p2 : PropertiesValue} {b1 b2 : List ℕ} → t1 ≡ t2 → o1 ≡ o2 → i1 ≡ i2 → s1 ≡ s2 → e1 ≡ e2 → p1 ≡ p2 → b1 ≡ b2
        → ◌≡◌ {A = PublishReply} (record { topic = t1; qos = o1; id = i1; subscription = s1; expiry = e1; properties = p1; payload = b1 }) (record { topic = t2; qos = o2; id = i2; subscription = s2; expiry = e2; properties = p2; payload = b2 })
    made a b c d e f g = rw (a, b, c, d, e, f, g) refl

level_is : (q r : Qos) → level q ≡ level r → q ≡ r
level_is AtMostOnce AtMostOnce e = refl
level_is AtMostOnce AtLeastOnce e = absurd (omega (arith, e))
level_is AtMostOnce ExactlyOnce e = absurd (omega (arith, e))
level_is AtLeastOnce AtMostOnce e = absurd (omega (arith, e))
level_is AtLeastOnce AtLeastOnce e = refl
level_is AtLeastOnce ExactlyOnce e = absurd (omega (arith, e))
level_is ExactlyOnce AtMostOnce e = absurd (omega (arith, e))
level_is ExactlyOnce AtLeastOnce e = absurd (omega (arith, e))
level_is ExactlyOnce ExactlyOnce e = refl

-- ---- the other replies, from the first byte and the body

-- a number of two bytes, and what follows it
abbrev with_number : (ℕ → List ℕ → Reply) → Result (ℕ × List ℕ) PacketFault → Reply
with_number make (Ok x) = make x.0 x.1
with_number make (Err f) = reply.Pingresp

abbrev acknowledged : (ℕ → ℕ → Reply) → List ℕ → Reply
acknowledged make body = with_number (λ id rest. make id (slice_index_or rest 0 0)) (number_at w16 body)

acknowledged_is : (make : ℕ → ℕ → Reply) (id code : ℕ) → id < 2 ^ 16 → acknowledged make (acknowledging id code) ≡ make id code
acknowledged_is make id code lt = go (eqb code 0) refl
  where
    go : (b : Bool) → eqb code 0 ≡ b → acknowledged make (cond b (two id) (two id ++ code ∷ [])) ≡ make id code
    go true e = ap (with_number (λ id rest. make id (slice_index_or rest 0 0))) (number_again w16 (2 ^ 16) wide16 id [] lt) ∙ ap (make id) (sym (eqb-true _ _ e))
    go false e = ap (with_number (λ id rest. make id (slice_index_or rest 0 0))) (number_again w16 (2 ^ 16) wide16 id (code ∷ []) lt)

abbrev with_codes : (CodesValue → Reply) → List ℕ → Reply
with_codes make body = with_number (λ id rest. make (record { id = id; codes = drop 1 rest })) (number_at w16 body)

with_codes_is : (make : CodesValue → Reply) (c : CodesValue) → c.id < 2 ^ 16 → with_codes make (codes_body c) ≡ make c
with_codes_is make c lt = ap (with_number (λ id rest. make (record { id = id; codes = drop 1 rest }))) (number_again w16 (2 ^ 16) wide16 c.id (0 ∷ c.codes) lt)

abbrev client_in : Result (List ℕ × List ℕ) PacketFault → Option (List ℕ)
client_in (Ok x) = Some x.0
client_in (Err f) = None

abbrev client_of : List ℕ → Option (List ℕ)
client_of bytes = cond (eqb (slice_index_or bytes 0 0) 0x12) (client_in (binary_at (drop 1 bytes))) None

abbrev accepted_of : List ℕ → ConnackAccepted
accepted_of bytes = let is_sent = eqb (slice_index_or bytes 0 0) 0x11 in record { session_expiry_zero = is_sent; assigned_client = client_of (cond is_sent (drop 5 bytes) bytes) }

accepted_is : (is_sent : Bool) (client : Option (List ℕ)) → IfSome client IsShort → let a : ConnackAccepted = record { session_expiry_zero = is_sent; assigned_client = client } in accepted_of (accepting a) ≡ a
accepted_is true None h = refl
accepted_is false None h = refl
accepted_is true (Some c) h = ap (λ (r : Result (List ℕ × List ℕ) PacketFault). let a : ConnackAccepted = record { session_expiry_zero = true; assigned_client = client_in r } in a) (binary_again c limit_bytes h)
accepted_is false (Some c) h = ap (λ (r : Result (List ℕ × List ℕ) PacketFault). let a : ConnackAccepted = record { session_expiry_zero = false; assigned_client = client_in r } in a) (binary_again c limit_bytes h)

abbrev with_section : Result (ℕ × List ℕ) PacketFault → Reply
with_section (Ok x) = reply.ConnackAccepted (accepted_of x.1)
with_section (Err f) = reply.Pingresp

-- a CONNACK that refuses has three bytes after its length
abbrev connack : List ℕ → Reply
connack body = cond (eqb (length body) 3) (reply.ConnackRefused (slice_index_or body 1 0)) (with_section (varint_at (drop 2 body)))

connack_is : (a : ConnackAccepted) → IfSome a.assigned_client IsShort → length (accepted_body a) < varint_end → connack (accepted_body a) ≡ reply.ConnackAccepted a
connack_is a h lt =
    let long : eqb (length (accepted_body a)) 3 ≡ false = ne_eqb _ _ (λ z. omega (arith, z, length_accepted a, length_accepting a)) in
    let small : length (accepting a) < varint_end = omega (arith, lt, length_accepted a) in
    rw (long, varint_again (length (accepting a)) (accepting a) small) (ap (λ (b : ConnackAccepted). reply.ConnackAccepted b) (accepted_is a.session_expiry_zero a.assigned_client h))

-- any reply but a PUBLISH
abbrev plain_at : ℕ → List ℕ → Option Reply
plain_at first body =
    cond (eqb first 0x20) (Some (connack body))
    (cond (eqb first 0x40) (Some (acknowledged (λ id code. reply.Puback id code) body))
    (cond (eqb first 0x50) (Some (acknowledged (λ id code. reply.Pubrec id code) body))
    (cond (eqb first 0x62) (Some (acknowledged (λ id code. reply.Pubrel id code) body))
    (cond (eqb first 0x70) (Some (acknowledged (λ id code. reply.Pubcomp id code) body))
    (cond (eqb first 0x90) (Some (with_codes (λ c. reply.Suback c) body))
    (cond (eqb first 0xB0) (Some (with_codes (λ c. reply.Unsuback c) body))
    (cond (eqb first 0xD0) (Some reply.Pingresp)
    (cond (eqb first 0xE0) (Some (reply.Disconnect (slice_index_or body 0 0))) None))))))))

abbrev plain : Reply → Option Reply
plain (reply.ConnackAccepted a) = Some (reply.ConnackAccepted a)
plain (reply.ConnackRefused code) = Some (reply.ConnackRefused code)
plain (reply.Publish p) = None
plain (reply.Puback id code) = Some (reply.Puback id code)
plain (reply.Pubrec id code) = Some (reply.Pubrec id code)
plain (reply.Pubrel id code) = Some (reply.Pubrel id code)
plain (reply.Pubcomp id code) = Some (reply.Pubcomp id code)
plain (reply.Suback c) = Some (reply.Suback c)
plain (reply.Unsuback c) = Some (reply.Unsuback c)
plain reply.Pingresp = Some reply.Pingresp
plain (reply.Disconnect code) = Some (reply.Disconnect code)

some : (r s : Reply) → r ≡ s → ◌≡◌ {A = Option Reply} (Some r) (Some s)
some r s e = ap (λ (x : Reply). Some x) e

plain_is : (r : Reply) → ReplyFits r → HasEncoding r → plain_at (first_byte r) (reply_body r) ≡ plain r
plain_is (reply.ConnackAccepted a) h lt = some _ _ (connack_is a h lt)
plain_is (reply.ConnackRefused code) h lt = refl
plain_is (reply.Publish p) h lt = none p.qos
  where
    none : (q : Qos) → plain_at (0x31 + 2 * level q) (publish_reply_body p) ≡ None
    none AtMostOnce = refl
    none AtLeastOnce = refl
    none ExactlyOnce = refl
plain_is (reply.Puback id code) h lt = some _ _ (acknowledged_is (λ id code. reply.Puback id code) id code h)
plain_is (reply.Pubrec id code) h lt = some _ _ (acknowledged_is (λ id code. reply.Pubrec id code) id code h)
plain_is (reply.Pubrel id code) h lt = some _ _ (acknowledged_is (λ id code. reply.Pubrel id code) id code h)
plain_is (reply.Pubcomp id code) h lt = some _ _ (acknowledged_is (λ id code. reply.Pubcomp id code) id code h)
plain_is (reply.Suback c) h lt = some _ _ (with_codes_is (λ c. reply.Suback c) c h)
plain_is (reply.Unsuback c) h lt = some _ _ (with_codes_is (λ c. reply.Unsuback c) c h)
plain_is reply.Pingresp h lt = refl
plain_is (reply.Disconnect code) h lt = refl

some_is : (r s : Reply) → ◌≡◌ {A = Option Reply} (Some r) (Some s) → r ≡ s
some_is r s e = cc

plain_some : (r s : Reply) → plain r ≡ Some s → r ≡ s
plain_some (reply.ConnackAccepted a) s e = some_is _ s e
plain_some (reply.ConnackRefused code) s e = some_is _ s e
plain_some (reply.Publish p) s e = absurd cc
plain_some (reply.Puback id code) s e = some_is _ s e
plain_some (reply.Pubrec id code) s e = some_is _ s e
plain_some (reply.Pubrel id code) s e = some_is _ s e
plain_some (reply.Pubcomp id code) s e = some_is _ s e
plain_some (reply.Suback c) s e = some_is _ s e
plain_some (reply.Unsuback c) s e = some_is _ s e
plain_some reply.Pingresp s e = some_is _ s e
plain_some (reply.Disconnect code) s e = some_is _ s e

plain_none : (r : Reply) → plain r ≡ None → (p : PublishReply) × (r ≡ reply.Publish p)
plain_none (reply.ConnackAccepted a) e = absurd cc
plain_none (reply.ConnackRefused code) e = absurd cc
plain_none (reply.Publish p) e = (p, refl)
plain_none (reply.Puback id code) e = absurd cc
plain_none (reply.Pubrec id code) e = absurd cc
plain_none (reply.Pubrel id code) e = absurd cc
plain_none (reply.Pubcomp id code) e = absurd cc
plain_none (reply.Suback c) e = absurd cc
plain_none (reply.Unsuback c) e = absurd cc
plain_none reply.Pingresp e = absurd cc
plain_none (reply.Disconnect code) e = absurd cc

-- ---- all of them

published : (r s : Reply) (p q : PublishReply) → r ≡ reply.Publish p → s ≡ reply.Publish q → ReplyFits r → ReplyFits s → HasEncoding r → HasEncoding s → first_byte r ≡ first_byte s → reply_body r ≡ reply_body s → r ≡ s
published r s p q er es h k hs ks f b =
    let fp : PublishFits p = subst ReplyFits er h in
    let fq : PublishFits q = subst ReplyFits es k in
    let sp : length (publish_reply_body p) < varint_end = subst HasEncoding er hs in
    let sq : length (publish_reply_body q) < varint_end = subst HasEncoding es ks in
    let first : 0x31 + 2 * level p.qos ≡ 0x31 + 2 * level q.qos = sym (ap first_byte er) ∙ f ∙ ap first_byte es in
    let body : publish_reply_body p ≡ publish_reply_body q = sym (ap reply_body er) ∙ b ∙ ap reply_body es in
    er ∙ ap (λ (x : PublishReply). reply.Publish x) (publish_reply_is p q fp fq sp sq (level_is p.qos q.qos (omega (arith, first))) body) ∙ sym es

reply_is : (r s : Reply) → ReplyFits r → ReplyFits s → HasEncoding r → HasEncoding s → first_byte r ≡ first_byte s → reply_body r ≡ reply_body s → r ≡ s
reply_is r s h k hs ks f b = go (plain r) refl (sym both)
  where
    both : plain r ≡ plain s
    both = sym (plain_is r h hs) ∙ (ap (λ (n : ℕ). plain_at n (reply_body r)) f ∙ ap (plain_at (first_byte s)) b) ∙ plain_is s k ks

    go : (o : Option Reply) → plain r ≡ o → plain s ≡ o → r ≡ s
    go (Some t) e g = plain_some r t e ∙ sym (plain_some s t g)
    go None e g = let p = plain_none r e in let q = plain_none s g in published r s p.0 q.0 p.1 q.1 h k hs ks f b

pub one_reply : (a b x y : List ℕ) (r s : Reply) → EncodesReply a r → EncodesReply b s → a ++ x ≡ b ++ y → r ≡ s
one_reply a b x y r s h k e =
    let whole = ap (λ (t : List ℕ). t ++ x) (sym h.fields) ∙ e ∙ ap (λ (t : List ℕ). t ++ y) k.fields in
    let parts = frame_parts (first_byte r) (first_byte s) (reply_body r) (reply_body s) x y h.small k.small whole in
    reply_is r s h.fits k.fits h.small k.small parts.0 parts.1
