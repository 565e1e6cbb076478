-- Entries that `==` calls equal are one entry.
use Rattle.std.proofs.Common.{◌≡◌, ◌==◌, ℕ, Bool, true, false, ◌&&◌, List, [], ◌∷◌, Some, None, refl, ap, subst, sym, ◌∙◌, Decides}
use Rattle.std.specs.Prelude.{nat_eq}
use Rattle.std.specs.Option.{option_eq}
use Rattle.std.specs.Cmp.Lexicographic.{pointwise}
use Rattle.std.proofs.lemmas.Bool.Decides.{Decides-eqb}
use Rattle.rs_message.specs.Sizes.{level}
use Rattle.rs_message.specs.declared.qos.Qos.{Qos}
use Rattle.rs_message.specs.declared.qos.Qos.TheVariants.{AtMostOnce, AtLeastOnce, ExactlyOnce}
use Rattle.rs_packet_property.specs.Equality.{properties_eq}
use Rattle.rs_message.specs.Equality.{message_eq, message_eq_equiv}
use Rattle.rs_message.specs.Values.{MessageValue, FoundValue}
use Rattle.rs_message.specs.declared.entry.Entry.{Entry}

-- the test passes only for a value and itself
abbrev IsExact : {A : Type 0} → (A → A → Bool) → Type 0
IsExact {A} E = (a b : A) → E a b ≡ true → a ≡ b

both : (a b : Bool) → (a && b) ≡ true → (a ≡ true) × (b ≡ true)
both true b h = (refl, h)
both false b h = absurd (cc (h))

nats : IsExact nat_eq
nats a b h = (Decides-eqb a b).0 h

options : {A : Type 0} (E : A → A → Bool) → IsExact E → IsExact (option_eq E)
options E exact None None h = refl
options E exact None (Some b) h = absurd (cc (h))
options E exact (Some a) None h = absurd (cc (h))
options E exact (Some a) (Some b) h = ap Some (exact a b h)

lists : {A : Type 0} (E : A → A → Bool) → IsExact E → IsExact (pointwise E)
lists E exact [] [] h = refl
lists E exact [] (y ∷ ys) h = absurd (cc (h))
lists E exact (x ∷ xs) [] h = absurd (cc (h))
lists E exact (x ∷ xs) (y ∷ ys) h =
    let t = both (E x y) (pointwise E xs ys) h in
    cc (exact x y t.0, lists E exact xs ys t.1)

texts : IsExact (pointwise nat_eq)
texts = lists nat_eq nats

pairs : (p q : List ℕ × List ℕ) → (pointwise nat_eq p.0 q.0 && pointwise nat_eq p.1 q.1) ≡ true → p ≡ q
pairs p q h =
    let t = both (pointwise nat_eq p.0 q.0) (pointwise nat_eq p.1 q.1) h in
    let first = texts p.0 q.0 t.0 in
    let second = texts p.1 q.1 t.1 in
    let same : (p.0, p.1) ≡ (q.0, q.1) = cc (first, second) in
    same

levels : (p q : Qos) → (level p == level q) ≡ true → p ≡ q
levels AtMostOnce AtMostOnce h = refl
levels AtMostOnce AtLeastOnce h = absurd (cc (h))
levels AtMostOnce ExactlyOnce h = absurd (cc (h))
levels AtLeastOnce AtMostOnce h = absurd (cc (h))
levels AtLeastOnce AtLeastOnce h = refl
levels AtLeastOnce ExactlyOnce h = absurd (cc (h))
levels ExactlyOnce AtMostOnce h = absurd (cc (h))
levels ExactlyOnce AtLeastOnce h = absurd (cc (h))
levels ExactlyOnce ExactlyOnce h = refl

properties : IsExact properties_eq
properties p q h =
    let format = both (option_eq nat_eq p.format q.format) _ h in
    let content = both (option_eq (pointwise nat_eq) p.content_type q.content_type) _ format.1 in
    let response = both (option_eq (pointwise nat_eq) p.response_topic q.response_topic) _ content.1 in
    let correlation = both (option_eq (pointwise nat_eq) p.correlation q.correlation) _ response.1 in
    let a = options nat_eq nats p.format q.format format.0 in
    let b = options (pointwise nat_eq) texts p.content_type q.content_type content.0 in
    let c = options (pointwise nat_eq) texts p.response_topic q.response_topic response.0 in
    let d = options (pointwise nat_eq) texts p.correlation q.correlation correlation.0 in
    let e = lists _ pairs p.user q.user correlation.1 in
    let same : record { format = p.format; content_type = p.content_type; response_topic = p.response_topic; correlation = p.correlation; user = p.user }
    ≡ record { format = q.format; content_type = q.content_type; response_topic = q.response_topic; correlation = q.correlation; user = q.user } = cc (a, b, c, d, e) in
    same

messages : IsExact message_eq
messages m n h =
    let payload = both (pointwise nat_eq m.payload n.payload) _ h in
    let qos = both (nat_eq (level m.qos) (level n.qos)) _ payload.1 in
    let received = both (nat_eq m.received n.received) _ qos.1 in
    let expiry = both (option_eq nat_eq m.expiry n.expiry) _ received.1 in
    let a = texts m.payload n.payload payload.0 in
    let b = levels m.qos n.qos qos.0 in
    let c = nats m.received n.received received.0 in
    let d = options nat_eq nats m.expiry n.expiry expiry.0 in
    let e = properties m.properties n.properties expiry.1 in
    let same : record { payload = m.payload; qos = m.qos; received = m.received; expiry = m.expiry; properties = m.properties }
    ≡ record { payload = n.payload; qos = n.qos; received = n.received; expiry = n.expiry; properties = n.properties } = cc (a, b, c, d, e) in
    same

-- `==` of messages decides whether they are one
pub messages_decide : (m n : MessageValue) (b : Bool) → b ≡ message_eq m n → Decides b (m ≡ n)
messages_decide m n b is =
    let P : MessageValue → Type 0 = λ x. message_eq m x ≡ true in
    ((λ h. messages m n (sym is ∙ h)), (λ same. is ∙ subst P same (message_eq_equiv.refl m)))

-- two of one topic and one message
pub founds : (f g : FoundValue) → f.topic ≡ g.topic → f.message ≡ g.message → f ≡ g
founds f g topic message =
    let same : record { topic = f.topic; message = f.message } ≡ record { topic = g.topic; message = g.message } = cc (topic, message) in
    same

-- two entries of one origin and one operation
pub entries : (a b : Entry) → a.origin.place ≡ b.origin.place → a.origin.serial ≡ b.origin.serial → a.operation ≡ b.operation → a ≡ b
entries a b place serial operation =
    let same : record { origin = record { place = a.origin.place; serial = a.origin.serial }; operation = a.operation }
    ≡ record { origin = record { place = b.origin.place; serial = b.origin.serial }; operation = b.operation } = cc (place, serial, operation) in
    same
