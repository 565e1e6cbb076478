-- Whole packets: what is answered is encoded so, and what is encoded so is answered; no encoding begins another.
use Rattle.std.proofs.Common.{◌≡◌, ℕ, suc, ◌+◌, ◌-◌, ◌<◌, ◌≤◌, Bool, true, false, cond, eqb, ltb, List, [], ◌∷◌, ◌++◌, length, take, drop, Option, Some, None, Result, Ok, Err, refl, sym, ap, subst, ◌∙◌, append_assoc, arith, inl, inr}
use Rattle.std.specs.List.{find, list_any}
use Rattle.std.specs.Prelude.{nat_eq, IfOk}
use Rattle.std.proofs.lemmas.Bool.{eqb-true, ltb-false, le-ltb}
use Rattle.std.proofs.lemmas.List.{length-append, length-drop, length-take-le, take-append-drop, take_at}
use Rattle.rs_packet_field.specs.declared.fault.PacketFault.{PacketFault}
use Rattle.rs_packet_field.specs.declared.fault.PacketFault.TheVariants.{Malformed, Protocol, TooLarge}
use Rattle.rs_packet_field.specs.declared.varint.VarintFault.{VarintFault}
use Rattle.rs_packet_field.specs.declared.varint.VarintFault.TheVariants.{Short, Bad}
use Rattle.rs_packet_property.specs.declared.property.PropertyOwner.TheVariants as owner
use Rattle.rs_packet.specs.declared.packet.Packet.TheVariants as packet
use Rattle.rs_packet.specs.declared.packet.Decoded.{Decoded}
use Rattle.rs_packet.specs.declared.packet.Decoded.TheVariants.{Whole, More}
use Rattle.rs_packet.proofs.PacketLaws.{connect_takes, connect_again, publish_takes, publish_again, acknowledgement_takes, acknowledgement_again, code_takes, code_again, subscribe_takes, subscribe_again, unsubscribe_takes, unsubscribe_again}
use Rattle.rs_message.specs.declared.qos.Qos.TheVariants.{AtMostOnce, AtLeastOnce, ExactlyOnce}
use Rattle.rs_packet.specs.declared.packet.PacketKind.{PacketKind}
use Rattle.rs_packet.specs.declared.packet.PacketKind.TheVariants as kind
use Rattle.rs_packet.specs.declared.packet.Packet.{Packet}
use Rattle.rs_packet.specs.declared.reply.Reply.{Reply}
use Rattle.rs_packet.specs.Replies.{EncodesReply, first_byte, reply_body}
use Rattle.rs_packet_property.specs.Properties.{varint, varint_end}
use Rattle.rs_packet_field.specs.Reading.{◌>>=◌, digits_at, varint_at}
use Rattle.rs_message.specs.declared.limits.TheConstants.{MAX_PACKET_SIZE}
use Rattle.rs_packet.specs.Grammar.{head, frame, Encodes, EncodesBody, HasPrefix}
use Rattle.rs_packet.specs.PacketReading.{Gives, kinds, others, kind_or, kind_of, connect_at, publish_at, acknowledgement_at, subscribe_at, unsubscribe_at, code_at, packet_at, body_at, sized, answer}
use Rattle.rs_packet_field.proofs.Numbers.{bind_ok, ok_is}
use Rattle.rs_packet_property.proofs.Identifiers.{chosen}
use Rattle.rs_packet_field.proofs.Fields.{IsBytes, IsBytes-take, IsBytes-rest, digits_takes, digits_again, varint_again}
use Rattle.rs_packet_property.proofs.Identifiers.{find_passes}

-- ---- no encoding begins another

pub pair_is : {A B E : Type 0} (a c : A) (b d : B) → ◌≡◌ {A = Result (A × B) E} (Ok (a, b)) (Ok (c, d)) → (a ≡ c) × (b ≡ d)
pair_is {A} {B} a c b d e = let same : ◌≡◌ {A = A × B} (a, b) (c, d) = ok_is (a, b) (c, d) e in (ap (λ (p : A × B). p.0) same, ap (λ (p : A × B). p.1) same)

cons_is : (f g : ℕ) (xs ys : List ℕ) → f ∷ xs ≡ g ∷ ys → (f ≡ g) × (xs ≡ ys)
cons_is f g xs ys e = (cc, cc)

pub same_prefix : (a b x y : List ℕ) → length a ≡ length b → a ++ x ≡ b ++ y → (a ≡ b) × (x ≡ y)
same_prefix [] [] x y l e = (refl, e)
same_prefix [] (c ∷ b) x y l e = absurd (omega (arith, l))
same_prefix (c ∷ a) [] x y l e = absurd (omega (arith, l))
same_prefix (c ∷ a) (d ∷ b) x y l e =
    let k : length a ≡ length b = omega (arith, l) in
    let h = cons_is c d (a ++ x) (b ++ y) e in
    let t = same_prefix a b x y k h.1 in
    (both c d a b h.0 t.0, t.1)
  where
    both : (c d : ℕ) (a b : List ℕ) → c ≡ d → a ≡ b → c ∷ a ≡ d ∷ b
    both c d a b p q = rw (p, q) refl

-- of two frames at the front of the same bytes, the first bytes are one, and the bodies
pub frame_parts : (f g : ℕ) (a b x y : List ℕ) → length a < varint_end → length b < varint_end → frame f a ++ x ≡ frame g b ++ y → (f ≡ g) × (a ≡ b) × (x ≡ y)
frame_parts f g a b x y la lb e =
    let h = cons_is f g ((varint (length a) ++ a) ++ x) ((varint (length b) ++ b) ++ y) e in
    let tails : varint (length a) ++ (a ++ x) ≡ varint (length b) ++ (b ++ y) = sym (append_assoc (varint (length a)) a x) ∙ h.1 ∙ append_assoc (varint (length b)) b y in
    let read = sym (varint_again (length a) (a ++ x) la) ∙ ap varint_at tails ∙ varint_again (length b) (b ++ y) lb in
    let same = pair_is (length a) (length b) (a ++ x) (b ++ y) read in
    let bodies = same_prefix a b x y same.0 same.1 in
    (h.0, bodies.0, bodies.1)

pub frame_once : (f g : ℕ) (a b x y : List ℕ) → length a < varint_end → length b < varint_end → frame f a ++ x ≡ frame g b ++ y → (frame f a ≡ frame g b) × (x ≡ y)
frame_once f g a b x y la lb e =
    let h = frame_parts f g a b x y la lb e in
    (frames f g a b h.0 h.1, h.2)
  where
    frames : (f g : ℕ) (a b : List ℕ) → f ≡ g → a ≡ b → frame f a ≡ frame g b
    frames f g a b p q = rw (p, q) refl

body_small : (first : ℕ) (body bytes : List ℕ) → bytes ≡ frame first body → length bytes ≤ MAX_PACKET_SIZE → length body < varint_end
body_small first body bytes e le = omega (arith, le, ap length e, length-append (varint (length body)) body)

pub encoded_once : (a b x y : List ℕ) (p q : Packet) → Encodes a p → Encodes b q → a ++ x ≡ b ++ y → (a ≡ b) × (x ≡ y)
encoded_once a b x y p q h k e =
    let fa = h.fields in
    let fb = k.fields in
    let whole : frame (head h.first) h.body ++ x ≡ frame (head k.first) k.body ++ y = ap (λ (r : List ℕ). r ++ x) (sym fa) ∙ e ∙ ap (λ (r : List ℕ). r ++ y) fb in
    let one = frame_once (head h.first) (head k.first) h.body k.body x y (body_small (head h.first) h.body a fa h.small) (body_small (head k.first) k.body b fb k.small) whole in
    (fa ∙ one.0 ∙ sym fb, one.1)

-- ---- the first byte

-- 3.3.1.1
abbrev pub IsKind : PacketKind → Type 0
IsKind (kind.Publish duplicate qos retain) = qos ≡ AtMostOnce → duplicate ≡ false
IsKind kind.Connect = Unit {0}
IsKind kind.Puback = Unit {0}
IsKind kind.Pubrec = Unit {0}
IsKind kind.Pubrel = Unit {0}
IsKind kind.Pubcomp = Unit {0}
IsKind kind.Subscribe = Unit {0}
IsKind kind.Unsubscribe = Unit {0}
IsKind kind.Pingreq = Unit {0}
IsKind kind.Disconnect = Unit {0}

abbrev AreKinds : List PacketKind → Type 0
AreKinds [] = Unit {0}
AreKinds (k ∷ ks) = IsKind k × AreKinds ks

are_kinds : AreKinds kinds
are_kinds = (tt, (λ e. refl, (λ e. refl, (λ e. refl, (λ e. refl, (λ e. refl, (λ e. refl, (λ e. absurd cc, (λ e. absurd cc, (λ e. absurd cc, (λ e. absurd cc, (tt, (tt, (tt, (tt, (tt, (tt, (tt, (tt, tt)))))))))))))))))))

some_is : {A : Type 0} (x y : A) → ◌≡◌ {A = Option A} (Some x) (Some y) → x ≡ y
some_is x y e = cc

found_kind : (test : PacketKind → Bool) (ks : List PacketKind) (k : PacketKind) → AreKinds ks → find test ks ≡ Some k → IsKind k
found_kind test [] k h e = absurd cc
found_kind test (j ∷ ks) k h e =
    elim (chosen (test j) (Some j) (find test ks) (Some k) e) [
      | inl t ↦ subst IsKind (some_is j k t.1) h.0
      | inr t ↦ found_kind test ks k h.1 t.1
    ]

kind_found : (o : Option PacketKind) (first : ℕ) (k : PacketKind) → kind_or o first ≡ Ok k → o ≡ Some k
kind_found (Some j) first k e = ap (λ (x : PacketKind). Some x) (ok_is j k e)
kind_found None first k e = none (list_any (nat_eq first) others) e
  where
    none : (b : Bool) → cond b (Err Protocol) (Err Malformed) ≡ Ok k → None ≡ Some k
    none true e = absurd cc
    none false e = absurd cc

pub kind_is : (first : ℕ) (k : PacketKind) → kind_of first ≡ Ok k → (head k ≡ first) × IsKind k
unfolding kind_of
kind_is first k e =
    let f = kind_found (find (λ k. eqb (head k) first) kinds) first k e in
    (eqb-true _ _ (find_passes (λ k. eqb (head k) first) kinds k f), found_kind (λ k. eqb (head k) first) kinds k are_kinds f)

pub kind_again : (k : PacketKind) → IsKind k → kind_of (head k) ≡ Ok k
unfolding kind_of
kind_again kind.Connect h = refl
kind_again (kind.Publish true AtMostOnce retain) h = absurd (let e : ◌≡◌ {A = Bool} true false = h refl in cc)
kind_again (kind.Publish false AtMostOnce true) h = refl
kind_again (kind.Publish false AtMostOnce false) h = refl
kind_again (kind.Publish true AtLeastOnce true) h = refl
kind_again (kind.Publish true AtLeastOnce false) h = refl
kind_again (kind.Publish false AtLeastOnce true) h = refl
kind_again (kind.Publish false AtLeastOnce false) h = refl
kind_again (kind.Publish true ExactlyOnce true) h = refl
kind_again (kind.Publish true ExactlyOnce false) h = refl
kind_again (kind.Publish false ExactlyOnce true) h = refl
kind_again (kind.Publish false ExactlyOnce false) h = refl
kind_again kind.Puback h = refl
kind_again kind.Pubrec h = refl
kind_again kind.Pubrel h = refl
kind_again kind.Pubcomp h = refl
kind_again kind.Subscribe h = refl
kind_again kind.Unsubscribe h = refl
kind_again kind.Pingreq h = refl
kind_again kind.Disconnect h = refl

-- ---- the bodies

made : {A : Type 0} (k : PacketKind) (body : List ℕ) (read : Result A PacketFault) (make : A → Packet) (p : Packet) → (read >>= λ a. Ok (make a)) ≡ Ok p → ((a : A) → read ≡ Ok a → EncodesBody k body (make a)) → EncodesBody k body p
made k body read make p e f = let b = bind_ok read (λ a. Ok (make a)) p e in subst (EncodesBody k body) (ok_is (make b.0) p b.2) (f b.0 b.1)

pub packet_takes : (k : PacketKind) (body : List ℕ) (p : Packet) → IsBytes body → IsKind k → packet_at k body ≡ Ok p → EncodesBody k body p
unfolding packet_at
packet_takes kind.Connect body p fits h e = made kind.Connect body (connect_at body) packet.Connect p e (λ a r. EncodesBody.connect (connect_takes body a fits r))
packet_takes (kind.Publish duplicate qos retain) body p fits h e = made (kind.Publish duplicate qos retain) body (publish_at duplicate qos retain body) packet.Publish p e (λ a r. EncodesBody.publish h (publish_takes duplicate qos retain body a fits r))
packet_takes kind.Puback body p fits h e = made kind.Puback body (acknowledgement_at body) packet.Puback p e (λ a r. EncodesBody.puback (acknowledgement_takes body a fits r))
packet_takes kind.Pubrec body p fits h e = made kind.Pubrec body (acknowledgement_at body) packet.Pubrec p e (λ a r. EncodesBody.pubrec (acknowledgement_takes body a fits r))
packet_takes kind.Pubrel body p fits h e = made kind.Pubrel body (acknowledgement_at body) packet.Pubrel p e (λ a r. EncodesBody.pubrel (acknowledgement_takes body a fits r))
packet_takes kind.Pubcomp body p fits h e = made kind.Pubcomp body (acknowledgement_at body) packet.Pubcomp p e (λ a r. EncodesBody.pubcomp (acknowledgement_takes body a fits r))
packet_takes kind.Subscribe body p fits h e = made kind.Subscribe body (subscribe_at body) packet.Subscribe p e (λ a r. EncodesBody.subscribe (subscribe_takes body a fits r))
packet_takes kind.Unsubscribe body p fits h e = made kind.Unsubscribe body (unsubscribe_at body) packet.Unsubscribe p e (λ a r. EncodesBody.unsubscribe (unsubscribe_takes body a fits r))
packet_takes kind.Pingreq [] p fits h e = subst (EncodesBody kind.Pingreq []) (ok_is packet.Pingreq p e) EncodesBody.pingreq
packet_takes kind.Pingreq (b ∷ body) p fits h e = absurd cc
packet_takes kind.Disconnect body p fits h e = made kind.Disconnect body (code_at owner.Disconnect body) packet.Disconnect p e (λ a r. EncodesBody.disconnect (code_takes owner.Disconnect body a fits r))

pub packet_again : (k : PacketKind) (body : List ℕ) (p : Packet) → EncodesBody k body p → (packet_at k body ≡ Ok p) × IsKind k
unfolding packet_at
packet_again _ body _ (EncodesBody.connect {c = c} h) = (rw (connect_again body c h) refl, tt)
packet_again _ body _ (EncodesBody.publish {duplicate = d} {retain = t} {qos = q} {p = p} one h) = (rw (publish_again d q t body p h) refl, one)
packet_again _ body _ (EncodesBody.puback {a = a} h) = (rw (acknowledgement_again body a h) refl, tt)
packet_again _ body _ (EncodesBody.pubrec {a = a} h) = (rw (acknowledgement_again body a h) refl, tt)
packet_again _ body _ (EncodesBody.pubrel {a = a} h) = (rw (acknowledgement_again body a h) refl, tt)
packet_again _ body _ (EncodesBody.pubcomp {a = a} h) = (rw (acknowledgement_again body a h) refl, tt)
packet_again _ body _ (EncodesBody.subscribe {s = s} h) = (rw (subscribe_again body s h) refl, tt)
packet_again _ body _ (EncodesBody.unsubscribe {u = u} h) = (rw (unsubscribe_again body u h) refl, tt)
packet_again _ _ _ EncodesBody.pingreq = (refl, tt)
packet_again _ body _ (EncodesBody.disconnect {code = c} h) = (rw (code_again owner.Disconnect body c h) refl, tt)

-- ---- the whole

body_is_whole : (k : PacketKind) (bytes body rest : List ℕ) (d : Decoded) → IsKind k → IsBytes rest → (n : ℕ) → n < varint_end → bytes ≡ head k ∷ varint n ++ rest
    → body_at k (length bytes - length rest) n rest ≡ Ok d → HasPrefix bytes d
body_is_whole k bytes body rest d h fits n lt e r =
    let large = tested (ltb MAX_PACKET_SIZE (length bytes - length rest + n)) TooLarge (cond (ltb (length rest) n) (Ok More) (packet_at k (take n rest) >>= λ p. Ok (Whole p (length bytes - length rest + n)))) d r in
    let small : length bytes - length rest + n ≤ MAX_PACKET_SIZE = ltb-false _ _ large.0 in
    elim (chosen (ltb (length rest) n) (Ok More) (packet_at k (take n rest) >>= λ p. Ok (Whole p (length bytes - length rest + n))) (Ok d) large.1) [
      | inl t ↦ subst (HasPrefix bytes) (ok_is More d t.1) tt
      | inr t ↦
          let long : n ≤ length rest = ltb-false _ _ t.0 in
          let p = bind_ok (packet_at k (take n rest)) (λ p. Ok (Whole p (length bytes - length rest + n))) d t.1 in
          let says = packet_takes k (take n rest) p.0 (IsBytes-take n rest fits) h p.1 in
          let len : length (take n rest) ≡ n = length-take-le n rest long in
          let parts : bytes ≡ frame (head k) (take n rest) ++ drop n rest = e ∙ ap (λ (m : ℕ). head k ∷ varint m ++ rest) (sym len)
          ∙ ap (λ (r : List ℕ). head k ∷ varint (length (take n rest)) ++ r) (sym (take-append-drop n rest)) ∙ sym (append_assoc (head k ∷ varint (length (take n rest))) (take n rest) (drop n rest)) in
          let total : length bytes - length rest + n ≡ length (frame (head k) (take n rest)) = omega (arith, long, len, ap length parts, length-append (frame (head k) (take n rest)) (drop n rest), length-drop n rest, length-append (varint (length (take n rest))) (take n rest)) in
          let front : take (length bytes - length rest + n) bytes ≡ frame (head k) (take n rest) = ap (take (length bytes - length rest + n)) parts ∙ take_at (frame (head k) (take n rest)) (drop n rest) (length bytes - length rest + n) (sym total) in
          let fits_in : length bytes - length rest + n ≤ length bytes = omega (arith, total, ap length parts, length-append (frame (head k) (take n rest)) (drop n rest)) in
          let property_bytes : Encodes (take (length bytes - length rest + n) bytes) p.0 = record { first = k; body = take n rest; fields = front; small = omega (arith, small, total, ap length front); says = says } in
          subst (HasPrefix bytes) (ok_is (Whole p.0 (length bytes - length rest + n)) d p.2) (fits_in, property_bytes)
    ]
  where
    tested : {A : Type 0} (t : Bool) (d : PacketFault) (x : Result A PacketFault) (y : A) → cond t (Err d) x ≡ Ok y → (t ≡ false) × (x ≡ Ok y)
    tested true d x y e = absurd cc
    tested false d x y e = (refl, e)

pub answer_takes : (bytes : List ℕ) (p : Packet) (n : ℕ) → IsBytes bytes → answer bytes ≡ Ok (Whole p n) → (n ≤ length bytes) × Encodes (take n bytes) p
unfolding answer
answer_takes [] p n fits e = absurd cc
answer_takes (first ∷ bytes) p n fits e =
    let k = bind_ok (kind_of first) (λ k. sized k bytes (digits_at 4 bytes)) (Whole p n) e in
    let is = kind_is first k.0 k.1 in
    by k.0 is (digits_at 4 bytes) refl k.2
  where
    by : (k : PacketKind) → (head k ≡ first) × IsKind k → (r : Result (ℕ × List ℕ) VarintFault) → digits_at 4 bytes ≡ r → sized k bytes r ≡ Ok (Whole p n) → (n ≤ length (first ∷ bytes)) × Encodes (take n (first ∷ bytes)) p
    by k is (Err Short) d e = absurd cc
    by k is (Err Bad) d e = absurd cc
    by k is (Ok x) d e =
        let t = digits_takes 4 bytes x (IsBytes-rest first bytes fits) d in
        let whole : first ∷ bytes ≡ head k ∷ varint x.0 ++ x.1 = conses first (head k) bytes (varint x.0 ++ x.1) (sym is.0) t.0.parts in
        body_is_whole k (first ∷ bytes) bytes x.1 (Whole p n) is.1 t.0.rest_fits x.0 t.1 whole e
      where
        conses : (a b : ℕ) (xs ys : List ℕ) → a ≡ b → xs ≡ ys → a ∷ xs ≡ b ∷ ys
        conses a b xs ys p q = rw (p, q) refl

pub answer_again : (front rest : List ℕ) (p : Packet) (h : Encodes front p) → answer (front ++ rest) ≡ Ok (Whole p (length front))
unfolding answer
answer_again front rest p h =
    let body = h.body in
    let first = head h.first in
    let len = body_small first body front h.fields h.small in
    let q = packet_again h.first body p h.says in
    let shape : front ++ rest ≡ first ∷ (varint (length body) ++ (body ++ rest)) = ap (λ (x : List ℕ). x ++ rest) h.fields ∙ ap (λ (x : List ℕ). first ∷ x) (append_assoc (varint (length body)) body rest) in
    let digits : digits_at 4 (varint (length body) ++ (body ++ rest)) ≡ Ok (length body, body ++ rest) = digits_again 4 (length body) (body ++ rest) len (omega arith) in
    let size : suc (length (varint (length body) ++ (body ++ rest))) - length (body ++ rest) + length body ≡ length front =
    omega (arith, ap length h.fields, length-append (varint (length body)) body, length-append (varint (length body)) (body ++ rest), length-append body rest) in
    let small : ltb MAX_PACKET_SIZE (length front) ≡ false = le-ltb _ _ h.small in
    let long : ltb (length (body ++ rest)) (length body) ≡ false = le-ltb _ _ (omega (arith, length-append body rest)) in
    ap answer shape ∙ rw (kind_again h.first q.1, digits, size, small, long, take_at body rest (length body) refl, q.0) refl

-- ---- what `decode` promises

pub found : (bytes : List ℕ) (r : Result Decoded PacketFault) → IsBytes bytes → Gives (λ d. d) r (answer bytes) → IfOk r (λ d. HasPrefix bytes d)
found bytes (Ok (Whole p n)) fits e = answer_takes bytes p n fits e
found bytes (Ok More) fits e = tt
found bytes (Err f) fits e = tt

pub only : (bytes : List ℕ) (r : Result Decoded PacketFault) (p : Packet) (n : ℕ) → Gives (λ d. d) r (answer bytes) → n ≤ length bytes → (h : Encodes (take n bytes) p) → Gives (λ d. d) r (Ok (Whole p n))
only bytes r p n e le h =
    let again : answer (take n bytes ++ drop n bytes) ≡ Ok (Whole p (length (take n bytes))) = answer_again (take n bytes) (drop n bytes) p h in
    let is : answer bytes ≡ Ok (Whole p n) = ap answer (sym (take-append-drop n bytes)) ∙ again ∙ ap (λ (k : ℕ). Ok (Whole p k)) (length-take-le n bytes le) in
    subst (λ (a : Result Decoded PacketFault). Gives (λ d. d) r a) is e

pub reply_once : (a b x y : List ℕ) (r s : Reply) → EncodesReply a r → EncodesReply b s → a ++ x ≡ b ++ y → (a ≡ b) × (x ≡ y)
reply_once a b x y r s h k e =
    let whole : frame (first_byte r) (reply_body r) ++ x ≡ frame (first_byte s) (reply_body s) ++ y = ap (λ (t : List ℕ). t ++ x) (sym h.fields) ∙ e ∙ ap (λ (t : List ℕ). t ++ y) k.fields in
    let one = frame_once (first_byte r) (first_byte s) (reply_body r) (reply_body s) x y h.small k.small whole in
    (h.fields ∙ one.0 ∙ sym k.fields, one.1)
