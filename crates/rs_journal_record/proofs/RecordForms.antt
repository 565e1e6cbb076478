-- Records: what is read was encoded so, what is encoded is read again, and more bytes behind a record change nothing.
use Rattle.std.proofs.Common.{◌≡◌, ◌≢◌, ℕ, ◌<◌, ◌^◌, Bool, true, false, cond, eqb, not, ◌&&◌, List, [], ◌∷◌, ◌++◌, length, Option, Some, None, Result, Ok, Err, refl, sym, ap, subst, ◌∙◌, append_assoc, arith, inl, inr}
use Rattle.std.specs.Prelude.{IfSome, nat_le}
use Rattle.std.specs.Int.{w32, w64}
use Rattle.std.proofs.lemmas.Bool.{le-leb, leb-true, ne_eqb, eqb-true}
use Rattle.rs_topic.specs.declared.text.TopicFault.{TopicFault}
use Rattle.rs_topic.specs.Texts.{IsText}
use Rattle.rs_topic.specs.Topics.{name_of, name_faults_of_text}
use Rattle.rs_topic.specs.Meanings.{IsTopicName, Judges}
use Rattle.rs_topic.proofs.Readings.{name_judged}
use Rattle.rs_packet_property.specs.Forms.{four, counted}
use Rattle.rs_packet_property.proofs.Identifiers.{chosen}
use Rattle.rs_message.specs.Values.{MessageValue}
use Rattle.rs_message.specs.Sizes.{level, message_size}
use Rattle.rs_message.specs.Messages.{IsMessage, set_of}
use Rattle.rs_message.specs.declared.limits.TheConstants.{MAX_PACKET_SIZE}
use Rattle.rs_message.specs.declared.qos.Qos.{Qos}
use Rattle.rs_message.specs.declared.qos.Qos.TheVariants.{AtMostOnce, AtLeastOnce, ExactlyOnce}
use Rattle.rs_message.specs.declared.entry.Operation.{Operation}
use Rattle.rs_message.specs.declared.entry.Operation.TheVariants.{Set, Clear, Sweep}
use Rattle.rs_packet_field.specs.Reading.{byte_at, number_at, part_at}
use Rattle.rs_packet_field.proofs.Numbers.{bind_ok}
use Rattle.rs_packet_field.proofs.Fields.{IsBytes, Takes, Takes-then, Takes-next, wide32, number_takes, number_again, part_takes, part_again}
use Rattle.rs_journal_record.specs.declared.fault.RecordFault.{RecordFault}
use Rattle.rs_journal_record.specs.declared.fault.RecordFault.TheVariants.{UnknownKind}
use Rattle.rs_journal_record.specs.Fields.{single, eight, maybe, or_cut_off, or_malformed, text_at, maybe_at}
use Rattle.rs_journal_record.specs.Properties.{properties_form, properties_at}
use Rattle.rs_journal_record.specs.Records.{payload_form, message_form, record_form, qos_of, qos_at, as_name, name_at, payload_at, is_fit, message_of, as_message, message_at, set_at, clear_at, sweep_at, of_kind, record_at, IsKept, IsOperation}
use Rattle.rs_journal_record.proofs.FieldForms.{wide64, moved, cut_off_ok, malformed_ok, byte_takes, text_takes, maybe_takes, text_again, maybe_again, Stays, stays_then, malformed_stays, byte_stays, number_stays, part_stays, text_stays, maybe_stays}
use Rattle.rs_journal_record.proofs.PropertyForms.{properties_takes, properties_again, properties_stay}
use Rattle.rs_journal_record.proofs.Sizes.{small_payload}

-- ---- what is read was encoded so

qos_is : (n : ℕ) (q : Qos) → qos_of n ≡ Some q → n ≡ level q
qos_is n q e =
    elim (chosen (eqb n 0) (Some AtMostOnce) (cond (eqb n 1) (Some AtLeastOnce) (cond (eqb n 2) (Some ExactlyOnce) None)) (Some q) e) [
      | inl h ↦ let same : AtMostOnce ≡ q = cc (h.1) in subst (λ (r : Qos). n ≡ level r) same (eqb-true n 0 h.0)
      | inr h ↦
          elim (chosen (eqb n 1) (Some AtLeastOnce) (cond (eqb n 2) (Some ExactlyOnce) None) (Some q) h.1) [
            | inl k ↦ let same : AtLeastOnce ≡ q = cc (k.1) in subst (λ (r : Qos). n ≡ level r) same (eqb-true n 1 k.0)
            | inr k ↦
                elim (chosen (eqb n 2) (Some ExactlyOnce) None (Some q) k.1) [
                  | inl l ↦ let same : ExactlyOnce ≡ q = cc (l.1) in subst (λ (r : Qos). n ≡ level r) same (eqb-true n 2 l.0)
                  | inr l ↦ absurd (cc (l.1))
                ]
          ]
    ]

qos_takes : (bytes : List ℕ) (x : Qos × List ℕ) → IsBytes bytes → qos_at bytes ≡ Ok x → Takes bytes (single (level x.0)) x.1
unfolding qos_at
qos_takes bytes x fits e =
    let n = bind_ok (or_cut_off (byte_at bytes)) _ x e in
    let m = malformed_ok (qos_of n.0.0) n.0.1 x n.2 in
    moved (λ (b : ℕ) (rest : List ℕ). Takes bytes (single b) rest) n.0.0 (level x.0) n.0.1 x.1 (qos_is n.0.0 x.0 m.0) m.1 (byte_takes bytes n.0 fits n.1)

name_is : (t name : List ℕ) → IsText t → as_name (name_of t) ≡ Some name → (t ≡ name) × IsTopicName name
name_is t name is e = judged (name_of t) (name_judged t is) e
  where
    judged : (r : Result (List ℕ) TopicFault) → Judges IsTopicName name_faults_of_text t r → as_name r ≡ Some name → (t ≡ name) × IsTopicName name
    judged (Ok got) h e =
        let same : t ≡ name = cc (h.0, e) in
        (same, subst IsTopicName same h.1)
    judged (Err fault) h e = absurd (cc (e))

name_takes : (bytes : List ℕ) (x : List ℕ × List ℕ) → IsBytes bytes → name_at bytes ≡ Ok x → Takes bytes (counted x.0) x.1 × IsTopicName x.0
unfolding name_at
name_takes bytes x fits e =
    let t = bind_ok (text_at bytes) _ x e in
    let h = text_takes bytes t.0 fits t.1 in
    let m = malformed_ok (as_name (name_of t.0.0)) t.0.1 x t.2 in
    let n = name_is t.0.0 x.0 h.1 m.0 in
    (moved (λ (s rest : List ℕ). Takes bytes (counted s) rest) t.0.0 x.0 t.0.1 x.1 n.0 m.1 h.0, n.1)

payload_takes : (bytes : List ℕ) (x : List ℕ × List ℕ) → IsBytes bytes → payload_at bytes ≡ Ok x → Takes bytes (payload_form x.0) x.1
unfolding payload_at
payload_takes bytes x fits e =
    let n = bind_ok (or_cut_off (number_at w32 bytes)) _ x e in
    let t = number_takes w32 (2 ^ 32) wide32 bytes n.0 fits (cut_off_ok (number_at w32 bytes) n.0 n.1) in
    let p = part_takes n.0.0 n.0.1 x t.0.rest_fits (cut_off_ok (part_at n.0.0 n.0.1) x n.2) in
    subst (λ (k : ℕ). Takes bytes (four k ++ x.0) x.1) (sym p.1) (Takes-then bytes (four n.0.0) n.0.1 x.0 x.1 t.0 p.0)

interval_takes : (bytes : List ℕ) (x : ℕ × List ℕ) → IsBytes bytes → or_cut_off (number_at w32 bytes) ≡ Ok x → Takes bytes (four x.0) x.1 × (x.0 < 2 ^ 32)
interval_takes bytes x fits e = number_takes w32 (2 ^ 32) wide32 bytes x fits (cut_off_ok (number_at w32 bytes) x e)

moment_takes : (bytes : List ℕ) (x : ℕ × List ℕ) → IsBytes bytes → or_cut_off (number_at w64 bytes) ≡ Ok x → Takes bytes (eight x.0) x.1 × (x.0 < 2 ^ 64)
moment_takes bytes x fits e = number_takes w64 (2 ^ 64) wide64 bytes x fits (cut_off_ok (number_at w64 bytes) x e)

some_bytes : (payload : List ℕ) → not (eqb (length payload) 0) ≡ true → payload ≢ []
some_bytes [] e = absurd cc
some_bytes (b ∷ bytes) e = λ h. absurd cc

both_true : (a b : Bool) → (a && b) ≡ true → (a ≡ true) × (b ≡ true)
both_true true b e = (refl, e)
both_true false b e = absurd cc

fit_is : (m n : MessageValue) → as_message m ≡ Some n → (m ≡ n) × IsMessage m
fit_is m n e =
    elim (chosen (is_fit m) (Some m) None (Some n) e) [
      | inl h ↦
          let tests = both_true (not (eqb (length m.payload) 0)) (nat_le (message_size m.expiry m.properties m.payload) MAX_PACKET_SIZE) h.0 in
          let same : m ≡ n = cc (h.1) in
          (same, record { some = some_bytes m.payload tests.0; fits = leb-true _ _ tests.1 })
      | inr h ↦ absurd (cc (h.1))
    ]

message_takes : (bytes : List ℕ) (x : MessageValue × List ℕ) → IsBytes bytes → message_at bytes ≡ Ok x → Takes bytes (message_form x.0) x.1 × IsKept x.0
unfolding message_at
message_takes bytes x fits e =
    let q = bind_ok (qos_at bytes) _ x e in
    let a = qos_takes bytes q.0 fits q.1 in
    let t = bind_ok (or_cut_off (number_at w64 q.0.1)) _ x q.2 in
    let b = moment_takes q.0.1 t.0 a.rest_fits t.1 in
    let i = bind_ok (maybe_at (λ b. or_cut_off (number_at w32 b)) t.0.1) _ x t.2 in
    let c = maybe_takes four (λ b. or_cut_off (number_at w32 b)) (λ n. n < 2 ^ 32) interval_takes t.0.1 i.0 b.0.rest_fits i.1 in
    let f = bind_ok (properties_at i.0.1) _ x i.2 in
    let d = properties_takes i.0.1 f.0 c.0.rest_fits f.1 in
    let p = bind_ok (payload_at f.0.1) _ x f.2 in
    let g = payload_takes f.0.1 p.0 d.0.rest_fits p.1 in
    let m = message_of q.0.0 t.0.0 i.0.0 f.0.0 p.0.0 in
    let made = malformed_ok (as_message m) p.0.1 x p.2 in
    let is = fit_is m x.0 made.0 in
    let two = Takes-then bytes (single (level q.0.0)) q.0.1 (eight t.0.0) t.0.1 a b.0 in
    let three = Takes-then bytes (single (level q.0.0) ++ eight t.0.0) t.0.1 (maybe four i.0.0) i.0.1 two c.0 in
    let front = Takes-then bytes (single (level q.0.0) ++ eight t.0.0 ++ maybe four i.0.0) i.0.1 (properties_form f.0.0) f.0.1 three d.0 in
    let all = Takes-then bytes (single (level q.0.0) ++ eight t.0.0 ++ maybe four i.0.0 ++ properties_form f.0.0) f.0.1 (payload_form p.0.0) p.0.1 front g in
    moved (λ (n : MessageValue) (rest : List ℕ). Takes bytes (message_form n) rest × IsKept n) m x.0 p.0.1 x.1 is.0 made.1
    (all, record { message = is.1; properties = d.1; moment = b.1; interval = c.1 })

abbrev IsRead : List ℕ → Operation × List ℕ → Type 0
IsRead bytes x = Takes bytes (record_form x.0) x.1 × IsOperation x.0

set_takes : (bytes : List ℕ) (x : Operation × List ℕ) → IsBytes bytes → set_at bytes ≡ Ok x → IsRead (1 ∷ bytes) x
unfolding set_at
set_takes bytes x fits e =
    let t = bind_ok (name_at bytes) _ x e in
    let a = name_takes bytes t.0 fits t.1 in
    let m = bind_ok (message_at t.0.1) _ x t.2 in
    let b = message_takes t.0.1 m.0 a.0.rest_fits m.1 in
    let same : (set_of t.0.0 m.0.0, m.0.1) ≡ x = cc (m.2) in
    subst (IsRead (1 ∷ bytes)) same
    (Takes-next 1 bytes (counted t.0.0 ++ message_form m.0.0) m.0.1 (Takes-then bytes (counted t.0.0) t.0.1 (message_form m.0.0) m.0.1 a.0 b.0), (a.1, b.1))

clear_takes : (bytes : List ℕ) (x : Operation × List ℕ) → IsBytes bytes → clear_at bytes ≡ Ok x → IsRead (2 ∷ bytes) x
unfolding clear_at
clear_takes bytes x fits e =
    let t = bind_ok (name_at bytes) _ x e in
    let a = name_takes bytes t.0 fits t.1 in
    let same : (Clear t.0.0, t.0.1) ≡ x = cc (t.2) in
    subst (IsRead (2 ∷ bytes)) same (Takes-next 2 bytes (counted t.0.0) t.0.1 a.0, a.1)

sweep_takes : (bytes : List ℕ) (x : Operation × List ℕ) → IsBytes bytes → sweep_at bytes ≡ Ok x → IsRead (3 ∷ bytes) x
unfolding sweep_at
sweep_takes bytes x fits e =
    let t = bind_ok (or_cut_off (number_at w64 bytes)) _ x e in
    let a = moment_takes bytes t.0 fits t.1 in
    let same : (Sweep t.0.0, t.0.1) ≡ x = cc (t.2) in
    subst (IsRead (3 ∷ bytes)) same (Takes-next 3 bytes (eight t.0.0) t.0.1 a.0, a.1)

kind_takes : (n : ℕ) (bytes : List ℕ) (x : Operation × List ℕ) → IsBytes bytes → of_kind n bytes ≡ Ok x → IsRead (n ∷ bytes) x
kind_takes n bytes x fits e =
    elim (chosen (eqb n 1) (set_at bytes) (cond (eqb n 2) (clear_at bytes) (cond (eqb n 3) (sweep_at bytes) (Err UnknownKind))) (Ok x) e) [
      | inl h ↦ subst (λ (k : ℕ). IsRead (k ∷ bytes) x) (sym (eqb-true n 1 h.0)) (set_takes bytes x fits h.1)
      | inr h ↦
          elim (chosen (eqb n 2) (clear_at bytes) (cond (eqb n 3) (sweep_at bytes) (Err UnknownKind)) (Ok x) h.1) [
            | inl k ↦ subst (λ (k : ℕ). IsRead (k ∷ bytes) x) (sym (eqb-true n 2 k.0)) (clear_takes bytes x fits k.1)
            | inr k ↦
                elim (chosen (eqb n 3) (sweep_at bytes) (Err UnknownKind) (Ok x) k.1) [
                  | inl l ↦ subst (λ (k : ℕ). IsRead (k ∷ bytes) x) (sym (eqb-true n 3 l.0)) (sweep_takes bytes x fits l.1)
                  | inr l ↦ absurd (cc (l.1))
                ]
          ]
    ]

pub record_takes : (bytes : List ℕ) (x : Operation × List ℕ) → IsBytes bytes → record_at bytes ≡ Ok x → Takes bytes (record_form x.0) x.1 × IsOperation x.0
unfolding record_at
record_takes bytes x fits e =
    let n = bind_ok (or_cut_off (byte_at bytes)) _ x e in
    let t = byte_takes bytes n.0 fits n.1 in
    subst (λ (b : List ℕ). IsRead b x) (sym t.parts) (kind_takes n.0.0 n.0.1 x t.rest_fits n.2)

-- ---- what is encoded is read again, whatever follows

qos_again : (q : Qos) (rest : List ℕ) → qos_at (level q ∷ rest) ≡ Ok (q, rest)
unfolding qos_at
qos_again AtMostOnce rest = refl
qos_again AtLeastOnce rest = refl
qos_again ExactlyOnce rest = refl

name_again : (t rest : List ℕ) → IsTopicName t → name_at (counted t ++ rest) ≡ Ok (t, rest)
unfolding name_at
name_again t rest is = rw (text_again t rest is.is_text) (judged (name_of t) (name_judged t is.is_text))
  where
    judged : (r : Result (List ℕ) TopicFault) → Judges IsTopicName name_faults_of_text t r → or_malformed (as_name r) rest ≡ Ok (t, rest)
    judged (Ok got) h = ap (λ (n : List ℕ). Ok (n, rest)) h.0
    judged (Err fault) h = absurd (h.0 is)

payload_again : (payload rest : List ℕ) → length payload < 2 ^ 32 → payload_at (payload_form payload ++ rest) ≡ Ok (payload, rest)
unfolding payload_at
payload_again payload rest small =
    ap payload_at (append_assoc (four (length payload)) payload rest)
    ∙ rw (number_again w32 (2 ^ 32) wide32 (length payload) (payload ++ rest) small, part_again payload rest) refl

if_four : (o : Option ℕ) (rest : List ℕ) → IfSome o (λ n. n < 2 ^ 32) → IfSome o (λ n. or_cut_off (number_at w32 (four n ++ rest)) ≡ Ok (n, rest))
if_four None rest h = tt
if_four (Some n) rest h = ap or_cut_off (number_again w32 (2 ^ 32) wide32 n rest h)

filled : (payload : List ℕ) → payload ≢ [] → eqb (length payload) 0 ≡ false
filled [] some = absurd (some refl)
filled (b ∷ bytes) some = ne_eqb _ _ (λ e. absurd (omega (arith, e)))

fit : (m : MessageValue) → IsMessage m → is_fit m ≡ true
fit m is =
    let some : eqb (length m.payload) 0 ≡ false = filled m.payload is.some in
    let small : nat_le (message_size m.expiry m.properties m.payload) MAX_PACKET_SIZE ≡ true = le-leb _ _ is.fits in
    rw (some, small) refl

joined_parts : (a b c d rest : List ℕ) → (a ++ b ++ c ++ d) ++ rest ≡ a ++ (b ++ (c ++ (d ++ rest)))
joined_parts a b c d rest = simp append_assoc refl

message_again : (m : MessageValue) (rest : List ℕ) → IsKept m → message_at (message_form m ++ rest) ≡ Ok (m, rest)
unfolding message_at
message_again m rest h =
    let at4 = payload_form m.payload ++ rest in
    let at3 = properties_form m.properties ++ at4 in
    let at2 = maybe four m.expiry ++ at3 in
    let at1 = eight m.received ++ at2 in
    let joined : message_form m ++ rest ≡ level m.qos ∷ at1 =
    ap (λ (l : List ℕ). level m.qos ∷ l) (joined_parts (eight m.received) (maybe four m.expiry) (properties_form m.properties) (payload_form m.payload) rest) in
    ap message_at joined ∙ rw (
      qos_again m.qos at1,
      number_again w64 (2 ^ 64) wide64 m.received at2 h.moment,
      maybe_again four (λ b. or_cut_off (number_at w32 b)) m.expiry at3 (if_four m.expiry at3 h.interval),
      properties_again m.properties at4 h.properties,
      payload_again m.payload rest (small_payload m h.message),
      fit m h.message,
    ) refl

pub record_again : (operation : Operation) (rest : List ℕ) → IsOperation operation → record_at (record_form operation ++ rest) ≡ Ok (operation, rest)
unfolding record_at set_at clear_at sweep_at
record_again (Set found) rest h =
    ap (λ (l : List ℕ). record_at (1 ∷ l)) (append_assoc (counted found.topic) (message_form found.message) rest)
    ∙ rw (name_again found.topic (message_form found.message ++ rest) h.0, message_again found.message rest h.1) refl
record_again (Clear topic) rest h = rw (name_again topic rest h) refl
record_again (Sweep moment) rest h = rw (number_again w64 (2 ^ 64) wide64 moment rest h) refl

-- ---- more bytes behind a record change nothing

qos_stays : (more bytes : List ℕ) → Stays more (qos_at bytes) (qos_at (bytes ++ more))
unfolding qos_at
qos_stays more bytes =
    stays_then more (or_cut_off (byte_at bytes)) (or_cut_off (byte_at (bytes ++ more))) (λ n. or_malformed (qos_of n.0) n.1) (byte_stays more bytes)
    (λ n rest. malformed_stays (qos_of n) more rest)

name_stays : (more bytes : List ℕ) → Stays more (name_at bytes) (name_at (bytes ++ more))
unfolding name_at
name_stays more bytes =
    stays_then more (text_at bytes) (text_at (bytes ++ more)) (λ t. or_malformed (as_name (name_of t.0)) t.1) (text_stays more bytes)
    (λ t rest. malformed_stays (as_name (name_of t)) more rest)

payload_stays : (more bytes : List ℕ) → Stays more (payload_at bytes) (payload_at (bytes ++ more))
unfolding payload_at
payload_stays more bytes =
    stays_then more (or_cut_off (number_at w32 bytes)) (or_cut_off (number_at w32 (bytes ++ more))) (λ n. or_cut_off (part_at n.0 n.1)) (number_stays w32 more bytes)
    (λ n rest. part_stays n more rest)

message_stays : (more bytes : List ℕ) → Stays more (message_at bytes) (message_at (bytes ++ more))
unfolding message_at
message_stays more bytes =
    let interval : List ℕ → Result (ℕ × List ℕ) RecordFault = λ b. or_cut_off (number_at w32 b) in
    stays_then more (qos_at bytes) (qos_at (bytes ++ more)) _ (qos_stays more bytes)
    (λ q at1. stays_then more (or_cut_off (number_at w64 at1)) (or_cut_off (number_at w64 (at1 ++ more))) _ (number_stays w64 more at1)
    (λ t at2. stays_then more (maybe_at interval at2) (maybe_at interval (at2 ++ more)) _ (maybe_stays interval (number_stays w32) more at2)
    (λ e at3. stays_then more (properties_at at3) (properties_at (at3 ++ more)) _ (properties_stay more at3)
    (λ f at4. stays_then more (payload_at at4) (payload_at (at4 ++ more)) (λ p. or_malformed (as_message (message_of q t e f p.0)) p.1) (payload_stays more at4)
    (λ p rest. malformed_stays (as_message (message_of q t e f p)) more rest)))))

set_stays : (more bytes : List ℕ) → Stays more (set_at bytes) (set_at (bytes ++ more))
unfolding set_at
set_stays more bytes =
    stays_then more (name_at bytes) (name_at (bytes ++ more)) _ (name_stays more bytes)
    (λ t rest. stays_then more (message_at rest) (message_at (rest ++ more)) (λ m. Ok (set_of t m.0, m.1)) (message_stays more rest) (λ m after. refl))

clear_stays : (more bytes : List ℕ) → Stays more (clear_at bytes) (clear_at (bytes ++ more))
unfolding clear_at
clear_stays more bytes = stays_then more (name_at bytes) (name_at (bytes ++ more)) (λ t. Ok (Clear t.0, t.1)) (name_stays more bytes) (λ t rest. refl)

sweep_stays : (more bytes : List ℕ) → Stays more (sweep_at bytes) (sweep_at (bytes ++ more))
unfolding sweep_at
sweep_stays more bytes =
    stays_then more (or_cut_off (number_at w64 bytes)) (or_cut_off (number_at w64 (bytes ++ more))) (λ t. Ok (Sweep t.0, t.1)) (number_stays w64 more bytes) (λ t rest. refl)

kind_stays : (n : ℕ) (more bytes : List ℕ) → Stays more (of_kind n bytes) (of_kind n (bytes ++ more))
kind_stays n more bytes = by (eqb n 1) (eqb n 2) (eqb n 3)
  where
    by : (set clear sweep : Bool) → Stays more (cond set (set_at bytes) (cond clear (clear_at bytes) (cond sweep (sweep_at bytes) (Err UnknownKind))))
        (cond set (set_at (bytes ++ more)) (cond clear (clear_at (bytes ++ more)) (cond sweep (sweep_at (bytes ++ more)) (Err UnknownKind))))
    by true clear sweep = set_stays more bytes
    by false true sweep = clear_stays more bytes
    by false false true = sweep_stays more bytes
    by false false false = refl

pub record_stays : (more bytes : List ℕ) → Stays more (record_at bytes) (record_at (bytes ++ more))
unfolding record_at
record_stays more bytes =
    stays_then more (or_cut_off (byte_at bytes)) (or_cut_off (byte_at (bytes ++ more))) (λ n. of_kind n.0 n.1) (byte_stays more bytes) (λ n rest. kind_stays n more rest)
