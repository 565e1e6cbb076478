-- The fields of a record: what is read was encoded so, what is encoded is read again, and more bytes behind them change nothing.
use Rattle.std.proofs.Common.{◌≡◌, ℕ, ◌≤◌, ◌^◌, Bool, true, false, cond, eqb, ltb, List, [], ◌∷◌, ◌++◌, length, Option, Some, None, Result, Ok, Err, refl, sym, ap, subst, arith, inl, inr}
use Rattle.std.specs.Prelude.{IfSome}
use Rattle.std.specs.Int.{Width, w16, w64, byte_len}
use Rattle.std.proofs.lemmas.Nat.{be_bytes_8, from_be_bytes-to_be_bytes_8}
use Rattle.std.proofs.lemmas.Bool.{cases_lt, le-ltb, lt-ltb, eqb-true}
use Rattle.std.proofs.lemmas.List.{length-append, take-append-le, drop-append-le}
use Rattle.rs_topic.specs.Texts.{IsText, reads_as_text}
use Rattle.rs_topic.proofs.TextLemmas.{is_text_when_read, reads_when_text}
use Rattle.rs_packet_property.specs.Forms.{counted}
use Rattle.rs_packet_property.proofs.Identifiers.{chosen}
use Rattle.rs_packet_field.specs.declared.fault.PacketFault.{PacketFault}
use Rattle.rs_packet_field.specs.Reading.{◌>>=◌, byte_at, number_at, part_at, binary_at}
use Rattle.rs_packet_field.proofs.Numbers.{bind_ok}
use Rattle.rs_packet_field.proofs.Fields.{IsBytes, IsBytes-rest, Takes, Takes-then, IsWide, binary_takes, binary_again}
use Rattle.rs_journal_record.specs.declared.fault.RecordFault.{RecordFault}
use Rattle.rs_journal_record.specs.declared.fault.RecordFault.TheVariants.{Truncated, UnknownKind, Malformed, NoMemory}
use Rattle.rs_journal_record.specs.Fields.{single, maybe, or_cut_off, or_malformed, text_of, text_at, flag_of, flag_at, maybe_at}

pub wide64 : IsWide w64 (2 ^ 64)
wide64 = record {
  len = λ n. refl;
  back = λ bytes len fits. be_bytes_8 bytes _ len fits refl;
  again = λ n lt. from_be_bytes-to_be_bytes_8 n lt;
  below = λ bytes fits. omega (arith, fits 0, fits 1, fits 2, fits 3, fits 4, fits 5, fits 6, fits 7);
}

-- ---- what is read was encoded so

pub moved : {A : Type 0} (P : A → List ℕ → Type 0) (a b : A) (s t : List ℕ) → a ≡ b → s ≡ t → P a s → P b t
moved {A} P a b s t e f p = subst (λ (z : List ℕ). P b z) f (subst (λ (y : A). P y s) e p)

pub cut_off_ok : {A : Type 0} (r : Result A PacketFault) (x : A) → or_cut_off r ≡ Ok x → r ≡ Ok x
cut_off_ok (Ok y) x e = ap Ok cc
cut_off_ok (Err fault) x e = absurd cc

pub malformed_ok : {A : Type 0} (o : Option A) (rest : List ℕ) (x : A × List ℕ) → or_malformed o rest ≡ Ok x → (o ≡ Some x.0) × (rest ≡ x.1)
malformed_ok (Some y) rest x e = let same : (y, rest) ≡ x = cc in (ap (λ (z : _ × List ℕ). Some z.0) same, ap (λ (z : _ × List ℕ). z.1) same)
malformed_ok None rest x e = absurd cc

pub byte_takes : (bytes : List ℕ) (x : ℕ × List ℕ) → IsBytes bytes → or_cut_off (byte_at bytes) ≡ Ok x → Takes bytes (single x.0) x.1
byte_takes [] x fits e = absurd cc
byte_takes (b ∷ bytes) x fits e =
    let same : (b, bytes) ≡ x = cc in
    subst (λ (y : ℕ × List ℕ). Takes (b ∷ bytes) (single y.0) y.1) same (record { parts = refl; rest_fits = IsBytes-rest b bytes fits })

text_is : (bytes t : List ℕ) → text_of bytes ≡ Some t → (reads_as_text bytes ≡ true) × (bytes ≡ t)
text_is bytes t e = by (reads_as_text bytes) e
  where
    by : (b : Bool) → cond b (Some bytes) None ≡ Some t → (b ≡ true) × (bytes ≡ t)
    by true e = (refl, cc)
    by false e = absurd cc

pub text_takes : (bytes : List ℕ) (x : List ℕ × List ℕ) → IsBytes bytes → text_at bytes ≡ Ok x → Takes bytes (counted x.0) x.1 × IsText x.0
unfolding text_at
text_takes bytes x fits e =
    let b = bind_ok (or_cut_off (binary_at bytes)) _ x e in
    let t = binary_takes bytes b.0 fits (cut_off_ok (binary_at bytes) b.0 b.1) in
    let m = malformed_ok (text_of b.0.0) b.0.1 x b.2 in
    let w = text_is b.0.0 x.0 m.0 in
    moved (λ (s rest : List ℕ). Takes bytes (counted s) rest × IsText s) b.0.0 x.0 b.0.1 x.1 w.1 m.1 (t.0, is_text_when_read b.0.0 t.1 w.0)

flag_is : (n : ℕ) (flag : Bool) → flag_of n ≡ Some flag → n ≡ cond flag 1 0
flag_is n flag e =
    elim (chosen (eqb n 0) (Some false) (cond (eqb n 1) (Some true) None) (Some flag) e) [
      | inl h ↦ let same : false ≡ flag = cc (h.1) in subst (λ (b : Bool). n ≡ cond b 1 0) same (eqb-true n 0 h.0)
      | inr h ↦
          elim (chosen (eqb n 1) (Some true) None (Some flag) h.1) [
            | inl k ↦ let same : true ≡ flag = cc (k.1) in subst (λ (b : Bool). n ≡ cond b 1 0) same (eqb-true n 1 k.0)
            | inr k ↦ absurd (cc (k.1))
          ]
    ]

flag_takes : (bytes : List ℕ) (x : Bool × List ℕ) → IsBytes bytes → flag_at bytes ≡ Ok x → Takes bytes (single (cond x.0 1 0)) x.1
unfolding flag_at
flag_takes bytes x fits e =
    let n = bind_ok (or_cut_off (byte_at bytes)) _ x e in
    let m = malformed_ok (flag_of n.0.0) n.0.1 x n.2 in
    moved (λ (b : ℕ) (rest : List ℕ). Takes bytes (single b) rest) n.0.0 (cond x.0 1 0) n.0.1 x.1 (flag_is n.0.0 x.0 m.0) m.1 (byte_takes bytes n.0 fits n.1)

-- of a field that may be absent, by the same of the field
pub maybe_takes : {A : Type 0} (form : A → List ℕ) (at : List ℕ → Result (A × List ℕ) RecordFault) (Is : A → Type 0)
    → ((bytes : List ℕ) (x : A × List ℕ) → IsBytes bytes → at bytes ≡ Ok x → Takes bytes (form x.0) x.1 × Is x.0)
    → (bytes : List ℕ) (x : Option A × List ℕ) → IsBytes bytes → maybe_at at bytes ≡ Ok x → Takes bytes (maybe form x.0) x.1 × IfSome x.0 Is
unfolding maybe_at
maybe_takes {A} form at Is takes bytes x fits e =
    let flag = bind_ok (flag_at bytes) _ x e in
    behind flag.0.0 flag.0.1 (flag_takes bytes flag.0 fits flag.1) flag.2
  where
    behind : (flag : Bool) (rest : List ℕ) → Takes bytes (single (cond flag 1 0)) rest → cond flag (at rest >>= λ v. Ok (Some v.0, v.1)) (Ok (None, rest)) ≡ Ok x
        → Takes bytes (maybe form x.0) x.1 × IfSome x.0 Is
    behind true rest t e =
        let v = bind_ok (at rest) _ x e in
        let w = takes rest v.0 t.rest_fits v.1 in
        let same : (Some v.0.0, v.0.1) ≡ x = cc (v.2) in
        subst (λ (y : Option A × List ℕ). Takes bytes (maybe form y.0) y.1 × IfSome y.0 Is) same (Takes-then bytes (single 1) rest (form v.0.0) v.0.1 t w.0, w.1)
    behind false rest t e =
        let same : (None, rest) ≡ x = cc in
        subst (λ (y : Option A × List ℕ). Takes bytes (maybe form y.0) y.1 × IfSome y.0 Is) same (t, tt)

-- ---- what is encoded is read again, whatever follows

pub text_again : (t rest : List ℕ) → IsText t → text_at (counted t ++ rest) ≡ Ok (t, rest)
unfolding text_at
text_again t rest h = rw (binary_again t rest h.short, reads_when_text t h) refl

pub maybe_again : {A : Type 0} (form : A → List ℕ) (at : List ℕ → Result (A × List ℕ) RecordFault) (o : Option A) (rest : List ℕ)
    → IfSome o (λ x. at (form x ++ rest) ≡ Ok (x, rest)) → maybe_at at (maybe form o ++ rest) ≡ Ok (o, rest)
unfolding maybe_at flag_at
maybe_again form at None rest h = refl
maybe_again form at (Some x) rest h = rw h refl

-- ---- more bytes behind them change nothing

-- what reading gives stays the same if more bytes follow, unless the bytes were cut off
abbrev pub Stays : {A : Type 0} → List ℕ → Result (A × List ℕ) RecordFault → Result (A × List ℕ) RecordFault → Type 0
Stays more (Ok x) longer = longer ≡ Ok (x.0, x.1 ++ more)
Stays more (Err Truncated) longer = Unit {0}
Stays more (Err UnknownKind) longer = longer ≡ Err UnknownKind
Stays more (Err Malformed) longer = longer ≡ Err Malformed
Stays more (Err NoMemory) longer = longer ≡ Err NoMemory

pub stays_then : {A B : Type 0} (more : List ℕ) (read longer : Result (A × List ℕ) RecordFault) (next : A × List ℕ → Result (B × List ℕ) RecordFault)
    → Stays more read longer → ((a : A) (rest : List ℕ) → Stays more (next (a, rest)) (next (a, rest ++ more))) → Stays more (read >>= next) (longer >>= next)
stays_then more (Ok x) longer next h k = rw h (k x.0 x.1)
stays_then more (Err Truncated) longer next h k = tt
stays_then more (Err UnknownKind) longer next h k = rw h refl
stays_then more (Err Malformed) longer next h k = rw h refl
stays_then more (Err NoMemory) longer next h k = rw h refl

pub malformed_stays : {A : Type 0} (o : Option A) (more rest : List ℕ) → Stays more (or_malformed o rest) (or_malformed o (rest ++ more))
malformed_stays (Some x) more rest = refl
malformed_stays None more rest = refl

pub byte_stays : (more bytes : List ℕ) → Stays more (or_cut_off (byte_at bytes)) (or_cut_off (byte_at (bytes ++ more)))
byte_stays more [] = tt
byte_stays more (b ∷ bytes) = refl

longer_still : (n : ℕ) (bytes more : List ℕ) → n ≤ length bytes → n ≤ length (bytes ++ more)
longer_still n bytes more le = omega (arith, length-append bytes more)

pub number_stays : (w : Width) (more bytes : List ℕ) → Stays more (or_cut_off (number_at w bytes)) (or_cut_off (number_at w (bytes ++ more)))
number_stays w more bytes =
    elim (cases_lt (length bytes) (byte_len w)) [
      | inl lt ↦ let t : ltb (length bytes) (byte_len w) ≡ true = lt-ltb _ _ lt in rw t tt
      | inr le ↦
          let t : ltb (length bytes) (byte_len w) ≡ false = le-ltb _ _ le in
          let u : ltb (length (bytes ++ more)) (byte_len w) ≡ false = le-ltb _ _ (longer_still (byte_len w) bytes more le) in
          rw (t, u, take-append-le (byte_len w) bytes more le, drop-append-le (byte_len w) bytes more le) refl
    ]

pub part_stays : (n : ℕ) (more bytes : List ℕ) → Stays more (or_cut_off (part_at n bytes)) (or_cut_off (part_at n (bytes ++ more)))
part_stays n more bytes =
    elim (cases_lt (length bytes) n) [
      | inl lt ↦ let t : ltb (length bytes) n ≡ true = lt-ltb _ _ lt in rw t tt
      | inr le ↦
          let t : ltb (length bytes) n ≡ false = le-ltb _ _ le in
          let u : ltb (length (bytes ++ more)) n ≡ false = le-ltb _ _ (longer_still n bytes more le) in
          rw (t, u, take-append-le n bytes more le, drop-append-le n bytes more le) refl
    ]

cut_off_then : {A B : Type 0} (r : Result A PacketFault) (next : A → Result B PacketFault) → or_cut_off (r >>= next) ≡ (or_cut_off r >>= λ x. or_cut_off (next x))
cut_off_then (Ok x) next = refl
cut_off_then (Err fault) next = refl

pub binary_stays : (more bytes : List ℕ) → Stays more (or_cut_off (binary_at bytes)) (or_cut_off (binary_at (bytes ++ more)))
unfolding binary_at
binary_stays more bytes =
    let next : ℕ × List ℕ → Result (List ℕ × List ℕ) PacketFault = λ n. part_at n.0 n.1 in
    moved_both (sym (cut_off_then (number_at w16 bytes) next)) (sym (cut_off_then (number_at w16 (bytes ++ more)) next))
    (stays_then more (or_cut_off (number_at w16 bytes)) (or_cut_off (number_at w16 (bytes ++ more))) (λ n. or_cut_off (next n)) (number_stays w16 more bytes) (λ n rest. part_stays n more rest))
  where
    moved_both : {r r' s s' : Result (List ℕ × List ℕ) RecordFault} → r ≡ r' → s ≡ s' → Stays more r s → Stays more r' s'
    moved_both {r} {r'} {s} {s'} e f h = subst (λ (z : Result (List ℕ × List ℕ) RecordFault). Stays more r' z) f (subst (λ (z : Result (List ℕ × List ℕ) RecordFault). Stays more z s) e h)

pub text_stays : (more bytes : List ℕ) → Stays more (text_at bytes) (text_at (bytes ++ more))
unfolding text_at
text_stays more bytes =
    stays_then more (or_cut_off (binary_at bytes)) (or_cut_off (binary_at (bytes ++ more))) (λ t. or_malformed (text_of t.0) t.1) (binary_stays more bytes)
    (λ t rest. malformed_stays (text_of t) more rest)

flag_stays : (more bytes : List ℕ) → Stays more (flag_at bytes) (flag_at (bytes ++ more))
unfolding flag_at
flag_stays more bytes =
    stays_then more (or_cut_off (byte_at bytes)) (or_cut_off (byte_at (bytes ++ more))) (λ n. or_malformed (flag_of n.0) n.1) (byte_stays more bytes)
    (λ n rest. malformed_stays (flag_of n) more rest)

-- of a field that may be absent, by the same of the field
pub maybe_stays : {A : Type 0} (at : List ℕ → Result (A × List ℕ) RecordFault) → ((more bytes : List ℕ) → Stays more (at bytes) (at (bytes ++ more)))
    → (more bytes : List ℕ) → Stays more (maybe_at at bytes) (maybe_at at (bytes ++ more))
unfolding maybe_at
maybe_stays {A} at stays more bytes =
    stays_then more (flag_at bytes) (flag_at (bytes ++ more)) (λ flag. cond flag.0 (at flag.1 >>= λ x. Ok (Some x.0, x.1)) (Ok (None, flag.1))) (flag_stays more bytes) behind
  where
    behind : (flag : Bool) (rest : List ℕ)
        → Stays more (cond flag (at rest >>= λ x. Ok (Some x.0, x.1)) (Ok (None, rest))) (cond flag (at (rest ++ more) >>= λ x. Ok (Some x.0, x.1)) (Ok (None, rest ++ more)))
    behind true rest = stays_then more (at rest) (at (rest ++ more)) (λ x. Ok (Some x.0, x.1)) (stays more rest) (λ a after. refl)
    behind false rest = refl
