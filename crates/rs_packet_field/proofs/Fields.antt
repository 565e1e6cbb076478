-- A field that is read is encoded so, and what is encoded so is read.
use Rattle.std.proofs.Common.{◌≡◌, ℕ, zero, suc, ◌+◌, ◌-◌, ◌*◌, ◌/◌, ◌%◌, ◌<◌, ◌≤◌, ◌^◌, Bool, true, false, cond, eqb, ltb, List, [], ◌∷◌, ◌++◌, length, get_or, take, drop, Result, Ok, Err, refl, sym, ap, subst, ◌∙◌, append_assoc, arith, inl, inr}
use Rattle.std.specs.Int.{Width, w16, w32, byte_len, from_be_bytes, to_be_bytes}
use Rattle.std.proofs.lemmas.Bool.{cases_lt, ltb-false, ltb-true, le-ltb, lt-ltb, eqb-false, ne_eqb}
use Rattle.std.proofs.lemmas.List.{take_at, drop_at, take-append-drop, length-append, length-take, get_or-drop, get_or-take, get_or_past}
use Rattle.std.proofs.lemmas.Nat.{be_bytes_2, be_bytes_4, from_be_bytes-to_be_bytes_2, from_be_bytes-to_be_bytes_4}
use Rattle.rs_packet_field.specs.declared.fault.PacketFault.TheVariants.{Malformed}
use Rattle.rs_packet_field.specs.declared.varint.VarintFault.{VarintFault}
use Rattle.rs_packet_field.specs.declared.varint.VarintFault.TheVariants.{Bad}
use Rattle.rs_topic.specs.Texts.{IsText, reads_as_text}
use Rattle.rs_packet_property.specs.Properties.{low_first, varint, varint_end, counted, IsShort}
use Rattle.rs_packet_field.specs.Reading.{◌>>=◌, digits_at, within, varint_at, number_at, part_at, binary_at, text_at}
use Rattle.rs_packet_field.proofs.Numbers.{bind_ok, guarded, ok_is}
use Rattle.rs_packet_property.proofs.Identifiers.{chosen}
use Rattle.rs_topic.proofs.TextLemmas.{is_text_when_read, reads_when_text}

abbrev pub IsBytes : List ℕ → Type 0
IsBytes bytes = (i : ℕ) → get_or bytes i 0 < 256

pub IsBytes-drop : (n : ℕ) (bytes : List ℕ) → IsBytes bytes → IsBytes (drop n bytes)
IsBytes-drop n bytes h i = rw get_or-drop (h (n + i))

pub IsBytes-take : (n : ℕ) (bytes : List ℕ) → IsBytes bytes → IsBytes (take n bytes)
IsBytes-take n bytes h i =
    elim (cases_lt i n) [
      | inl lt ↦ rw (get_or-take n bytes i 0 lt) (h i)
      | inr le ↦ rw (get_or_past (take n bytes) i 0 (omega (arith, length-take n bytes))) (omega arith)
    ]

pub IsBytes-rest : (b : ℕ) (bytes : List ℕ) → IsBytes (b ∷ bytes) → IsBytes bytes
IsBytes-rest b bytes h i = h (suc i)

-- what a reader took from the front
pub record Takes (bytes text rest : List ℕ) : Type 0 where
  pub parts : bytes ≡ text ++ rest
  pub rest_fits : IsBytes rest

pub Takes-then : (a x b y c : List ℕ) → Takes a x b → Takes b y c → Takes a (x ++ y) c
Takes-then a x b y c p q = record { parts = p.parts ∙ ap (λ (t : List ℕ). x ++ t) q.parts ∙ sym (append_assoc x y c); rest_fits = q.rest_fits }

pub Takes-next : (b : ℕ) (a x c : List ℕ) → Takes a x c → Takes (b ∷ a) (b ∷ x) c
Takes-next b a x c p = record { parts = ap (λ (t : List ℕ). b ∷ t) p.parts; rest_fits = p.rest_fits }

-- ---- lengths

length_front : (n : ℕ) (bytes : List ℕ) → n ≤ length bytes → length (take n bytes) ≡ n
length_front n bytes le = omega (arith, length-take n bytes)

long_enough : (n : ℕ) (front rest : List ℕ) → length front ≡ n → n ≤ length (front ++ rest)
long_enough n front rest is = omega (arith, length-append front rest)

-- ---- numbers of two and four bytes

pub record IsWide (w : Width) (limit : ℕ) : Type 0 where
  pub len : (n : ℕ) → length (to_be_bytes w n) ≡ byte_len w
  pub back : (bytes : List ℕ) → length bytes ≡ byte_len w → IsBytes bytes → to_be_bytes w (from_be_bytes w bytes) ≡ bytes
  pub again : (n : ℕ) → n < limit → from_be_bytes w (to_be_bytes w n) ≡ n
  pub below : (bytes : List ℕ) → IsBytes bytes → from_be_bytes w bytes < limit

pub wide16 : IsWide w16 (2 ^ 16)
wide16 = record {
  len = λ n. refl;
  back = λ bytes len fits. be_bytes_2 bytes _ len fits refl;
  again = λ n lt. from_be_bytes-to_be_bytes_2 n lt;
  below = λ bytes fits. omega (arith, fits 0, fits 1);
}

pub wide32 : IsWide w32 (2 ^ 32)
wide32 = record {
  len = λ n. refl;
  back = λ bytes len fits. be_bytes_4 bytes _ len fits refl;
  again = λ n lt. from_be_bytes-to_be_bytes_4 n lt;
  below = λ bytes fits. omega (arith, fits 0, fits 1, fits 2, fits 3);
}

pub number_takes : (w : Width) (limit : ℕ) (wide : IsWide w limit) (bytes : List ℕ) (x : ℕ × List ℕ) → IsBytes bytes → number_at w bytes ≡ Ok x → Takes bytes (to_be_bytes w x.0) x.1 × (x.0 < limit)
number_takes w limit wide bytes x fits e =
    let g = guarded (ltb (length bytes) (byte_len w)) Malformed (from_be_bytes w (take (byte_len w) bytes), drop (byte_len w) bytes) x e in
    let long : byte_len w ≤ length bytes = ltb-false _ _ g.0 in
    let front : to_be_bytes w (from_be_bytes w (take (byte_len w) bytes)) ≡ take (byte_len w) bytes = wide.back (take (byte_len w) bytes) (length_front (byte_len w) bytes long) (IsBytes-take (byte_len w) bytes fits) in
    let made : Takes bytes (to_be_bytes w (from_be_bytes w (take (byte_len w) bytes))) (drop (byte_len w) bytes) = record { parts = rw front (sym (take-append-drop (byte_len w) bytes)); rest_fits = IsBytes-drop (byte_len w) bytes fits } in
    subst (λ (y : ℕ × List ℕ). Takes bytes (to_be_bytes w y.0) y.1 × (y.0 < limit)) g.1 (made, wide.below (take (byte_len w) bytes) (IsBytes-take (byte_len w) bytes fits))

pub number_again : (w : Width) (limit : ℕ) (wide : IsWide w limit) (n : ℕ) (rest : List ℕ) → n < limit → number_at w (to_be_bytes w n ++ rest) ≡ Ok (n, rest)
number_again w limit wide n rest lt =
    let len = wide.len n in
    let long : ltb (length (to_be_bytes w n ++ rest)) (byte_len w) ≡ false = le-ltb _ _ (long_enough (byte_len w) (to_be_bytes w n) rest len) in
    rw (long, take_at (to_be_bytes w n) rest (byte_len w) len, drop_at (to_be_bytes w n) rest (byte_len w) len, wide.again n lt) refl

-- ---- parts, binaries, texts

pub part_takes : (n : ℕ) (bytes : List ℕ) (x : List ℕ × List ℕ) → IsBytes bytes → part_at n bytes ≡ Ok x → Takes bytes x.0 x.1 × (length x.0 ≡ n) × IsBytes x.0
part_takes n bytes x fits e =
    let g = guarded (ltb (length bytes) n) Malformed (take n bytes, drop n bytes) x e in
    let long : n ≤ length bytes = ltb-false _ _ g.0 in
    let made : Takes bytes (take n bytes) (drop n bytes) = record { parts = sym (take-append-drop n bytes); rest_fits = IsBytes-drop n bytes fits } in
    subst (λ (y : List ℕ × List ℕ). Takes bytes y.0 y.1 × (length y.0 ≡ n) × IsBytes y.0) g.1 (made, length_front n bytes long, IsBytes-take n bytes fits)

pub part_again : (part rest : List ℕ) → part_at (length part) (part ++ rest) ≡ Ok (part, rest)
part_again part rest =
    let long : ltb (length (part ++ rest)) (length part) ≡ false = le-ltb _ _ (long_enough (length part) part rest refl) in
    rw (long, take_at part rest (length part) refl, drop_at part rest (length part) refl) refl

pub binary_takes : (bytes : List ℕ) (x : List ℕ × List ℕ) → IsBytes bytes → binary_at bytes ≡ Ok x → Takes bytes (counted x.0) x.1 × IsShort x.0
unfolding binary_at
binary_takes bytes x fits e =
    let b = bind_ok (number_at w16 bytes) (λ n. part_at n.0 n.1) x e in
    let t = number_takes w16 (2 ^ 16) wide16 bytes b.0 fits b.1 in
    let p = part_takes b.0.0 b.0.1 x t.0.rest_fits b.2 in
    let len : length x.0 ≡ b.0.0 = p.1 in
    let both = Takes-then bytes (to_be_bytes w16 b.0.0) b.0.1 x.0 x.1 t.0 p.0 in
    (subst (λ (k : ℕ). Takes bytes (to_be_bytes w16 k ++ x.0) x.1) (sym len) both, subst (λ (k : ℕ). k < 2 ^ 16) (sym len) t.1)

pub binary_again : (part rest : List ℕ) → IsShort part → binary_at (counted part ++ rest) ≡ Ok (part, rest)
unfolding binary_at
binary_again part rest lt = rw (number_again w16 (2 ^ 16) wide16 (length part) (part ++ rest) lt) (part_again part rest)

wanted_text : (b : Bool) (t x : List ℕ × List ℕ) → cond b (Ok t) (Err Malformed) ≡ Ok x → (b ≡ true) × (t ≡ x)
wanted_text true t x e = (refl, cc)
wanted_text false t x e = absurd cc

pub text_takes : (bytes : List ℕ) (x : List ℕ × List ℕ) → IsBytes bytes → text_at bytes ≡ Ok x → Takes bytes (counted x.0) x.1 × IsText x.0
unfolding text_at
text_takes bytes x fits e =
    let b = bind_ok (binary_at bytes) (λ t. cond (reads_as_text t.0) (Ok t) (Err Malformed)) x e in
    let t = binary_takes bytes b.0 fits b.1 in
    let w = wanted_text (reads_as_text b.0.0) b.0 x b.2 in
    subst (λ (y : List ℕ × List ℕ). Takes bytes (counted y.0) y.1 × IsText y.0) w.1 (t.0, is_text_when_read b.0.0 t.1 w.0)

pub text_again : (t rest : List ℕ) → IsText t → text_at (counted t ++ rest) ≡ Ok (t, rest)
unfolding text_at
text_again t rest h = rw (binary_again t rest h.short, reads_when_text t h) refl

-- ---- numbers of one to four digits

-- k digits have numbers below it
abbrev pub limit : ℕ → ℕ
limit zero = 1
limit (suc k) = 128 * limit k

limit_pos : (k : ℕ) → 0 < limit k
limit_pos zero = omega arith
limit_pos (suc k) = omega (arith, limit_pos k)

-- apart, since these are slow to decide among the facts of a reading
one_below : (k n : ℕ) → n < 128 → n < 128 * limit k
one_below k n lt = omega (arith, limit_pos k)

some_of : (n : ℕ) → eqb n 0 ≡ false → 0 < n
some_of n f = omega (arith, eqb-false n 0 f)

-- a digit, and the number above it
joined_low : (b high : ℕ) → 128 ≤ b → b < 256 → (b - 128 + 128 * high) % 128 + 128 ≡ b
joined_low b high top byte = omega arith

joined_up : (b high : ℕ) → 128 ≤ b → b < 256 → (b - 128 + 128 * high) / 128 ≡ high
joined_up b high top byte = omega arith

joined_large : (b high : ℕ) → 128 ≤ b → 0 < high → 128 ≤ b - 128 + 128 * high
joined_large b high top some = omega arith

joined_below : (b high m : ℕ) → 128 ≤ b → b < 256 → high < m → b - 128 + 128 * high < 128 * m
joined_below b high m top byte lt = omega arith

-- a number, and its lowest digit
parted_low : (n : ℕ) → 128 ≤ n % 128 + 128
parted_low n = omega arith

parted_below : (n m : ℕ) → n < 128 * m → n / 128 < m
parted_below n m lt = omega arith

parted_some : (n : ℕ) → 128 ≤ n → n / 128 ≡ 0 → ⊥
parted_some n big none = omega arith

parted_back : (n : ℕ) → n % 128 + 128 - 128 + 128 * (n / 128) ≡ n
parted_back n = omega arith

suc_pos : (k : ℕ) → 0 < suc k
suc_pos k = omega arith

pub digits_takes : (k : ℕ) (bytes : List ℕ) (x : ℕ × List ℕ) → IsBytes bytes → digits_at k bytes ≡ Ok x → Takes bytes (low_first k x.0) x.1 × (x.0 < limit k)
unfolding digits_at low_first
digits_takes zero bytes x fits e = absurd cc
digits_takes (suc k) [] x fits e = absurd cc
digits_takes (suc k) (b ∷ bytes) x fits e =
    elim (chosen (ltb b 128) (Ok (b, bytes)) (digits_at k bytes >>= λ high. cond (eqb high.0 0) (Err Bad) (Ok (b - 128 + 128 * high.0, high.1))) (Ok x) e) [
      | inl h ↦
          let lt : b < 128 = ltb-true _ _ h.0 in
          let made : Takes (b ∷ bytes) (low_first (suc k) b) bytes = rw h.0 (record { parts = refl; rest_fits = IsBytes-rest b bytes fits }) in
          subst (λ (y : ℕ × List ℕ). Takes (b ∷ bytes) (low_first (suc k) y.0) y.1 × (y.0 < limit (suc k))) (ok_is (b, bytes) x h.1) (made, one_below k b lt)
      | inr h ↦
          let high = bind_ok (digits_at k bytes) (λ high. cond (eqb high.0 0) (Err Bad) (Ok (b - 128 + 128 * high.0, high.1))) x h.1 in
          let g = guarded (eqb high.0.0 0) Bad (b - 128 + 128 * high.0.0, high.0.1) x high.2 in
          let some : 0 < high.0.0 = some_of high.0.0 g.0 in
          let top : 128 ≤ b = ltb-false _ _ h.0 in
          let byte : b < 256 = fits 0 in
          let t = digits_takes k bytes high.0 (IsBytes-rest b bytes fits) high.1 in
          let large : ltb (b - 128 + 128 * high.0.0) 128 ≡ false = le-ltb _ _ (joined_large b high.0.0 top some) in
          let low : (b - 128 + 128 * high.0.0) % 128 + 128 ≡ b = joined_low b high.0.0 top byte in
          let up : (b - 128 + 128 * high.0.0) / 128 ≡ high.0.0 = joined_up b high.0.0 top byte in
          let made : Takes (b ∷ bytes) (low_first (suc k) (b - 128 + 128 * high.0.0)) high.0.1 = rw (large, low, up) (Takes-next b bytes (low_first k high.0.0) high.0.1 t.0) in
          subst (λ (y : ℕ × List ℕ). Takes (b ∷ bytes) (low_first (suc k) y.0) y.1 × (y.0 < limit (suc k))) g.1 (made, joined_below b high.0.0 (limit k) top byte t.1)
    ]

pub digits_again : (k n : ℕ) (rest : List ℕ) → n < limit k → 0 < k → digits_at k (low_first k n ++ rest) ≡ Ok (n, rest)
unfolding digits_at low_first
digits_again zero n rest lt pos = absurd (omega arith)
digits_again (suc zero) n rest lt pos =
    let small : n < 128 = omega (arith, lt) in
    let t : ltb n 128 ≡ true = lt-ltb _ _ small in
    rw (t, t) refl
digits_again (suc (suc k)) n rest lt pos =
    elim (cases_lt n 128) [
      | inl small ↦ let t : ltb n 128 ≡ true = lt-ltb _ _ small in rw (t, t) refl
      | inr big ↦
          let t : ltb n 128 ≡ false = le-ltb _ _ big in
          let low : ltb (n % 128 + 128) 128 ≡ false = le-ltb _ _ (parted_low n) in
          let up : n / 128 < limit (suc k) = parted_below n (limit (suc k)) lt in
          let some : eqb (n / 128) 0 ≡ false = ne_eqb _ _ (parted_some n big) in
          let back : n % 128 + 128 - 128 + 128 * (n / 128) ≡ n = parted_back n in
          rw (t, low, digits_again (suc k) (n / 128) rest up (suc_pos k), some, back) refl
    ]

pub varint_takes : (bytes : List ℕ) (x : ℕ × List ℕ) → IsBytes bytes → varint_at bytes ≡ Ok x → Takes bytes (varint x.0) x.1 × (x.0 < varint_end)
unfolding varint_at
varint_takes bytes x fits e =
    let go : (r : Result (ℕ × List ℕ) VarintFault) → within r ≡ Ok x → r ≡ Ok x = within_ok x in
    digits_takes 4 bytes x fits (go (digits_at 4 bytes) e)
  where
    within_ok : (x : ℕ × List ℕ) (r : Result (ℕ × List ℕ) VarintFault) → within r ≡ Ok x → r ≡ Ok x
    within_ok x (Ok y) e = ap (λ (z : ℕ × List ℕ). Ok z) (ok_is y x e)
    within_ok x (Err c) e = absurd cc

pub varint_again : (n : ℕ) (rest : List ℕ) → n < varint_end → varint_at (varint n ++ rest) ≡ Ok (n, rest)
unfolding varint_at
varint_again n rest lt = rw (digits_again 4 n rest lt (omega arith)) refl
