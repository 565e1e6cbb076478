-- The order of short levels, by their keys.
use Rattle.std.proofs.Common.{◌≡◌, ℕ, zero, suc, ◌+◌, ◌*◌, ◌%◌, ◌^◌, ◌<◌, ◌≤◌, List, [], ◌∷◌, ◌++◌, length, get_or, take, drop, refl, sym, ap, ◌∙◌, arith, length-append, length-take-le, drop-cons, set, take_all, take-suc, add-one, mul_assoc, Fits, w8}
use Rattle.std.specs.Cmp.Lexicographic.{slice_cmp}
use Rattle.std.specs.Cmp.{nat_cmp_is, ranks}
use Rattle.std.specs.Ordering.{MatchOrdering, nat_cmp, ordering_reverse, ordering_then}
use Rattle.std.specs.declared.cmp.Ordering.{Ordering}
use Rattle.std.specs.declared.cmp.Ordering.TheVariants.{Less, Equal, Greater}
use Rattle.std.proofs.lemmas.Cmp.{nat_list_cmp_total}
use Rattle.std.proofs.lemmas.Nat.{pow-add, shl_below, shl_whole}
use Rattle.rs_tree_bucket.specs.Keys.{AreBytes, IsKey, key_cmp, padded, spelt, word}
use Rattle.rs_tree_bucket.specs.declared.key.Key.{Key}

abbrev cmp : List ℕ → List ℕ → Ordering
cmp a b = slice_cmp nat_cmp a b

pub less_is : (x y : ℕ) → x < y → nat_cmp x y ≡ Less
less_is x y l = sym (nat_cmp_is x y Less l)

pub greater_is : (x y : ℕ) → y < x → nat_cmp x y ≡ Greater
greater_is x y l = sym (nat_cmp_is x y Greater l)

pub equal_is : (x y : ℕ) → x ≡ y → nat_cmp x y ≡ Equal
equal_is x y l = sym (nat_cmp_is x y Equal l)

-- ---- numbers that bytes spell

spelt_rises : (a b : ℕ) (xs ys : List ℕ) → length xs ≡ length ys → AreBytes xs → a < b → spelt a xs < spelt b ys
spelt_rises a b [] [] same p l = l
spelt_rises a b [] (y ∷ ys) same p l = absurd (omega arith)
spelt_rises a b (x ∷ xs) [] same p l = absurd (omega arith)
spelt_rises a b (x ∷ xs) (y ∷ ys) same p l = spelt_rises (a * 256 + x) (b * 256 + y) xs ys (omega arith) p.1 (omega (arith, p.0, l))

spelt_cmp : (a : ℕ) (xs ys : List ℕ) → length xs ≡ length ys → AreBytes xs → AreBytes ys → cmp xs ys ≡ nat_cmp (spelt a xs) (spelt a ys)
spelt_cmp a [] [] same p q = sym (equal_is a a refl)
spelt_cmp a [] (y ∷ ys) same p q = absurd (omega arith)
spelt_cmp a (x ∷ xs) [] same p q = absurd (omega arith)
spelt_cmp a (x ∷ xs) (y ∷ ys) same p q = at (nat_cmp x y) refl (ranks x y) (spelt_cmp (a * 256 + x) xs ys (omega arith) p.1 q.1)
  where
    at : (o : Ordering) → nat_cmp x y ≡ o → MatchOrdering o (x < y) (x ≡ y) (y < x) → cmp xs ys ≡ nat_cmp (spelt (a * 256 + x) xs) (spelt (a * 256 + x) ys)
        → ordering_then (nat_cmp x y) (cmp xs ys) ≡ nat_cmp (spelt (a * 256 + x) xs) (spelt (a * 256 + y) ys)
    at Less is l rest =
        ap (λ o. ordering_then o (cmp xs ys)) is ∙ sym (less_is _ _ (spelt_rises (a * 256 + x) (a * 256 + y) xs ys (omega arith) p.1 (omega (arith, l))))
    at Equal is l rest =
        ap (λ o. ordering_then o (cmp xs ys)) is ∙ (rest ∙ ap (λ (w : ℕ). nat_cmp (spelt (a * 256 + x) xs) (spelt (a * 256 + w) ys)) l)
    at Greater is l rest =
        ap (λ o. ordering_then o (cmp xs ys)) is ∙ sym (greater_is _ _ (spelt_rises (a * 256 + y) (a * 256 + x) ys xs (omega arith) q.1 (omega (arith, l))))

-- ---- levels, and their words

shorter_less : (n l m : ℕ) (ys : List ℕ) → l < m → cmp (padded n [] ++ l ∷ []) (padded n ys ++ m ∷ []) ≡ Less
shorter_less zero l m ys h = ap (λ o. ordering_then o Equal) (less_is l m h)
shorter_less (suc n) l m [] h = shorter_less n l m [] h
shorter_less (suc n) l m (y ∷ ys) h = at (nat_cmp 0 y) refl (ranks 0 y) (shorter_less n l m ys h)
  where
    at : (o : Ordering) → nat_cmp 0 y ≡ o → MatchOrdering o (0 < y) (0 ≡ y) (y < 0) → cmp (padded n [] ++ l ∷ []) (padded n ys ++ m ∷ []) ≡ Less
        → cmp (padded (suc n) [] ++ l ∷ []) (padded (suc n) (y ∷ ys) ++ m ∷ []) ≡ Less
    at Less is r rest = ap (λ o. ordering_then o (cmp (padded n [] ++ l ∷ []) (padded n ys ++ m ∷ []))) is
    at Equal is r rest = ap (λ o. ordering_then o (cmp (padded n [] ++ l ∷ []) (padded n ys ++ m ∷ []))) is ∙ rest
    at Greater is r rest = absurd (omega (arith, r))

longer_greater : (n l m : ℕ) (xs : List ℕ) → l < m → cmp (padded n xs ++ m ∷ []) (padded n [] ++ l ∷ []) ≡ Greater
longer_greater n l m xs h = nat_list_cmp_total.antisymm (padded n xs ++ m ∷ []) (padded n [] ++ l ∷ []) ∙ ap ordering_reverse (shorter_less n l m xs h)

padded_cmp : (n k l m : ℕ) (xs ys : List ℕ) → length xs ≤ n → length ys ≤ n → l ≡ k + length xs → m ≡ k + length ys
    → cmp xs ys ≡ cmp (padded n xs ++ l ∷ []) (padded n ys ++ m ∷ [])
padded_cmp zero k l m [] [] p q a b = sym (ap (λ o. ordering_then o Equal) (equal_is l m (omega arith)))
padded_cmp zero k l m [] (y ∷ ys) p q a b = absurd (omega arith)
padded_cmp zero k l m (x ∷ xs) ys p q a b = absurd (omega arith)
padded_cmp (suc n) k l m [] [] p q a b = padded_cmp n k l m [] [] (omega arith) (omega arith) a b
padded_cmp (suc n) k l m [] (y ∷ ys) p q a b = sym (shorter_less (suc n) l m (y ∷ ys) (omega arith))
padded_cmp (suc n) k l m (x ∷ xs) [] p q a b = sym (longer_greater (suc n) m l (x ∷ xs) (omega arith))
padded_cmp (suc n) k l m (x ∷ xs) (y ∷ ys) p q a b =
    ap (ordering_then (nat_cmp x y)) (padded_cmp n (k + 1) l m xs ys (omega arith) (omega arith) (omega arith) (omega arith))

-- ---- keys

pub are_bytes : (xs : List ℕ) → ((k : ℕ) → get_or xs k 0 < 256) → AreBytes xs
are_bytes [] h = tt
are_bytes (x ∷ xs) h = (h 0, are_bytes xs (λ k. h (suc k)))

are_both : (xs : List ℕ) (l : ℕ) → AreBytes xs → l < 256 → AreBytes (xs ++ l ∷ [])
are_both [] l p h = (h, tt)
are_both (x ∷ xs) l p h = (p.0, are_both xs l p.1 h)

are_padded : (n : ℕ) (xs : List ℕ) → AreBytes xs → AreBytes (padded n xs)
are_padded zero xs p = tt
are_padded (suc n) [] p = (omega arith, are_padded n [] p)
are_padded (suc n) (x ∷ xs) p = (p.0, are_padded n xs p.1)

are_front : (i : ℕ) (xs : List ℕ) → AreBytes xs → AreBytes (take i xs)
are_front zero xs p = tt
are_front (suc i) [] p = tt
are_front (suc i) (x ∷ xs) p = (p.0, are_front i xs p.1)

pub length_padded : (n : ℕ) (xs : List ℕ) → length (padded n xs) ≡ n
length_padded zero xs = refl
length_padded (suc n) [] = omega (arith, length_padded n [])
length_padded (suc n) (x ∷ xs) = omega (arith, length_padded n xs)

are_word : (level : List ℕ) → AreBytes level → length level ≤ 14 → AreBytes (word level)
are_word level p h = are_both (padded 15 level) (length level) (are_padded 15 level p) (omega arith)

length_word : (level : List ℕ) → length (word level) ≡ 16
length_word level = omega (arith, length-append (padded 15 level) (length level ∷ []), length_padded 15 level)

-- keys lie as their levels
pub keys_lie : (a b : List ℕ) (k l : Key) → IsKey a k → IsKey b l → cmp a b ≡ key_cmp k l
keys_lie a b k l h m =
    padded_cmp 15 0 (length a) (length b) a b (omega (arith, h.short)) (omega (arith, m.short)) (omega arith) (omega arith)
    ∙ (spelt_cmp 0 (word a) (word b) (length_word a ∙ sym (length_word b)) (are_word a h.bytes h.short) (are_word b m.bytes m.short)
    ∙ (λ i. nat_cmp (sym h.number i) (sym m.number i)))

-- ---- what a key is made of

pub padded_start : (n : ℕ) (xs : List ℕ) → length xs ≤ n → take (length xs) (padded n xs) ≡ xs
padded_start zero [] h = refl
padded_start zero (x ∷ xs) h = absurd (omega arith)
padded_start (suc n) [] h = refl
padded_start (suc n) (x ∷ xs) h = ap (λ (w : List ℕ). x ∷ w) (padded_start n xs (omega arith))

pub padded_more : (n i : ℕ) (xs : List ℕ) → i < length xs → i < n → set (padded n (take i xs)) i (get_or xs i 0) ≡ padded n (take (suc i) xs)
padded_more n i [] h l = absurd (omega arith)
padded_more zero i (x ∷ xs) h l = absurd (omega arith)
padded_more (suc n) zero (x ∷ xs) h l = refl
padded_more (suc n) (suc i) (x ∷ xs) h l = ap (λ (w : List ℕ). x ∷ w) (padded_more n i xs (omega arith) (omega arith))

pub padded_one : (n : ℕ) (xs : List ℕ) → length xs ≤ n → padded (suc n) xs ≡ padded n xs ++ 0 ∷ []
padded_one zero [] h = refl
padded_one zero (x ∷ xs) h = absurd (omega arith)
padded_one (suc n) [] h = ap (λ (w : List ℕ). 0 ∷ w) (padded_one n [] (omega arith))
padded_one (suc n) (x ∷ xs) h = ap (λ (w : List ℕ). x ∷ w) (padded_one n xs (omega arith))

-- ---- a key of fourteen bytes

abbrev reads : List ℕ → ℕ → ℕ → List ℕ
reads xs i zero = []
reads xs i (suc n) = get_or xs i 0 ∷ reads xs (suc i) n

read_out : (n i : ℕ) (xs : List ℕ) → i + n ≤ length xs → take n (drop i xs) ≡ reads xs i n
read_out zero i xs h = refl
read_out (suc n) i xs h = ap (take (suc n)) (drop-cons xs i 0 (omega arith)) ∙ ap (λ (w : List ℕ). get_or xs i 0 ∷ w) (read_out n (suc i) xs (omega arith))

module _ (bs : List ℕ) (n : ℕ) (padded_so : bs ≡ padded 14 (take n bs)) (short : n ≤ 14) where
  fourteen : length bs ≡ 14
  fourteen = ap length padded_so ∙ length_padded 14 (take n bs)

  length_is : length (take n bs) ≡ n
  length_is = length-take-le n bs (omega (arith, fourteen, short))

  bytes_are : bs ≡ reads bs 0 14
  bytes_are = sym (take_all 14 bs (omega (arith, fourteen))) ∙ read_out 14 0 bs (omega (arith, fourteen))

  word_is : word (take n bs) ≡ (reads bs 0 14 ++ 0 ∷ []) ++ n ∷ []
  word_is =
      ap (λ (w : List ℕ). w ++ length (take n bs) ∷ []) (padded_one 14 (take n bs) (omega (arith, length_is, short)))
      ∙ (λ i. ((sym padded_so ∙ bytes_are) i ++ 0 ∷ []) ++ length_is i ∷ [])

  pub is_key : ((k : ℕ) → get_or bs k 0 < 256) → (key : Key) → key.number ≡ spelt 0 (reads bs 0 14 ++ 0 ∷ n ∷ []) → IsKey (take n bs) key
  is_key h key p = record {
    short = omega (arith, length_is, short);
    bytes = are_front n bs (are_bytes bs h);
    number = p ∙ ap (spelt 0) (sym word_is);
  }

-- ---- a key of a level

spelt_append : (a : ℕ) (xs ys : List ℕ) → spelt a (xs ++ ys) ≡ spelt (spelt a xs) ys
spelt_append a [] ys = refl
spelt_append a (x ∷ xs) ys = spelt_append (a * 256 + x) xs ys

pub spelt_more : (i : ℕ) (xs : List ℕ) → i < length xs → spelt 0 (take (i + 1) xs) ≡ spelt 0 (take i xs) * 256 + get_or xs i 0
spelt_more i xs h = ap (λ (n : ℕ). spelt 0 (take n xs)) (add-one i) ∙ (ap (spelt 0) (take-suc xs i 0 h) ∙ spelt_append 0 (take i xs) (get_or xs i 0 ∷ []))

pub byte_up : (j k : ℕ) → j ≡ k + 1 → 2 ^ (8 * j) ≡ 256 * 2 ^ (8 * k)
byte_up j k h = ap (λ (m : ℕ). 2 ^ m) (let e : 8 * j ≡ 8 + 8 * k = omega arith in e) ∙ pow-add 2 8 (8 * k)

spelt_zeros : (n a : ℕ) → spelt a (padded n []) ≡ a * 2 ^ (8 * n)
spelt_zeros zero a = omega arith
spelt_zeros (suc n) a =
    spelt_zeros n (a * 256 + 0)
    ∙ (ap (λ (m : ℕ). m * 2 ^ (8 * n)) (let e : a * 256 + 0 ≡ a * 256 = omega arith in e)
    ∙ (mul_assoc a 256 (2 ^ (8 * n)) ∙ ap (λ (p : ℕ). a * p) (sym (byte_up (suc n) n (omega arith)))))

spelt_padded : (n k a : ℕ) (xs : List ℕ) → n ≡ length xs + k → spelt a (padded n xs) ≡ spelt a xs * 2 ^ (8 * k)
spelt_padded n k a [] h = spelt_zeros n a ∙ ap (λ (m : ℕ). a * 2 ^ (8 * m)) (omega (arith, h))
spelt_padded zero k a (x ∷ xs) h = absurd (omega arith)
spelt_padded (suc n) k a (x ∷ xs) h = spelt_padded n k (a * 256 + x) xs (omega arith)

pub is_key_of : (level : List ℕ) (k : ℕ) (key : Key) → ((i : ℕ) → Fits w8 (get_or level i 0)) → length level ≤ 14 → 15 ≡ length level + k
    → key.number ≡ spelt 0 level * 2 ^ (8 * k) * 256 + length level → IsKey level key
is_key_of level k key h short whole is = record {
  short = short;
  bytes = are_bytes level (λ i. omega (arith, h i));
  number = is ∙ sym (spelt_append 0 (padded 15 level) (length level ∷ []) ∙ ap (λ (s : ℕ). s * 256 + length level) (spelt_padded 15 k 0 level whole));
}

-- a shift by the zeros behind a level loses nothing
pub shift_fits : (n k number : ℕ) → 15 ≡ n + k → number < 2 ^ (8 * n) → (number * 2 ^ (8 * k) % 2 ^ 128 ≡ number * 2 ^ (8 * k)) × (number * 2 ^ (8 * k) < 2 ^ 120)
shift_fits n k number whole h = (
  shl_whole number (8 * n) (8 * k) 128 h (omega arith),
  omega (arith, shl_below number (8 * n) (8 * k) h, ap (λ (m : ℕ). 2 ^ m) (let e : 8 * n + 8 * k ≡ 120 = omega arith in e)),
)
