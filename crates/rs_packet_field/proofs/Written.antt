-- The bytes of the forms, and how many they are.
use Rattle.std.proofs.Common.{◌≡◌, ℕ, zero, suc, ◌+◌, ◌/◌, ◌%◌, ◌<◌, ◌≤◌, Bool, true, false, cond, ltb, List, [], ◌∷◌, ◌++◌, length, get_or, take, drop, refl, sym, ap, ◌∙◌, arith}
use Rattle.std.specs.Prelude.{map}
use Rattle.std.specs.List.{flat_map}
use Rattle.std.proofs.lemmas.Bool.{lt-ltb, le-ltb}
use Rattle.std.proofs.lemmas.List.{append-nil, length-append, map-append, map_more, take-append-drop}
use Rattle.std.proofs.lemmas.List.Concat.{flat_map-append}
use Rattle.rs_packet_property.specs.declared.property.Property.{Property}
use Rattle.rs_packet_property.specs.Properties.{low_first, varint, varint_end, property_bytes}
use Rattle.rs_packet_property.specs.Carried.{user_property}

digits_le : (k n : ℕ) → length (low_first k n) ≤ k
unfolding low_first
digits_le zero n = omega arith
digits_le (suc k) n = at (ltb n 128) (digits_le k (n / 128))
  where
    at : (b : Bool) → length (low_first k (n / 128)) ≤ k → length (cond b (n ∷ []) ((n % 128 + 128) ∷ low_first k (n / 128))) ≤ suc k
    at true h = omega arith
    at false h = omega (arith, h)

pub varint_1 : (n : ℕ) → n < 128 → varint n ≡ n ∷ []
unfolding low_first
varint_1 n h = let a : ltb n 128 ≡ true = lt-ltb _ _ h in rw a refl

pub varint_2 : (n : ℕ) → 128 ≤ n → n < 16384 → varint n ≡ (n % 128 + 128) ∷ n / 128 ∷ []
unfolding low_first
varint_2 n l h =
    let a : ltb n 128 ≡ false = le-ltb _ _ l in
    let b : ltb (n / 128) 128 ≡ true = lt-ltb _ _ (omega arith) in
    rw (a, b) refl

pub varint_3 : (n : ℕ) → 16384 ≤ n → n < 2097152 → varint n ≡ (n % 128 + 128) ∷ (n / 128 % 128 + 128) ∷ n / 128 / 128 ∷ []
unfolding low_first
varint_3 n l h =
    let a : ltb n 128 ≡ false = le-ltb _ _ (omega arith) in
    let b : ltb (n / 128) 128 ≡ false = le-ltb _ _ (omega arith) in
    let c : ltb (n / 128 / 128) 128 ≡ true = lt-ltb _ _ (omega arith) in
    rw (a, b, c) refl

pub varint_4 : (n : ℕ) → 2097152 ≤ n → n < varint_end → varint n ≡ (n % 128 + 128) ∷ (n / 128 % 128 + 128) ∷ (n / 128 / 128 % 128 + 128) ∷ n / 128 / 128 / 128 ∷ []
unfolding low_first
varint_4 n l h =
    let a : ltb n 128 ≡ false = le-ltb _ _ (omega arith) in
    let b : ltb (n / 128) 128 ≡ false = le-ltb _ _ (omega arith) in
    let c : ltb (n / 128 / 128) 128 ≡ false = le-ltb _ _ (omega arith) in
    let d : ltb (n / 128 / 128 / 128) 128 ≡ true = lt-ltb _ _ (omega arith) in
    rw (a, b, c, d) refl

-- one more pair
pub users_more : (xs : List (List ℕ × List ℕ)) (i : ℕ) (d : List ℕ × List ℕ) → i < length xs
    → length (flat_map property_bytes (map user_property (take (i + 1) xs))) ≡ length (flat_map property_bytes (map user_property (take i xs))) + length (property_bytes (user_property (get_or xs i d)))
users_more xs i d lt =
    let one : map user_property (take (i + 1) xs) ≡ map user_property (take i xs) ++ user_property (get_or xs i d) ∷ [] = map_more user_property xs i d lt in
    ap (λ (ps : List Property). length (flat_map property_bytes ps)) one ∙ ap length (flat_map-append property_bytes (map user_property (take i xs)) (user_property (get_or xs i d) ∷ []))
    ∙ length-append (flat_map property_bytes (map user_property (take i xs))) (property_bytes (user_property (get_or xs i d)) ++ [])
    ∙ ap (λ (ys : List ℕ). length (flat_map property_bytes (map user_property (take i xs))) + length ys) (append-nil (property_bytes (user_property (get_or xs i d))))

pub users_prefix : (xs : List (List ℕ × List ℕ)) (i : ℕ) → length (flat_map property_bytes (map user_property (take i xs))) ≤ length (flat_map property_bytes (map user_property xs))
users_prefix xs i =
    let front = take i xs in
    let rest = drop i xs in
    let whole : map user_property xs ≡ map user_property front ++ map user_property rest = ap (map user_property) (sym (take-append-drop i xs)) ∙ map-append user_property front rest in
    omega (arith, ap (λ (ps : List Property). length (flat_map property_bytes ps)) whole, ap length (flat_map-append property_bytes (map user_property front) (map user_property rest)), length-append (flat_map property_bytes (map user_property front)) (flat_map property_bytes (map user_property rest)))

pub varint_short : (n : ℕ) → length (varint n) ≤ 4
varint_short n = digits_le 4 n
