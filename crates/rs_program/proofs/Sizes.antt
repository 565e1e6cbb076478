-- The digits and the letter of a size are the only ones.
use Rattle.std.proofs.Common.{◌≡◌, ◌∙◌, refl, sym, subst, ap, ap₂, arith, ◌+◌, ◌*◌, ◌<◌, ◌≤◌, ◌^◌, ◌⊎◌, List, [], ◌∷◌, ◌++◌, length, take, get_or, nat_eq, cond, ℕ, inl, inr}
use Rattle.std.proofs.lemmas.Int.Digits.{digits_value_more}
use Rattle.std.proofs.lemmas.List.{append-nil}
use Rattle.std.proofs.lemmas.Str.Parse.{digits_value-take-le}
use Rattle.std.specs.Char.{digit_value}
use Rattle.std.specs.Str.Parse.{AllDigits, IsNumeral, digits_value}
use Rattle.rs_program.specs.CommandLine.{IsSize, IsUnit}

-- a list is not empty if something stands at its end
no_end : (xs : List ℕ) (x : ℕ) → [] ≡ xs ++ (x ∷ []) → ⊥
no_end [] x e = cc
no_end (y ∷ ys) x e = cc

-- lists that end with one element each have it in common, and what is before it
one_last : (xs ys : List ℕ) (x y : ℕ) → xs ++ (x ∷ []) ≡ ys ++ (y ∷ []) → (xs ≡ ys) × (x ≡ y)
one_last [] [] x y e = (refl, cc)
one_last [] (b ∷ ys) x y e = absurd (no_end ys y (cc))
one_last (a ∷ xs) [] x y e = absurd (no_end xs x (cc))
one_last (a ∷ xs) (b ∷ ys) x y e =
    let tails : xs ++ (x ∷ []) ≡ ys ++ (y ∷ []) = cc in
    let same = one_last xs ys x y tails in
    (cc, same.1)

-- the last of some digits is one
last_is_digit : (xs : List ℕ) (x : ℕ) → AllDigits 10 (xs ++ (x ∷ [])) → digit_value x < 10
last_is_digit [] x all = all.0
last_is_digit (a ∷ xs) x all = last_is_digit xs x all.1

-- what each letter counts
count_of : ℕ → ℕ
count_of l = cond (nat_eq l 75) 1024 (cond (nat_eq l 77) (1024 ^ 2) (1024 ^ 3))

count_is : (l each : ℕ) → IsUnit (l ∷ []) each → each ≡ count_of l
unfolding count_of
count_is l each (inl u) = absurd (let e : l ∷ [] ≡ [] = u.0 in cc)
count_is l each (inr (inl u)) = let e : l ≡ 75 = (let e : l ∷ [] ≡ 75 ∷ [] = u.0 in cc) in u.1 ∙ sym (ap count_of e)
count_is l each (inr (inr (inl u))) = let e : l ≡ 77 = (let e : l ∷ [] ≡ 77 ∷ [] = u.0 in cc) in u.1 ∙ sym (ap count_of e)
count_is l each (inr (inr (inr u))) = let e : l ≡ 71 = (let e : l ∷ [] ≡ 71 ∷ [] = u.0 in cc) in u.1 ∙ sym (ap count_of e)

-- no letter is a digit
no_digit : (l each : ℕ) → IsUnit (l ∷ []) each → digit_value l < 10 → ⊥
no_digit l each (inl u) d = let e : l ∷ [] ≡ [] = u.0 in cc
no_digit l each (inr (inl u)) d = let e : l ≡ 75 = (let e : l ∷ [] ≡ 75 ∷ [] = u.0 in cc) in let h : 20 < 10 = subst (λ n. digit_value n < 10) e d in omega arith
no_digit l each (inr (inr (inl u))) d = let e : l ≡ 77 = (let e : l ∷ [] ≡ 77 ∷ [] = u.0 in cc) in let h : 22 < 10 = subst (λ n. digit_value n < 10) e d in omega arith
no_digit l each (inr (inr (inr u))) d = let e : l ≡ 71 = (let e : l ∷ [] ≡ 71 ∷ [] = u.0 in cc) in let h : 16 < 10 = subst (λ n. digit_value n < 10) e d in omega arith

-- behind the digits is nothing, or one letter
letters_are : (letters : List ℕ) (each : ℕ) → IsUnit letters each → ((letters ≡ []) × (each ≡ 1)) ⊎ ((l : ℕ) × (letters ≡ l ∷ []))
letters_are letters each (inl u) = inl u
letters_are letters each (inr (inl u)) = inr (75, u.0)
letters_are letters each (inr (inr (inl u))) = inr (77, u.0)
letters_are letters each (inr (inr (inr u))) = inr (71, u.0)

-- a text of digits and this letter has no other digits, nor another letter
pub only_letter : (text before : List ℕ) (l each : ℕ) → text ≡ before ++ (l ∷ []) → IsUnit (l ∷ []) each
    → (digits letters : List ℕ) (other : ℕ) → text ≡ digits ++ letters → IsNumeral 10 digits → IsUnit letters other
    → (digits ≡ before) × (other ≡ each)
only_letter text before l each is unit digits letters other parts numeral u =
    elim (letters_are letters other u) as (λ _. (digits ≡ before) × (other ≡ each)) [
      | inl none ↦
          let all : before ++ (l ∷ []) ≡ digits = sym is ∙ parts ∙ ap (λ t. digits ++ t) none.0 ∙ append-nil digits in
          absurd (no_digit l each unit (last_is_digit before l (subst (AllDigits 10) (sym all) numeral.1)))
      | inr one ↦
          let same = one_last before digits l one.0 (sym is ∙ parts ∙ ap (λ t. digits ++ t) one.1) in
          let letter : letters ≡ l ∷ [] = one.1 ∙ ap (λ x. x ∷ []) (sym same.1) in
          (sym same.0, count_is l other (subst (λ t. IsUnit t other) letter u) ∙ sym (count_is l each unit))
    ]

-- a text that ends with no letter is digits alone
pub only_digits : (text before : List ℕ) (l : ℕ) → text ≡ before ++ (l ∷ []) → ((each : ℕ) → IsUnit (l ∷ []) each → ⊥)
    → (digits letters : List ℕ) (other : ℕ) → text ≡ digits ++ letters → IsUnit letters other → (digits ≡ text) × (other ≡ 1)
only_digits text before l is no_unit digits letters other parts u =
    elim (letters_are letters other u) as (λ _. (digits ≡ text) × (other ≡ 1)) [
      | inl none ↦ (sym (parts ∙ ap (λ t. digits ++ t) none.0 ∙ append-nil digits), none.1)
      | inr one ↦
          let same = one_last before digits l one.0 (sym is ∙ parts ∙ ap (λ t. digits ++ t) one.1) in
          let letter : letters ≡ l ∷ [] = one.1 ∙ ap (λ x. x ∷ []) (sym same.1) in
          absurd (no_unit other (subst (λ t. IsUnit t other) letter u))
    ]

-- the digits alone write no more than their bytes
digits_below : (letters : List ℕ) (number each bytes : ℕ) → IsUnit letters each → number * each ≡ bytes → number ≤ bytes
digits_below letters number each bytes (inl u) value = let e : number * 1 ≡ bytes = subst (λ k. number * k ≡ bytes) u.1 value in omega arith
digits_below letters number each bytes (inr (inl u)) value = let e : number * 1024 ≡ bytes = subst (λ k. number * k ≡ bytes) u.1 value in omega arith
digits_below letters number each bytes (inr (inr (inl u))) value = let e : number * 1048576 ≡ bytes = subst (λ k. number * k ≡ bytes) u.1 value in omega arith
digits_below letters number each bytes (inr (inr (inr u))) value = let e : number * 1073741824 ≡ bytes = subst (λ k. number * k ≡ bytes) u.1 value in omega arith

-- what a size means, if a text has no other digits and no other letter than these
pub size_is : (text digits : List ℕ) (each : ℕ)
    → ((ds letters : List ℕ) (other : ℕ) → text ≡ ds ++ letters → IsNumeral 10 ds → IsUnit letters other → (ds ≡ digits) × (other ≡ each))
    → (bytes : ℕ) → IsSize text bytes
    → IsNumeral 10 digits × (digits_value 10 digits * each ≡ bytes) × (digits_value 10 digits ≤ bytes) × (1 ≤ bytes) × (bytes < 2 ^ 64)
size_is text digits each only bytes size =
    let same = only size.digits size.letters size.each size.parts size.decimal size.unit in
    let value : digits_value 10 digits * each ≡ bytes = sym (ap₂ (λ (d : List ℕ) (e : ℕ). digits_value 10 d * e) same.0 same.1) ∙ size.value in
    let unit : IsUnit size.letters each = subst (IsUnit size.letters) same.1 size.unit in
    (subst (IsNumeral 10) same.0 size.decimal, value, digits_below size.letters (digits_value 10 digits) each bytes unit value, size.above, size.below)

-- what the digits up to one write is no more than what all write
pub part_below : (ds : List ℕ) (i : ℕ) → i < length ds → digits_value 10 (take i ds) * 10 + digit_value (get_or ds i 0) ≤ digits_value 10 ds
part_below ds i within = omega (arith, digits_value_more 10 ds i within, digits_value-take-le 10 ds (i + 1) (omega arith))
