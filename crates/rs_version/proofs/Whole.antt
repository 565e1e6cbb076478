-- An answer that leaves no message out.
use Rattle.std.proofs.Common.{◌≡◌, ℕ, ◌≤◌, Bool, true, false, cond, List, [], ◌∷◌, length, map, refl, sym, ap, ◌∙◌, arith}
use Rattle.std.specs.List.{filter}
use Rattle.std.proofs.lemmas.List.{length-map}
use Rattle.rs_message.specs.Values.{MessageValue}
use Rattle.rs_message.specs.declared.found.Found.{Found}
use Rattle.rs_store.specs.Contents.{answer_of, found_of, is_answered}
use Rattle.rs_store.proofs.Maps.{filter_few}

filter_whole : {A : Type 0} (p : A → Bool) (xs : List A) → length (filter p xs) ≡ length xs → filter p xs ≡ xs
filter_whole p [] long = refl
filter_whole p (x ∷ xs) long = at (p x) (filter_few p xs) (filter_whole p xs) long
  where
    at : (b : Bool) → length (filter p xs) ≤ length xs → (length (filter p xs) ≡ length xs → filter p xs ≡ xs) → length (cond b (x ∷ filter p xs) (filter p xs)) ≡ length (x ∷ xs)
        → cond b (x ∷ filter p xs) (filter p xs) ≡ x ∷ xs
    at true few rest same = ap (λ l. x ∷ l) (rest (omega (arith, same)))
    at false few rest same = absurd (omega (arith, few, same))

-- as many messages as are retained are all of them
pub answers_all : (pattern : List ℕ) (now : ℕ) (retained : List (List ℕ × MessageValue)) (found : List Found) → found ≡ answer_of pattern now retained → length found ≡ length retained
    → found ≡ map found_of retained
answers_all pattern now retained found is long =
    let few = filter (is_answered pattern now) retained in
    let same : length few ≡ length retained = sym (length-map few found_of) ∙ (ap length (sym is) ∙ long) in
    is ∙ ap (λ (l : List (List ℕ × MessageValue)). map found_of l) (filter_whole (is_answered pattern now) retained same)
