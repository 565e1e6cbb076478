-- The levels of a text, from the first on.
use Rattle.std.proofs.Common.{◌≡◌, ◌==◌, ℕ, ◌+◌, ◌<◌, ◌≤◌, Bool, true, false, List, [], ◌∷◌, length, take, drop, get_or, refl, arith}
use Rattle.std.specs.List.{slice_split, position_or_len}
use Rattle.std.proofs.lemmas.List.Splits.{slice_split_first, slice_split-cons_no, length-slice_split}
use Rattle.std.proofs.lemmas.List.Sums.{position_or_len_is, count_by-le-length}
use Rattle.rs_topic.specs.Topics.{levels, slash, is_end}

whole : (p : ℕ → Bool) (xs : List ℕ) → length xs ≤ position_or_len p xs → slice_split p xs ≡ xs ∷ []
whole p [] h = refl
whole p (x ∷ xs) h = at (p x) refl (λ k. whole p xs k)
  where
    at : (b : Bool) → p x ≡ b → (length xs ≤ position_or_len p xs → slice_split p xs ≡ xs ∷ []) → slice_split p (x ∷ xs) ≡ (x ∷ xs) ∷ []
    at true is more = absurd (omega (arith, rw is at h))
    at false is more = let k : length xs ≤ position_or_len p xs = omega (arith, rw is at h) in cc (slice_split-cons_no p x xs is, more k)

pub one_level : (text : List ℕ) → length text ≤ position_or_len (λ c. c == slash) text → levels text ≡ text ∷ []
one_level text h = whole (λ c. c == slash) text h

pub first_of_more : (text : List ℕ) (at : ℕ) → at ≡ position_or_len (λ c. c == slash) text → at < length text → levels text ≡ take at text ∷ levels (drop (at + 1) text)
first_of_more text at is h = rw is (slice_split_first (λ c. c == slash) text 0 (rw is at h))

pub ends_here : (text : List ℕ) (i : ℕ) → i < length text → ((k : ℕ) → k < i → (get_or text k 0 == slash) ≡ false) → get_or text i 0 ≡ slash → position_or_len (λ c. c == slash) text ≡ i
ends_here text i small h is = position_or_len_is (λ c. c == slash) text i 0 (omega (arith, small)) h (λ _. rw is refl)

pub ends_nowhere : (text : List ℕ) → ((k : ℕ) → k < length text → (get_or text k 0 == slash) ≡ false) → position_or_len (λ c. c == slash) text ≡ length text
ends_nowhere text h = position_or_len_is (λ c. c == slash) text (length text) 0 (omega arith) h (λ k. absurd (omega (arith, k)))

some_part : (p : ℕ → Bool) (text : List ℕ) → is_end (slice_split p text) ≡ false
some_part p [] = refl
some_part p (c ∷ cs) = at (p c) refl (slice_split p cs) refl
  where
    at : (b : Bool) → p c ≡ b → (parts : List (List ℕ)) → slice_split p cs ≡ parts → is_end (slice_split p (c ∷ cs)) ≡ false
    at true is parts e = rw is refl
    at false is [] e = rw (is, e) refl
    at false is (q ∷ qs) e = rw (is, e) refl

pub some_level : (text : List ℕ) → is_end (levels text) ≡ false
some_level text = some_part (λ c. c == slash) text

pub level_bound : (text : List ℕ) → length (levels text) ≤ length text + 1
level_bound text = rw length-slice_split (omega (arith, count_by-le-length (λ c. c == slash) text))
