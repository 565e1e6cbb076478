-- The levels of a text are the one list without slashes that, joined by slashes, gives it.
use Rattle.std.proofs.Common.{◌≡◌, ◌==◌, ℕ, ◌<◌, Bool, true, false, List, [], ◌∷◌, length, refl, sym, ap, ◌∙◌, arith}
use Rattle.std.specs.Prelude.{All}
use Rattle.std.specs.List.{join_with_byte}
use Rattle.std.proofs.lemmas.List.Splits.{join_with_byte-slice_split, length-slice_split, slice_split_none, slice_split_at}
use Rattle.std.proofs.lemmas.List.Elements.{All-nil, All-head, All-tail, All-cons}
use Rattle.rs_topic.specs.Topics.{levels, slash, has}
use Rattle.rs_topic.specs.Law.{AreTheLevels}

-- ---- what is split has no slash

Free : List ℕ → Type 0
Free level = has slash level ≡ false

free_parts : (text : List ℕ) → All (λ level. has slash level ≡ false) (levels text)
free_parts [] = All-cons (λ level. has slash level ≡ false) [] [] refl (All-nil (λ level. has slash level ≡ false))
free_parts (c ∷ cs) = at (c == slash) refl (levels cs) refl (free_parts cs)
  where
    at : (b : Bool) → (c == slash) ≡ b → (parts : List (List ℕ)) → levels cs ≡ parts → All (λ level. has slash level ≡ false) (levels cs) → All (λ level. has slash level ≡ false) (levels (c ∷ cs))
    at true is parts e h = rw is (All-cons (λ level. has slash level ≡ false) [] (levels cs) refl h)
    at false is [] e h = rw (is, e) (All-cons (λ level. has slash level ≡ false) (c ∷ []) [] (rw is refl) (All-nil (λ level. has slash level ≡ false)))
    at false is (part ∷ parts) e h =
        let g = rw e at h in
        rw (is, e) (All-cons (λ level. has slash level ≡ false) (c ∷ part) parts (rw is (All-head (λ level. has slash level ≡ false) part parts g)) (All-tail (λ level. has slash level ≡ false) part parts g))

-- ---- what is joined is split again

each_free : (level : List ℕ) → has slash level ≡ false → All (λ c. (c == slash) ≡ false) level
each_free [] h = All-nil (λ c. (c == slash) ≡ false)
each_free (c ∷ cs) h = at (c == slash) refl (λ k. each_free cs k)
  where
    at : (b : Bool) → (c == slash) ≡ b → (has slash cs ≡ false → All (λ d. (d == slash) ≡ false) cs) → All (λ d. (d == slash) ≡ false) (c ∷ cs)
    at true is more = absurd (cc (rw is at h))
    at false is more = All-cons (λ d. (d == slash) ≡ false) c cs is (more (rw is at h))

split_joined : (parts : List (List ℕ)) → 0 < length parts → All (λ level. has slash level ≡ false) parts → levels (join_with_byte slash parts) ≡ parts
split_joined [] h f = absurd (omega (arith, h))
split_joined (part ∷ []) h f = slice_split_none (λ c. c == slash) part (each_free part (All-head (λ level. has slash level ≡ false) part [] f))
split_joined (part ∷ next ∷ parts) h f =
    slice_split_at (λ c. c == slash) part slash (join_with_byte slash (next ∷ parts)) (each_free part (All-head (λ level. has slash level ≡ false) part (next ∷ parts) f)) refl
    ∙ ap (λ (w : List (List ℕ)). part ∷ w) (split_joined (next ∷ parts) (omega arith) (All-tail (λ level. has slash level ≡ false) part (next ∷ parts) f))

pub the_levels : AreTheLevels
the_levels text = (
  record {
    some = omega (arith, length-slice_split (λ c. c == slash) text);
    no_slash = free_parts text;
    whole = join_with_byte-slice_split slash text;
  },
  λ parts are. sym (split_joined parts are.some are.no_slash) ∙ ap levels are.whole,
)
