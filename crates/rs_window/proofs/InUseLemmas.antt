-- Lemmas on identifiers in a list.
use Rattle.std.proofs.Common.{◌≡◌, ◌≢◌, ◌⊎◌, ℕ, zero, suc, ◌+◌, ◌<◌, ◌≤◌, Bool, true, false, not, ◌&&◌, ◌||◌, List, [], ◌∷◌, ◌++◌, length, get_or, cond, refl, sym, ap, subst, ◌∙◌, inl, inr, length-append, arith}
use Rattle.std.proofs.lemmas.Bool.{cases_eq}
use Rattle.std.specs.List.{remove}
use Rattle.std.specs.Ordering.{nat_cmp, eq_by_cmp}
use Rattle.std.proofs.lemmas.Cmp.{nat_cmp_total}
use Rattle.std.specs.FinSet as set
use Rattle.std.specs.FinSet.{FinSet, nat_cmp-IsAntisymmetric, contains-empty, contains-insert, contains-remove, len-empty, len-insert, same_set, from_list_push}
use Rattle.rs_window.specs.InUse.{in_use, IsDistinct}
use Rattle.rs_window.proofs.IdentifierLemmas.{same_number, other_number}

alike : (s t : FinSet nat_cmp) → ((q : ℕ) → set.contains s q ≡ set.contains t q) → s ≡ t
alike s t h = same_set nat_cmp_total nat_cmp-IsAntisymmetric s t h

pub none_in_use : in_use [] ≡ set.empty
none_in_use = refl

-- what is put in again stays
pub inserted_again : (s : FinSet nat_cmp) (id : ℕ) → set.contains s id ≡ true → set.insert s id ≡ s
inserted_again s id h = alike _ _ (λ q. contains-insert nat_cmp_total s id q ∙ by_case q (cases_eq q id))
  where
    by_case : (q : ℕ) → (q ≡ id) ⊎ (q ≡ id → ⊥) → (eq_by_cmp nat_cmp q id || set.contains s q) ≡ set.contains s q
    by_case q (inl e) = ap (λ b. b || set.contains s q) (same_number q id e) ∙ sym (ap (set.contains s) e ∙ h)
    by_case q (inr e) = ap (λ b. b || set.contains s q) (other_number q id e)

-- one that stands at a place is in use
pub standing : (ids : List ℕ) (i id : ℕ) → i < length ids → get_or ids i 0 ≡ id → set.contains (in_use ids) id ≡ true
standing [] i id h e = absurd (omega arith)
standing (x ∷ xs) zero id h e = contains-insert nat_cmp_total (in_use xs) x id ∙ ap (λ b. b || set.contains (in_use xs) id) (same_number id x (sym e))
standing (x ∷ xs) (suc i) id h e = contains-insert nat_cmp_total (in_use xs) x id ∙ ap (λ b. eq_by_cmp nat_cmp id x || b) (standing xs i id (omega arith) e) ∙ or_true (eq_by_cmp nat_cmp id x)
  where
    or_true : (b : Bool) → (b || true) ≡ true
    or_true true = refl
    or_true false = refl

-- one that stands at no place is not in use
pub not_standing : (ids : List ℕ) (id : ℕ) → ((k : ℕ) → k < length ids → get_or ids k 0 ≢ id) → set.contains (in_use ids) id ≡ false
not_standing [] id h = contains-empty nat_cmp id
not_standing (x ∷ xs) id h =
    contains-insert nat_cmp_total (in_use xs) x id ∙ ap (λ b. b || set.contains (in_use xs) id) (other_number id x (λ e. h 0 (omega arith) (sym e)))
    ∙ not_standing xs id (λ k within. h (suc k) (omega arith))

few_in_use : (ids : List ℕ) → set.len (in_use ids) ≤ length ids
few_in_use [] = omega (arith, len-empty nat_cmp)
few_in_use (x ∷ xs) = by_case (set.contains (in_use xs) x) (len-insert nat_cmp_total (in_use xs) x) (few_in_use xs)
  where
    by_case : (b : Bool) → set.len (set.insert (in_use xs) x) ≡ cond b (set.len (in_use xs)) (set.len (in_use xs) + 1) → set.len (in_use xs) ≤ length xs → set.len (set.insert (in_use xs) x) ≤ suc (length xs)
    by_case true e h = omega arith
    by_case false e h = omega arith

-- the first of a list in which none stands twice is not in its rest
first_apart : (x : ℕ) (xs : List ℕ) → IsDistinct (x ∷ xs) → (set.contains (in_use xs) x ≡ false) × IsDistinct xs
first_apart x xs d = by_case (set.contains (in_use xs) x) (len-insert nat_cmp_total (in_use xs) x)
  where
    by_case : (b : Bool) → set.len (set.insert (in_use xs) x) ≡ cond b (set.len (in_use xs)) (set.len (in_use xs) + 1) → (b ≡ false) × (set.len (in_use xs) ≡ length xs)
    by_case true e = absurd (omega (arith, few_in_use xs, d))
    by_case false e = (refl, omega (arith, d))

put_apart : (x : ℕ) (xs : List ℕ) → set.contains (in_use xs) x ≡ false → IsDistinct xs → IsDistinct (x ∷ xs)
put_apart x xs h d = len-insert nat_cmp_total (in_use xs) x ∙ ap (λ b. cond b (set.len (in_use xs)) (set.len (in_use xs) + 1)) h ∙ omega (arith, d)

-- one that is put at the end
pub pushed : (ids : List ℕ) (id : ℕ) → in_use (ids ++ id ∷ []) ≡ set.insert (in_use ids) id
pushed ids id = from_list_push nat_cmp_total nat_cmp-IsAntisymmetric ids id

pub pushed_apart : (ids : List ℕ) (id : ℕ) → IsDistinct ids → set.contains (in_use ids) id ≡ false → IsDistinct (ids ++ id ∷ [])
pushed_apart ids id d h =
    ap set.len (pushed ids id) ∙ len-insert nat_cmp_total (in_use ids) id ∙ ap (λ b. cond b (set.len (in_use ids)) (set.len (in_use ids) + 1)) h
    ∙ omega (arith, d, length-append ids (id ∷ []))

-- what is not in use is removed in vain
pub removed_none : (s : FinSet nat_cmp) (id : ℕ) → set.contains s id ≡ false → set.remove s id ≡ s
removed_none s id h = alike _ _ (λ q. contains-remove nat_cmp_total s id q ∙ by_case q (cases_eq q id))
  where
    by_case : (q : ℕ) → (q ≡ id) ⊎ (q ≡ id → ⊥) → (not (eq_by_cmp nat_cmp q id) && set.contains s q) ≡ set.contains s q
    by_case q (inl e) = ap (λ b. not b && set.contains s q) (same_number q id e) ∙ sym (ap (set.contains s) e ∙ h)
    by_case q (inr e) = ap (λ b. not b && set.contains s q) (other_number q id e)

removed_first : (s : FinSet nat_cmp) (id : ℕ) → set.contains s id ≡ false → s ≡ set.remove (set.insert s id) id
removed_first s id h = alike _ _ (λ q. sym (contains-remove nat_cmp_total (set.insert s id) id q ∙ ap (λ b. not (eq_by_cmp nat_cmp q id) && b) (contains-insert nat_cmp_total s id q) ∙ by_case q (cases_eq q id)))
  where
    by_case : (q : ℕ) → (q ≡ id) ⊎ (q ≡ id → ⊥) → (not (eq_by_cmp nat_cmp q id) && (eq_by_cmp nat_cmp q id || set.contains s q)) ≡ set.contains s q
    by_case q (inl e) = ap (λ b. not b && (b || set.contains s q)) (same_number q id e) ∙ sym (ap (set.contains s) e ∙ h)
    by_case q (inr e) = ap (λ b. not b && (b || set.contains s q)) (other_number q id e)

removed_later : (s : FinSet nat_cmp) (x id : ℕ) → (x ≡ id → ⊥) → set.insert (set.remove s id) x ≡ set.remove (set.insert s x) id
removed_later s x id differs = alike _ _ (λ q.
    contains-insert nat_cmp_total (set.remove s id) x q ∙ ap (λ b. eq_by_cmp nat_cmp q x || b) (contains-remove nat_cmp_total s id q) ∙ by_case q (cases_eq q x)
    ∙ sym (contains-remove nat_cmp_total (set.insert s x) id q ∙ ap (λ b. not (eq_by_cmp nat_cmp q id) && b) (contains-insert nat_cmp_total s x q)))
  where
    with_rest : (a c : Bool) → (not a && c) ≡ (not a && (false || c))
    with_rest true c = refl
    with_rest false c = refl

    by_case : (q : ℕ) → (q ≡ x) ⊎ (q ≡ x → ⊥) → (eq_by_cmp nat_cmp q x || (not (eq_by_cmp nat_cmp q id) && set.contains s q)) ≡ (not (eq_by_cmp nat_cmp q id) && (eq_by_cmp nat_cmp q x || set.contains s q))
    by_case q (inl e) =
        ap (λ b. b || (not (eq_by_cmp nat_cmp q id) && set.contains s q)) (same_number q x e)
        ∙ sym (ap (λ b. not (eq_by_cmp nat_cmp q id) && (b || set.contains s q)) (same_number q x e) ∙ ap (λ b. not b && (true || set.contains s q)) (other_number q id (λ f. differs (sym e ∙ f))))
    by_case q (inr e) =
        ap (λ b. b || (not (eq_by_cmp nat_cmp q id) && set.contains s q)) (other_number q x e)
        ∙ with_rest (eq_by_cmp nat_cmp q id) (set.contains s q)
        ∙ sym (ap (λ b. not (eq_by_cmp nat_cmp q id) && (b || set.contains s q)) (other_number q x e))

-- to take out the one at its place is to remove it
pub taken_out : (ids : List ℕ) (i id : ℕ) → i < length ids → get_or ids i 0 ≡ id → IsDistinct ids → (in_use (remove ids i) ≡ set.remove (in_use ids) id) × IsDistinct (remove ids i)
taken_out [] i id h e d = absurd (omega arith)
taken_out (x ∷ xs) zero id h e d =
    let (apart, rest) = first_apart x xs d in
    (removed_first (in_use xs) x apart ∙ ap (set.remove (in_use (x ∷ xs))) e, rest)
taken_out (x ∷ xs) (suc i) id h e d =
    let (apart, rest) = first_apart x xs d in
    let (fewer, apart_then) = taken_out xs i id (omega arith) e rest in
    let used : set.contains (in_use xs) id ≡ true = standing xs i id (omega arith) e in
    let differs = λ (same : x ≡ id). let wrong : false ≡ true = sym apart ∙ ap (set.contains (in_use xs)) same ∙ used in absurd (let P : ⊥ = cc in P) in (
      ap (λ (s : FinSet nat_cmp). set.insert s x) fewer ∙ removed_later (in_use xs) x id differs,
      put_apart x (remove xs i) (ap (λ (s : FinSet nat_cmp). set.contains s x) fewer ∙ contains-remove nat_cmp_total (in_use xs) id x ∙ ap (λ b. not (eq_by_cmp nat_cmp x id) && b) apart ∙ and_false (eq_by_cmp nat_cmp x id)) apart_then,
    )
  where
    and_false : (b : Bool) → (not b && false) ≡ false
    and_false true = refl
    and_false false = refl

pub taken_set : (ids old : List ℕ) (i id : ℕ) → ids ≡ old → i < length ids → get_or ids i 0 ≡ id → IsDistinct old → in_use (remove old i) ≡ set.remove (in_use old) id
taken_set ids old i id s h e d = (taken_out old i id (subst (λ (xs : List ℕ). i < length xs) s h) (subst (λ (xs : List ℕ). get_or xs i 0 ≡ id) s e) d).0

pub taken_distinct : (ids old : List ℕ) (i id : ℕ) → ids ≡ old → i < length ids → get_or ids i 0 ≡ id → IsDistinct old → IsDistinct (remove old i)
taken_distinct ids old i id s h e d = (taken_out old i id (subst (λ (xs : List ℕ). i < length xs) s h) (subst (λ (xs : List ℕ). get_or xs i 0 ≡ id) s e) d).1
