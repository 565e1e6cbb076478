-- Lemmas on the identifiers in use.
use Rattle.std.proofs.Common.{◌≡◌, ◌≢◌, ◌⊎◌, ℕ, zero, suc, ◌+◌, ◌-◌, ◌<◌, true, false, List, [], ◌∷◌, get_or, Option, Some, None, IsSome, OnSome, is_some, cond, count_by, refl, sym, ap, subst, ◌∙◌, inl, inr, arith}
use Rattle.std.proofs.lemmas.Bool.{cases_eq, false_from_ne_true}
use Rattle.std.proofs.lemmas.Bool.Decides.{Decides-eqb}
use Rattle.std.proofs.lemmas.List.Sums.{sum_by-cons}
use Rattle.std.specs.Ordering.{nat_cmp, eq_by_cmp}
use Rattle.std.specs.Cmp.{unsigned_tied}
use Rattle.std.proofs.lemmas.Cmp.{nat_cmp_total}
use Rattle.std.specs.FinMap.{get, insert, remove, len, from_entries, find, get-from_entries, get-insert, get-remove, len-insert, len-empty, same_map, nat_cmp-IsAntisymmetric}
use Rattle.slab.specs.Slab.{Slab, entries_from, slab_len, Updates}
use Rattle.slab.specs.Slab as slab
use Rattle.rs_window.specs.declared.identifiers.Kind.{Kind}
use Rattle.rs_window.specs.Identifiers.{Kinds, kinds_of}

-- two numbers tie exactly if they are equal
pub same_number : (m n : ℕ) → m ≡ n → eq_by_cmp nat_cmp m n ≡ true
same_number m n e = unsigned_tied m n ∙ (Decides-eqb m n).1 e

pub other_number : (m n : ℕ) → m ≢ n → eq_by_cmp nat_cmp m n ≡ false
other_number m n e = false_from_ne_true _ (λ t. e ((Decides-eqb m n).0 (sym (unsigned_tied m n) ∙ t)))

-- below the first key nothing is found
pub find_below : (q first : ℕ) (slots : List (Option Kind)) → q < first → find nat_cmp q (entries_from first slots) ≡ None
find_below q first [] h = refl
find_below q first (None ∷ rest) h = find_below q (first + 1) rest (omega arith)
find_below q first (Some kind ∷ rest) h =
    ap (λ b. cond b (Some kind) (find nat_cmp q (entries_from (first + 1) rest))) (other_number q first (λ e. omega arith))
    ∙ find_below q (first + 1) rest (omega arith)

-- a key finds the slot of its place
pub find_at : (first key : ℕ) (slots : List (Option Kind)) → find nat_cmp (first + key) (entries_from first slots) ≡ get_or slots key None
find_at first key [] = refl
find_at first zero (None ∷ rest) = find_below (first + 0) (first + 1) rest (omega arith)
find_at first (suc key) (None ∷ rest) =
    let shift : first + suc key ≡ first + 1 + key = omega arith in
    rw shift (find_at (first + 1) key rest)
find_at first zero (Some kind ∷ rest) =
    ap (λ b. cond b (Some kind) (find nat_cmp (first + 0) (entries_from (first + 1) rest))) (same_number (first + 0) first (omega arith))
find_at first (suc key) (Some kind ∷ rest) =
    let shift : first + suc key ≡ first + 1 + key = omega arith in
    ap (λ b. cond b (Some kind) (find nat_cmp (first + suc key) (entries_from (first + 1) rest))) (other_number (first + suc key) first (λ e. omega arith))
    ∙ rw shift (find_at (first + 1) key rest)

pub get_zero : (s : Slab Kind) → get (kinds_of s) 0 ≡ None
get_zero s = get-from_entries nat_cmp_total _ 0 ∙ find_below 0 1 s.slots (omega arith)

pub get_after : (s : Slab Kind) (key : ℕ) → get (kinds_of s) (1 + key) ≡ slab.get s key
get_after s key = get-from_entries nat_cmp_total _ (1 + key) ∙ find_at 1 key s.slots

-- an identifier finds the slot before it
pub get_kinds : (s : Slab Kind) (id : ℕ) → 0 < id → get (kinds_of s) id ≡ slab.get s (id - 1)
get_kinds s id h =
    let P : ℕ → Type 0 = λ n. get (kinds_of s) n ≡ slab.get s (id - 1) in
    subst P (omega arith) (get_after s (id - 1))

pub get_at : (s : Slab Kind) (key id : ℕ) → key + 1 ≡ id → get (kinds_of s) id ≡ slab.get s key
get_at s key id e = ap (get (kinds_of s)) (sym e ∙ omega arith) ∙ get_after s key

-- there are as many identifiers as slots in use
len_entries : (first : ℕ) (slots : List (Option Kind)) → len (from_entries {R = nat_cmp} (entries_from first slots)) ≡ count_by is_some slots
len_entries first [] = len-empty nat_cmp Kind
len_entries first (None ∷ rest) = len_entries (first + 1) rest ∙ omega (arith, sum_by-cons (λ (o : Option Kind). cond (is_some o) 1 0) None rest)
len_entries first (Some kind ∷ rest) =
    let none : get (from_entries {R = nat_cmp} (entries_from (first + 1) rest)) first ≡ None = get-from_entries nat_cmp_total _ first ∙ find_below first (first + 1) rest (omega arith) in
    let more : len (from_entries {R = nat_cmp} (entries_from first (Some kind ∷ rest))) ≡ len (from_entries {R = nat_cmp} (entries_from (first + 1) rest)) + 1 =
    len-insert nat_cmp_total _ first kind ∙ ap (λ (o : Option Kind). cond (is_some o) (len (from_entries {R = nat_cmp} (entries_from (first + 1) rest))) (len (from_entries {R = nat_cmp} (entries_from (first + 1) rest)) + 1)) none in
    more ∙ omega (arith, len_entries (first + 1) rest, sum_by-cons (λ (o : Option Kind). cond (is_some o) 1 0) (Some kind) rest)

pub len_kinds : (s : Slab Kind) → len (kinds_of s) ≡ slab_len s
len_kinds s = len_entries 1 s.slots

-- two maps that find the same are one
pub same_kinds : (m n : Kinds) → ((q : ℕ) → get m q ≡ get n q) → m ≡ n
same_kinds m n h = same_map nat_cmp_total nat_cmp-IsAntisymmetric m n h

get_updated : (old new : Slab Kind) (key : ℕ) (slot : Option Kind) → Updates old new key slot → (q : ℕ) → get (kinds_of new) q ≡ cond (eq_by_cmp nat_cmp q (1 + key)) slot (get (kinds_of old) q)
get_updated old new key slot u zero =
    get_zero new ∙ sym (ap (λ b. cond b slot (get (kinds_of old) 0)) (other_number 0 (1 + key) (λ e. omega arith)) ∙ get_zero old)
get_updated old new key slot u (suc q) =
    elim (cases_eq q key) [
      | inl same ↦
          ap (get (kinds_of new)) (omega arith) ∙ get_after new key ∙ u.changed
          ∙ sym (ap (λ b. cond b slot (get (kinds_of old) (suc q))) (same_number (suc q) (1 + key) (omega arith)))
      | inr other ↦
          ap (get (kinds_of new)) (omega arith) ∙ get_after new q ∙ u.others q other ∙ sym (get_after old q) ∙ ap (get (kinds_of old)) (omega arith)
          ∙ sym (ap (λ b. cond b slot (get (kinds_of old) (suc q))) (other_number (suc q) (1 + key) (λ e. other (omega arith))))
    ]

-- a slot that gets a value is an identifier that gets a kind
pub kinds_inserted : (old new : Slab Kind) (key id : ℕ) (kind : Kind) → id ≡ key + 1 → Updates old new key (Some kind) → kinds_of new ≡ insert (kinds_of old) id kind
kinds_inserted old new key id kind e u =
    same_kinds _ _ (λ q. get_updated old new key (Some kind) u q ∙ ap (λ n. cond (eq_by_cmp nat_cmp q n) (Some kind) (get (kinds_of old) q)) (omega arith) ∙ sym (get-insert nat_cmp_total (kinds_of old) id kind q))

-- a slot that loses its value is an identifier that loses its kind
pub kinds_removed : (old new : Slab Kind) (key id : ℕ) → id ≡ key + 1 → Updates old new key None → kinds_of new ≡ remove (kinds_of old) id
kinds_removed old new key id e u =
    same_kinds _ _ (λ q. get_updated old new key None u q ∙ ap (λ n. cond (eq_by_cmp nat_cmp q n) None (get (kinds_of old) q)) (omega arith) ∙ sym (get-remove nat_cmp_total (kinds_of old) id q))

-- the slot of an identifier in use has a value
pub used_slot : (s : Slab Kind) (key id : ℕ) → key + 1 ≡ id → IsSome (get (kinds_of s) id) → IsSome (slab.get s key)
used_slot s key id e h = subst IsSome (get_at s key id e) h

pub not_free : (s : Slab Kind) (key id : ℕ) → key + 1 ≡ id → IsSome (get (kinds_of s) id) → slab.get s key ≡ None → ⊥
not_free s key id e h n = let t : false ≡ true = subst IsSome n (used_slot s key id e h) in cc

pub on_some : (o : Option Kind) (P : Type 0) → OnSome o P → IsSome o → P
on_some None P h i = absurd (let t : false ≡ true = i in cc)
on_some (Some k) P h i = h

-- a kind that is put again changes nothing
pub put_same : (m : Kinds) (id : ℕ) (kind : Kind) → get m id ≡ Some kind → insert m id kind ≡ m
put_same m id kind e = same_kinds _ _ (λ q. get-insert nat_cmp_total m id kind q ∙ by_case q (cases_eq q id))
  where
    by_case : (q : ℕ) → (q ≡ id) ⊎ (q ≡ id → ⊥) → cond (eq_by_cmp nat_cmp q id) (Some kind) (get m q) ≡ get m q
    by_case q (inl same) = ap (λ b. cond b (Some kind) (get m q)) (same_number q id same) ∙ sym (ap (get m) same ∙ e)
    by_case q (inr other) = ap (λ b. cond b (Some kind) (get m q)) (other_number q id other)
