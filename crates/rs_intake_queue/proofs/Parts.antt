-- A part of a list that grows, and of a list whose serials rise.
use Rattle.std.proofs.Common.{◌≡◌, ◌==◌, ℕ, Bool, true, false, cond, List, [], ◌∷◌, ◌++◌, map, refl, inl, inr, ⊎_elim}
use Rattle.std.specs.List.{AllByRecursion, filter}
use Rattle.std.specs.List.Sorted.{IsStrictlySortedBy}
use Rattle.std.specs.Ordering.{nat_cmp}
use Rattle.std.specs.declared.cmp.Ordering.TheVariants.{Less}
use Rattle.rs_message.specs.declared.entry.Entry.{Entry}
use Rattle.rs_store.specs.History.{SerialsRise, serials_of}
use Rattle.rs_intake_queue.specs.Parts.{IsPart}

pub part_both : {A : Type 0} (xs ys : List A) (z : A) → IsPart xs ys → IsPart (xs ++ z ∷ []) (ys ++ z ∷ [])
part_both [] [] z p = inl (refl, tt)
part_both [] (y ∷ ys) z p = inr (part_both [] ys z tt)
part_both (x ∷ xs) [] z p = absurd p
part_both (x ∷ xs) (y ∷ ys) z p = ⊎_elim (λ t. inl (t.0, part_both xs ys z t.1)) (λ t. inr (part_both (x ∷ xs) ys z t)) p

pub part_skip : {A : Type 0} (xs ys : List A) (z : A) → IsPart xs ys → IsPart xs (ys ++ z ∷ [])
part_skip [] ys z p = tt
part_skip (x ∷ xs) [] z p = absurd p
part_skip (x ∷ xs) (y ∷ ys) z p = ⊎_elim (λ t. inl (t.0, part_skip xs ys z t.1)) (λ t. inr (part_skip (x ∷ xs) ys z t)) p

pub part_front : {A : Type 0} (xs ys : List A) → IsPart xs (xs ++ ys)
part_front [] ys = tt
part_front (x ∷ xs) ys = inl (refl, part_front xs ys)

pub part_behind : {A : Type 0} (xs ys : List A) (y : A) → IsPart xs ys → IsPart xs (y ∷ ys)
part_behind [] ys y p = tt
part_behind (x ∷ xs) ys y p = inr p

all_part : {A : Type 0} (P : A → Type 0) (xs ys : List A) → IsPart xs ys → AllByRecursion P ys → AllByRecursion P xs
all_part P [] ys p all = tt
all_part P (x ∷ xs) [] p all = absurd p
all_part P (x ∷ xs) (y ∷ ys) p all = ⊎_elim (λ (t : (x ≡ y) × IsPart xs ys). (rw (t.0) all.0, all_part P xs ys t.1 all.1)) (λ (t : IsPart (x ∷ xs) ys). all_part P (x ∷ xs) ys t all.1) p

sorted_part : (xs ys : List ℕ) → IsPart xs ys → IsStrictlySortedBy nat_cmp ys → IsStrictlySortedBy nat_cmp xs
unfolding IsStrictlySortedBy
sorted_part [] ys p sorted = tt
sorted_part (x ∷ xs) [] p sorted = absurd p
sorted_part (x ∷ xs) (y ∷ ys) p sorted = ⊎_elim
    (λ (t : (x ≡ y) × IsPart xs ys). (rw (t.0) (all_part (λ z. nat_cmp y z ≡ Less) xs ys t.1 sorted.0), sorted_part xs ys t.1 sorted.1))
    (λ (t : IsPart (x ∷ xs) ys). sorted_part (x ∷ xs) ys t sorted.1)
    p

serials_part : (place : ℕ) (xs ys : List Entry) → IsPart xs ys → IsPart (serials_of place xs) (serials_of place ys)
serials_part place [] ys p = tt
serials_part place (x ∷ xs) [] p = absurd p
serials_part place (x ∷ xs) (y ∷ ys) p = ⊎_elim
    (λ (t : (x ≡ y) × IsPart xs ys). rw (t.0) (same (y.origin.place == place) (serials_part place xs ys t.1)))
    (λ (t : IsPart (x ∷ xs) ys). more (y.origin.place == place) (serials_part place (x ∷ xs) ys t))
    p
  where
    serial : Entry → ℕ
    serial e = e.origin.serial

    here : Entry → Bool
    here e = e.origin.place == place

    same : (b : Bool) → IsPart (map serial (filter here xs)) (map serial (filter here ys)) → IsPart (map serial (cond b (y ∷ filter here xs) (filter here xs))) (map serial (cond b (y ∷ filter here ys) (filter here ys)))
    same true h = inl (refl, h)
    same false h = h

    more : (b : Bool) → IsPart (serials_of place (x ∷ xs)) (map serial (filter here ys)) → IsPart (serials_of place (x ∷ xs)) (map serial (cond b (y ∷ filter here ys) (filter here ys)))
    more true h = part_behind (serials_of place (x ∷ xs)) (map serial (filter here ys)) y.origin.serial h
    more false h = h

-- the serials of a part rise too
pub part_rises : (xs ys : List Entry) → IsPart xs ys → SerialsRise ys → SerialsRise xs
part_rises xs ys p rises place = sorted_part (serials_of place xs) (serials_of place ys) (serials_part place xs ys p) (rises place)

pub rises_none : SerialsRise []
unfolding IsStrictlySortedBy
rises_none place = tt
