-- Why the writer's loop ended. As many Ends as places are those of all places.
use Rattle.std.proofs.Common.{◌≡◌, ◌==◌, ℕ, zero, suc, ◌+◌, ◌<◌, ◌≤◌, ⊎_elim, Bool, true, false, cond, List, [], ◌∷◌, length, sym, ap, ◌∙◌, arith}
use Rattle.std.proofs.lemmas.Bool.{cases_lt}
use Rattle.std.specs.List.{AllByRecursion}
use Rattle.rs_message.specs.declared.entry.Entry.{Entry}
use Rattle.rs_intake_queue.specs.Changes.{place_of_all}
use Rattle.rs_intake.specs.Causes.{HaveEnded}
use Rattle.rs_intake_queue.specs.QueueRule.{AreEnds, IsOutside, at_place}
use Rattle.rs_intake_queue.proofs.Queues.{at_place-head, at_place-tail}
use Rattle.rs_intake.proofs.Sums.{inside, sum_to, sum_to-add, sum_to-same, there_once, zeros}

length-at_place : (place x : ℕ) (xs : List ℕ) → length (at_place place (x ∷ xs)) ≡ cond (x == place) 1 0 + length (at_place place xs)
length-at_place place x xs = go (x == place)
  where
    go : (b : Bool) → length (cond b (x ∷ at_place place xs) (at_place place xs)) ≡ cond b 1 0 + length (at_place place xs)
    go true = omega arith
    go false = omega arith

ends_by_places : (n : ℕ) (xs : List ℕ) → ((place : ℕ) → IsOutside n place → at_place place xs ≡ []) → length xs ≡ sum_to n (λ p. length (at_place p xs))
ends_by_places n [] outside = sym (zeros n)
ends_by_places n (x ∷ xs) outside =
    let rest = ends_by_places n xs (λ place out. at_place-tail place x xs (outside place out)) in
    let within = inside n x (λ out. at_place-head x xs (outside x out)) in
    let here = there_once n x within.0 within.1 in
    let split = sum_to-same n (λ p. length (at_place p (x ∷ xs))) (λ p. cond (x == p) 1 0 + length (at_place p xs)) (λ p low high. length-at_place p x xs) in
    let sums = sum_to-add n (λ p. cond (x == p) 1 0) (λ p. length (at_place p xs)) in
    omega (arith, rest, here, split, sums)

sum_small : (n : ℕ) (f : ℕ → ℕ) → ((p : ℕ) → f p ≤ 1) → sum_to n f ≤ n
sum_small zero f small = omega arith
sum_small (suc n) f small = let h = sum_small n f small in let one = small (suc n) in omega (arith, h, one)

each_one : (n : ℕ) (f : ℕ → ℕ) → ((p : ℕ) → f p ≤ 1) → sum_to n f ≡ n → (p : ℕ) → 0 < p → p ≤ n → f p ≡ 1
each_one zero f small whole p low high = absurd (omega (arith, low, high))
each_one (suc n) f small whole p low high =
    let most = sum_small n f small in
    let one = small (suc n) in
    ⊎_elim
    (λ (t : n < p). let is : p ≡ suc n = omega (arith, t, high) in let last : f (suc n) ≡ 1 = omega (arith, most, one, whole) in ap f is ∙ last)
    (λ (t : p ≤ n). each_one n f small (omega (arith, most, one, whole)) p low t)
    (cases_lt n p)

-- there are no more Ends than places
pub few_ends : (places : ℕ) (ends : List ℕ) → AreEnds places ends → length ends ≤ places
few_ends places ends are =
    let f : ℕ → ℕ = λ p. length (at_place p ends) in
    let all : length ends ≡ sum_to places f = ends_by_places places ends (λ place out. (are place).1 out) in
    let few = sum_small places f (λ p. (are p).0) in
    omega (arith, all, few)

pub all_ended : (places : ℕ) (ends : List ℕ) → AreEnds places ends → length ends ≡ places → HaveEnded places ends
all_ended places ends are count =
    let f : ℕ → ℕ = λ p. length (at_place p ends) in
    let all : length ends ≡ sum_to places f = ends_by_places places ends (λ place out. (are place).1 out) in
    each_one places f (λ p. (are p).0) (sym all ∙ count)

sum_ones : (n : ℕ) (f : ℕ → ℕ) → ((p : ℕ) → 0 < p → p ≤ n → f p ≡ 1) → sum_to n f ≡ n
sum_ones zero f ones = omega arith
sum_ones (suc n) f ones =
    let rest = sum_ones n f (λ p low high. ones p low (omega (arith, high))) in
    let last = ones (suc n) (omega arith) (omega arith) in
    omega (arith, rest, last)

pub none_to_end : (places : ℕ) (ends : List ℕ) → AreEnds places ends → HaveEnded places ends → length ends ≡ places
none_to_end places ends are ended =
    let f : ℕ → ℕ = λ p. length (at_place p ends) in
    ends_by_places places ends (λ place out. (are place).1 out) ∙ sum_ones places f ended

-- the place of changes that are of places which have a line
pub placed_first : (places : ℕ) (es : List Entry) → AllByRecursion (λ (e : Entry). ¬ IsOutside places e.origin.place) es → place_of_all es ≤ places
placed_first places [] there = omega arith
placed_first places (e ∷ es) there = (inside places e.origin.place there.0).1
