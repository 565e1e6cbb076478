-- Ends that are in the order of their places.
use Rattle.std.proofs.Common.{◌≡◌, ◌≢◌, ◌==◌, ℕ, ◌+◌, ◌<◌, ◌≤◌, Bool, true, false, cond, List, [], ◌∷◌, length, filter, refl, arith}
use Rattle.std.proofs.lemmas.Bool.Decides.{nat_tests}
use Rattle.rs_intake_queue.specs.Ends.{Closed}
use Rattle.rs_intake.specs.Settling.{ends_at, EachOnce}

-- the ends are of the places behind this one, one after the other
abbrev pub AreFrom : ℕ → List Closed → Type 0
AreFrom n [] = Unit {0}
AreFrom n (e ∷ es) = (e.place ≡ n + 1) × AreFrom (n + 1) es

none_up_to : (n place : ℕ) (es : List Closed) → AreFrom n es → place ≤ n → ends_at place es ≡ 0
none_up_to n place [] are low = refl
none_up_to n place (e ∷ es) are low = go (e.place == place) refl (none_up_to (n + 1) place es are.1 (omega (arith, low)))
  where
    go : (b : Bool) → (e.place == place) ≡ b → ends_at place es ≡ 0 → length (cond b (e ∷ filter (λ (e : Closed). e.place == place) es) (filter (λ (e : Closed). e.place == place) es)) ≡ 0
    go true is h = let same : e.place ≡ place = grind (arith, nat_tests, is) in absurd (omega (arith, same, are.0, low))
    go false is h = h

one_behind : (n place : ℕ) (es : List Closed) → AreFrom n es → n < place → place ≤ n + length es → ends_at place es ≡ 1
one_behind n place [] are low high = absurd (omega (arith, low, high))
one_behind n place (e ∷ es) are low high = go (e.place == place) refl (none_up_to (n + 1) place es are.1) (λ more. one_behind (n + 1) place es are.1 more (omega (arith, high)))
  where
    go : (b : Bool) → (e.place == place) ≡ b → (place ≤ n + 1 → ends_at place es ≡ 0) → (n + 1 < place → ends_at place es ≡ 1)
        → length (cond b (e ∷ filter (λ (e : Closed). e.place == place) es) (filter (λ (e : Closed). e.place == place) es)) ≡ 1
    go true is none one = let same : e.place ≡ place = grind (arith, nat_tests, is) in let h = none (omega (arith, same, are.0)) in omega (arith, h)
    go false is none one = let apart : e.place ≢ place = λ same. grind (arith, nat_tests, is, same) in one (omega (arith, apart, are.0, low))

-- so each of these places has one
pub once_in_order : (places : ℕ) (es : List Closed) → AreFrom 0 es → length es ≡ places → EachOnce places es
once_in_order places es are count = λ place low high. one_behind 0 place es are low (omega (arith, count, high))
