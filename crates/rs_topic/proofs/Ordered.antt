-- The order of replay, as a comparison and as a relation.
use Rattle.std.proofs.Common.{◌≡◌, ℕ, ◌<◌, List, [], ◌∷◌, refl, subst, arith}
use Rattle.std.specs.Prelude.{◌↔◌}
use Rattle.std.specs.Cmp.Lexicographic.{slice_cmp}
use Rattle.std.specs.Ordering.{nat_cmp}
use Rattle.std.specs.declared.cmp.Ordering.{Ordering}
use Rattle.std.specs.declared.cmp.Ordering.TheVariants.{Less, Equal, Greater}
use Rattle.std.proofs.lemmas.Cmp.{ranked, by_ranked, nat_cmp_total, nat_list_cmp_total, tied_itself}
use Rattle.std.proofs.lemmas.Map.Lookups.{CmpEqualImpliesEq, exact_bytes, exact_unsigned}
use Rattle.rs_topic.specs.Topics.{levels}
use Rattle.rs_topic.specs.Order.{ComesBefore, shorter, here, later, topic_cmp, IsReplayedBefore}

-- a comparison answers `Less` if the relation holds, ties a value with itself, and no two others
before_from_less : {X : Type 0} (R : X → X → Ordering) (IsLess : X → X → Type 0) → CmpEqualImpliesEq R → ((x y : X) → R x y ≡ Less → IsLess x y) → (xs ys : List X) → slice_cmp R xs ys ≡ Less → ComesBefore IsLess xs ys
before_from_less R IsLess exact less [] [] h = absurd (cc (h))
before_from_less R IsLess exact less [] (y ∷ ys) h = shorter
before_from_less R IsLess exact less (x ∷ xs) [] h = absurd (cc (h))
before_from_less R IsLess exact less (x ∷ xs) (y ∷ ys) h = at (R x y) refl (λ k. before_from_less R IsLess exact less xs ys k)
  where
    at : (o : Ordering) → R x y ≡ o → (slice_cmp R xs ys ≡ Less → ComesBefore IsLess xs ys) → ComesBefore IsLess (x ∷ xs) (y ∷ ys)
    at Less is more = here (less x y is)
    at Equal is more =
        let P : _ → Type 0 = λ w. ComesBefore IsLess (x ∷ xs) (w ∷ ys) in
        subst P (exact x y is) (later (more (rw is at h)))
    at Greater is more = absurd (cc (rw is at h))

less_from_before : {X : Type 0} (R : X → X → Ordering) (IsLess : X → X → Type 0) → ((x : X) → R x x ≡ Equal) → ((x y : X) → IsLess x y → R x y ≡ Less) → (xs ys : List X) → ComesBefore IsLess xs ys → slice_cmp R xs ys ≡ Less
less_from_before R IsLess same less [] [] x'' = elim x'' [ ]
less_from_before R IsLess same less (x ∷ xs) [] x'' = elim x'' [ ]
less_from_before R IsLess same less [] (y ∷ ys) shorter = refl
less_from_before R IsLess same less (x ∷ xs) (y ∷ ys) (here h) = rw (less x y h) refl
less_from_before R IsLess same less (x ∷ xs) (z ∷ ys) (later h) = rw (same x) (less_from_before R IsLess same less xs ys h)

nat_less : (c d : ℕ) → nat_cmp c d ≡ Less → c < d
nat_less c d h = by_ranked (c < d) (c ≡ d) (d < c) (nat_cmp c d) (ranked c d (nat_cmp c d) refl) (λ e p. p) (λ e p. absurd (cc (e, h))) (λ e p. absurd (cc (e, h)))

less_nat : (c d : ℕ) → c < d → nat_cmp c d ≡ Less
less_nat c d h = by_ranked (c < d) (c ≡ d) (d < c) (nat_cmp c d) (ranked c d (nat_cmp c d) refl) (λ e p. e) (λ e p. absurd (omega (arith, p, h))) (λ e p. absurd (omega (arith, p, h)))

level_before : (x y : List ℕ) → slice_cmp nat_cmp x y ≡ Less → ComesBefore (λ c d. c < d) x y
level_before = before_from_less nat_cmp (λ c d. c < d) exact_unsigned nat_less

before_level : (x y : List ℕ) → ComesBefore (λ c d. c < d) x y → slice_cmp nat_cmp x y ≡ Less
before_level = less_from_before nat_cmp (λ c d. c < d) (tied_itself nat_cmp_total) less_nat

pub replay_order : (a b : List ℕ) → (topic_cmp a b ≡ Less) ↔ IsReplayedBefore a b
replay_order a b = (
  before_from_less (slice_cmp nat_cmp) (ComesBefore (λ c d. c < d)) exact_bytes level_before (levels a) (levels b),
  less_from_before (slice_cmp nat_cmp) (ComesBefore (λ c d. c < d)) (tied_itself nat_list_cmp_total) before_level (levels a) (levels b),
)
