-- The order of topics is total: of two different topics one comes first.
use Rattle.std.proofs.Common.{◌≡◌, ℕ, true, List, [], ◌∷◌, refl, sym, ap, subst, ◌∙◌}
use Rattle.std.specs.Prelude.{nat_eq}
use Rattle.std.specs.Cmp.{IsTotalOrder, Equal-is}
use Rattle.std.specs.Cmp.Lexicographic.{slice_cmp, pointwise, bytes_decides}
use Rattle.std.specs.Ordering.{nat_cmp, eq_by_cmp}
use Rattle.std.specs.Bool.{one_answer}
use Rattle.std.specs.declared.cmp.Ordering.{Ordering}
use Rattle.std.specs.declared.cmp.Ordering.TheVariants.{Less, Equal, Greater}
use Rattle.std.proofs.lemmas.Cmp.{nat_list_cmp_total, lists_total, on_total, tied_itself}
use Rattle.std.proofs.lemmas.Map.Lookups.{CmpEqualImpliesEq, exact_bytes}
use Rattle.std.proofs.lemmas.List.Splits.{join_with_byte-slice_split}
use Rattle.std.specs.List.{join_with_byte}
use Rattle.rs_topic.specs.Topics.{levels, slash}
use Rattle.rs_topic.specs.Order.{path_cmp, topic_cmp}

pub path_total : IsTotalOrder path_cmp
path_total = lists_total nat_list_cmp_total

pub topic_total : IsTotalOrder topic_cmp
topic_total = on_total levels path_total

-- only equal lists compare as equal, if that holds for their elements
pub exact_lists : {X : Type 0} (R : X → X → Ordering) → CmpEqualImpliesEq R → CmpEqualImpliesEq (slice_cmp R)
exact_lists R exact [] [] h = refl
exact_lists R exact [] (y ∷ ys) h = absurd (cc (h))
exact_lists R exact (x ∷ xs) [] h = absurd (cc (h))
exact_lists R exact (x ∷ xs) (y ∷ ys) h = at_head (R x y) refl (λ k. exact_lists R exact xs ys k)
  where
    at_head : (o : Ordering) → R x y ≡ o → (slice_cmp R xs ys ≡ Equal → xs ≡ ys) → x ∷ xs ≡ y ∷ ys
    at_head Less is more = absurd (cc (is, h))
    at_head Greater is more = absurd (cc (is, h))
    at_head Equal is more = cc (exact x y is, more (cc (is, h)))

pub exact_paths : CmpEqualImpliesEq path_cmp
exact_paths = exact_lists (slice_cmp nat_cmp) exact_bytes

pub exact_topics : CmpEqualImpliesEq topic_cmp
exact_topics a b h = sym (join_with_byte-slice_split slash a) ∙
    (ap (λ (l : List (List ℕ)). join_with_byte slash l) (exact_paths (levels a) (levels b) h) ∙ join_with_byte-slice_split slash b)

pub topic_matches_eq : (a b : List ℕ) → pointwise nat_eq a b ≡ eq_by_cmp topic_cmp a b
topic_matches_eq a b = one_answer (pointwise nat_eq a b) (eq_by_cmp topic_cmp a b) (bytes_decides a b) (
  λ h. exact_topics a b ((Equal-is (topic_cmp a b)).0 h),
  λ h. let P : List ℕ → Type 0 = λ w.
      eq_by_cmp topic_cmp a w ≡ true in subst P h ((Equal-is (topic_cmp a a)).1 (tied_itself topic_total a)),
)
