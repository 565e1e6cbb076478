-- Two topics compare as the first bytes in which they differ, or else as their lengths.
use Rattle.std.proofs.Common.{◌≡◌, ◌≢◌, ◌==◌, ℕ, ◌<◌, Bool, true, false, List, [], ◌∷◌, length, get_or, refl, sym, ◌∙◌, arith, zero, suc}
use Rattle.std.specs.List.{onto_first}
use Rattle.std.specs.Ordering.{nat_cmp, MatchOrdering}
use Rattle.std.specs.Cmp.{nat_cmp_is}
use Rattle.std.specs.declared.cmp.Ordering.{Ordering}
use Rattle.std.specs.declared.cmp.Ordering.TheVariants.{Less, Equal, Greater}
use Rattle.std.proofs.lemmas.Bool.{eqb-true}
use Rattle.std.proofs.lemmas.Cmp.{nat_cmp_total, tied_itself, ranked}
use Rattle.std.proofs.lemmas.Map.Lookups.{exact_unsigned}
use Rattle.rs_topic.specs.Topics.{levels, slash, is_end}
use Rattle.rs_topic.specs.Order.{path_cmp, topic_cmp, differing_cmp}
use Rattle.rs_topic.proofs.LevelLemmas.{some_level}

onto_both : (x : ℕ) (p q : List (List ℕ)) → is_end p ≡ false → is_end q ≡ false → path_cmp (onto_first x p) (onto_first x q) ≡ path_cmp p q
onto_both x [] q h k = absurd cc
onto_both x (p ∷ ps) [] h k = absurd cc
onto_both x (p ∷ ps) (q ∷ qs) h k = rw (tied_itself nat_cmp_total x) refl

same_front : (x : ℕ) (xs ys : List ℕ) → topic_cmp (x ∷ xs) (x ∷ ys) ≡ topic_cmp xs ys
same_front x xs ys = at (x == slash) refl
  where
    at : (b : Bool) → (x == slash) ≡ b → topic_cmp (x ∷ xs) (x ∷ ys) ≡ topic_cmp xs ys
    at true is = rw is refl
    at false is = rw is (onto_both x (levels xs) (levels ys) (some_level xs) (some_level ys))

-- a level that has ended, and one that has not
ended_first : (y : ℕ) (p q : List (List ℕ)) → path_cmp ([] ∷ p) (onto_first y q) ≡ Less
ended_first y p [] = refl
ended_first y p (q ∷ qs) = refl

ended_last : (x : ℕ) (p q : List (List ℕ)) → path_cmp (onto_first x p) ([] ∷ q) ≡ Greater
ended_last x [] q = refl
ended_last x (p ∷ ps) q = refl

differing_front : (x y : ℕ) (p q : List (List ℕ)) → x ≢ y → path_cmp (onto_first x p) (onto_first y q) ≡ nat_cmp x y
differing_front x y p q differ = at (nat_cmp x y) refl p q
  where
    at : (o : Ordering) → nat_cmp x y ≡ o → (p q : List (List ℕ)) → path_cmp (onto_first x p) (onto_first y q) ≡ nat_cmp x y
    at Equal is p q = absurd (differ (exact_unsigned x y is))
    at Less is [] [] = rw is refl
    at Less is [] (q ∷ qs) = rw is refl
    at Less is (p ∷ ps) [] = rw is refl
    at Less is (p ∷ ps) (q ∷ qs) = rw is refl
    at Greater is [] [] = rw is refl
    at Greater is [] (q ∷ qs) = rw is refl
    at Greater is (p ∷ ps) [] = rw is refl
    at Greater is (p ∷ ps) (q ∷ qs) = rw is refl

other_front : (x y : ℕ) (xs ys : List ℕ) → x ≢ y → topic_cmp (x ∷ xs) (y ∷ ys) ≡ differing_cmp x y
other_front x y xs ys differ = at (x == slash) refl (y == slash) refl
  where
    at : (a : Bool) → (x == slash) ≡ a → (b : Bool) → (y == slash) ≡ b → topic_cmp (x ∷ xs) (y ∷ ys) ≡ differing_cmp x y
    at true is true also = absurd (differ (eqb-true x slash is ∙ sym (eqb-true y slash also)))
    at true is false also = rw (is, also) (ended_first y (levels xs) (levels ys))
    at false is true also = rw (is, also) (ended_last x (levels xs) (levels ys))
    at false is false also = rw (is, also) (differing_front x y (levels xs) (levels ys) differ)

pub differ_at : (a b : List ℕ) (i : ℕ) → i < length a → i < length b → ((k : ℕ) → k < i → get_or a k 0 ≡ get_or b k 0) → get_or a i 0 ≢ get_or b i 0
    → topic_cmp a b ≡ differing_cmp (get_or a i 0) (get_or b i 0)
differ_at [] b i small also same differ = absurd (omega (arith, small))
differ_at (x ∷ xs) [] i small also same differ = absurd (omega (arith, also))
differ_at (x ∷ xs) (y ∷ ys) zero small also same differ = other_front x y xs ys differ
differ_at (x ∷ xs) (y ∷ ys) (suc i) small also same differ =
    rw (same 0 (omega arith)) (same_front y xs ys ∙ differ_at xs ys i (omega (arith, small)) (omega (arith, also)) (λ k h. same (suc k) (omega (arith, h))) differ)

longer_last : (y : ℕ) (ys : List ℕ) → topic_cmp [] (y ∷ ys) ≡ Less
longer_last y ys = at (y == slash) refl (levels ys) refl (some_level ys)
  where
    at : (b : Bool) → (y == slash) ≡ b → (q : List (List ℕ)) → levels ys ≡ q → is_end q ≡ false → topic_cmp [] (y ∷ ys) ≡ Less
    at b is [] e h = absurd cc
    at true is (q ∷ qs) e h = rw (is, e) refl
    at false is (q ∷ qs) e h = rw (is, e) refl

longer_first : (x : ℕ) (xs : List ℕ) → topic_cmp (x ∷ xs) [] ≡ Greater
longer_first x xs = at (x == slash) refl (levels xs) refl (some_level xs)
  where
    at : (b : Bool) → (x == slash) ≡ b → (p : List (List ℕ)) → levels xs ≡ p → is_end p ≡ false → topic_cmp (x ∷ xs) [] ≡ Greater
    at b is [] e h = absurd cc
    at true is (p ∷ ps) e h = rw (is, e) refl
    at false is (p ∷ ps) e h = rw (is, e) refl

one_more : (m n : ℕ) → nat_cmp m n ≡ nat_cmp (suc m) (suc n)
one_more m n = nat_cmp_is (suc m) (suc n) (nat_cmp m n) (at (nat_cmp m n) (ranked m n (nat_cmp m n) refl))
  where
    at : (o : Ordering) → MatchOrdering o (m < n) (m ≡ n) (n < m) → MatchOrdering o (suc m < suc n) (suc m ≡ suc n) (suc n < suc m)
    at Less h = omega (arith, h)
    at Equal h = omega (arith, h)
    at Greater h = omega (arith, h)

pub differ_nowhere : (a b : List ℕ) → ((k : ℕ) → k < length a → k < length b → get_or a k 0 ≡ get_or b k 0) → topic_cmp a b ≡ nat_cmp (length a) (length b)
differ_nowhere [] [] same = refl
differ_nowhere [] (y ∷ ys) same = longer_last y ys ∙ nat_cmp_is 0 (length (y ∷ ys)) Less (omega arith)
differ_nowhere (x ∷ xs) [] same = longer_first x xs ∙ nat_cmp_is (length (x ∷ xs)) 0 Greater (omega arith)
differ_nowhere (x ∷ xs) (y ∷ ys) same =
    rw (same 0 (omega arith) (omega arith)) (same_front y xs ys ∙ (differ_nowhere xs ys (λ k h i. same (suc k) (omega (arith, h)) (omega (arith, i))) ∙ one_more (length xs) (length ys)))
