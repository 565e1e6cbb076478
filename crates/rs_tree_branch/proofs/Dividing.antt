-- Chunks of children that are divided.
use Rattle.std.proofs.Common.{◌≡◌, ◌≢◌, ℕ, zero, suc, ◌+◌, ◌<◌, Bool, true, false, List, [], ◌∷◌, ◌++◌, length, get_or, take, drop, refl, sym, ap, subst, ◌∙◌, arith, append_assoc, add-one}
use Rattle.std.proofs.lemmas.List.{append-nil}
use Rattle.std.specs.Prelude.{IsTrue, slice_set}
use Rattle.std.specs.List.{insert}
use Rattle.std.specs.declared.cmp.Ordering.{Ordering}
use Rattle.std.specs.declared.cmp.Ordering.TheVariants.{Less, Equal, Greater}
use Rattle.rs_topic.specs.Order.{path_cmp}
use Rattle.rs_topic.specs.TopicOrder.{exact_paths, path_total}
use Rattle.rs_tree_bucket.specs.Spots.{IsFull, under}
use Rattle.rs_tree_branch.proofs.Stems.{full_under}
use Rattle.rs_tree_branch.specs.Chunks.{AreHalves, IsBefore, IsChunk, IsFrom, IsUpTo, parts}
use Rattle.rs_tree_branch.specs.Values.{ChildValue}
use Rattle.rs_tree_bucket.proofs.Spots.{Spots, Path}
use Rattle.rs_tree_branch.proofs.Under.{level_cmp}
use Rattle.rs_tree_branch.proofs.Chunks.{IsReached, back, between, level_not, parts_split, reached_first, takes_reached}

-- ---- one child

pub from_under : (k : List ℕ) (w : Spots) → IsFrom k (under k w)
from_under k [] = tt
from_under k (s ∷ w) = (takes_reached false k k s.0 refl, from_under k w)

pub chunk_single : (k : List ℕ) (w : Spots) (c : ChildValue) (cs : List ChildValue) → cs ≡ c ∷ [] → c.level ≡ k → c.spots ≡ under k w → IsFull w → IsChunk cs
chunk_single k w c cs one lv is full = rw (one, lv, is) (full_under k w full, from_under k w, tt, tt)

pub parts_single : (c : ChildValue) (cs : List ChildValue) → cs ≡ c ∷ [] → parts cs ≡ c.spots
parts_single c cs one = rw one (append-nil c.spots)

-- ---- a front and a rear

pub from_front : (k : List ℕ) (xs ys : Spots) → IsFrom k (xs ++ ys) → IsFrom k xs
from_front k [] ys f = tt
from_front k (x ∷ xs) ys f = (f.0, from_front k xs ys f.1)

pub up_to_front : (k : List ℕ) (xs ys : Spots) → IsUpTo k (xs ++ ys) → IsUpTo k xs
up_to_front k [] ys f = tt
up_to_front k (x ∷ xs) ys f = (f.0, up_to_front k xs ys f.1)

pub up_to_rear : (k : List ℕ) (xs ys : Spots) → IsUpTo k (xs ++ ys) → IsUpTo k ys
up_to_rear k [] ys f = f
up_to_rear k (x ∷ xs) ys f = up_to_rear k xs ys f.1

pub up_to_both : (k : List ℕ) (xs ys : Spots) → IsUpTo k xs → IsUpTo k ys → IsUpTo k (xs ++ ys)
up_to_both k [] ys f g = g
up_to_both k (x ∷ xs) ys f g = (f.0, up_to_both k xs ys f.1 g)

from_both : (k : List ℕ) (xs ys : Spots) → IsFrom k xs → IsFrom k ys → IsFrom k (xs ++ ys)
from_both k [] ys f g = g
from_both k (x ∷ xs) ys f g = (f.0, from_both k xs ys f.1 g)

full_front : (xs ys : Spots) → IsFull xs → IsFull (xs ++ ys)
full_front [] ys full = absurd full
full_front (x ∷ xs) ys full = tt

before_rear : (xs ys : Spots) (cs : List ChildValue) → IsBefore (xs ++ ys) cs → IsBefore ys cs
before_rear xs ys [] b = tt
before_rear xs ys (c ∷ cs) b = up_to_rear c.level xs ys b

before_take : (w : Spots) (cs : List ChildValue) (i : ℕ) → IsBefore w cs → IsBefore w (take i cs)
before_take w cs zero b = tt
before_take w [] (suc i) b = tt
before_take w (c ∷ cs) (suc i) b = b

pub chunk_take : (cs : List ChildValue) (i : ℕ) → IsChunk cs → IsChunk (take i cs)
chunk_take cs zero r = tt
chunk_take [] (suc i) r = tt
chunk_take (c ∷ cs) (suc i) r = (r.0, r.1, before_take c.spots cs i r.2, chunk_take cs i r.3)

-- ---- levels rise

-- a is not before k, and is before b
rises : (a k b : Path) → path_cmp a k ≢ Less → path_cmp a b ≡ Less → path_cmp k b ≡ Less
rises a k b n l = at (path_cmp k b) refl
  where
    at : (o : Ordering) → path_cmp k b ≡ o → path_cmp k b ≡ Less
    at Less is = is
    at Equal is = absurd (n (let P : Path → Type 0 = λ w. path_cmp a w ≡ Less in subst P (sym (exact_paths k b is)) l))
    at Greater is = absurd (n (path_total.trans a b k l (back k b is)))

pub level_rises : (k n : List ℕ) (w : Spots) → IsFull w → IsFrom k w → IsUpTo n w → path_cmp (k ∷ []) (n ∷ []) ≡ Less
level_rises k n [] full f u = absurd full
level_rises k n (s ∷ w) full f u = rises s.0 (k ∷ []) (n ∷ []) f.0 u.0

-- from a level on, if the first child is
from_lower : (k n : List ℕ) (w : Spots) → path_cmp (n ∷ []) (k ∷ []) ≢ Less → IsFrom n w → IsFrom k w
from_lower k n [] not f = tt
from_lower k n (s ∷ w) not f = (λ l. f.0 (between s.0 (k ∷ []) (n ∷ []) l not), from_lower k n w not f.1)

abbrev pub Starts : List ℕ → List ChildValue → Type 0
Starts k [] = Unit {0}
Starts k (c ∷ cs) = path_cmp (c.level ∷ []) (k ∷ []) ≢ Less

pub from_all : (k : List ℕ) (cs : List ChildValue) → IsChunk cs → Starts k cs → IsFrom k (parts cs)
from_all k [] r s = tt
from_all k (c ∷ cs) r s = from_both k c.spots (parts cs) (from_lower k c.level c.spots s r.1) (from_all k cs r.3 (next cs r.2))
  where
    next : (cs : List ChildValue) → IsBefore c.spots cs → Starts k cs
    next [] b = tt
    next (d ∷ cs) b = λ l. s (path_total.trans (c.level ∷ []) (d.level ∷ []) (k ∷ []) (level_rises c.level d.level c.spots r.0 r.1 b) l)

pub from_least : (cs : List ChildValue) → IsChunk cs → IsFrom [] (parts cs)
from_least cs r = from_all [] cs r (starts cs)
  where
    not_less : (k : List ℕ) → level_cmp k [] ≢ Less
    not_less [] h = absurd (cc (h))
    not_less (x ∷ k) h = absurd (cc (h))

    starts : (cs : List ChildValue) → Starts [] cs
    starts [] = tt
    starts (c ∷ cs) = level_not c.level [] [] (not_less c.level)

pub up_to_wider : (k n : List ℕ) (w : Spots) → path_cmp (n ∷ []) (k ∷ []) ≢ Less → IsUpTo k w → IsUpTo n w
up_to_wider k n [] not u = tt
up_to_wider k n (s ∷ w) not u = (between s.0 (k ∷ []) (n ∷ []) u.0 not, up_to_wider k n w not u.1)

itself_reached : (cs : List ChildValue) (i : ℕ) (d : ChildValue) → i < length cs → IsReached ((get_or (drop i cs) 0 d).level ∷ []) cs i
itself_reached [] i d small = absurd (omega (arith, small))
itself_reached (c ∷ cs) zero d small = takes_reached false c.level c.level [] refl
itself_reached (c ∷ cs) (suc i) d small = itself_reached cs i d (omega (arith, small))

pub up_to_all : (cs : List ChildValue) (i : ℕ) (d : ChildValue) → i < length cs → IsChunk cs → IsUpTo (get_or (drop i cs) 0 d).level (parts (take i cs))
up_to_all cs zero d small r = tt
up_to_all [] (suc i) d small r = absurd (omega (arith, small))
up_to_all (c ∷ []) (suc i) d small r = absurd (omega (arith, small))
up_to_all (c ∷ e ∷ cs) (suc i) d small r =
    let n : List ℕ = (get_or (drop i (e ∷ cs)) 0 d).level in
    up_to_both n c.spots (parts (take i (e ∷ cs)))
    (up_to_wider e.level n c.spots (reached_first (n ∷ []) (e ∷ cs) i r.3 (itself_reached (e ∷ cs) i d (omega (arith, small)))) r.2)
    (up_to_all (e ∷ cs) i d (omega (arith, small)) r.3)

-- ---- halves

pub full_parts : (cs : List ChildValue) → IsChunk cs → 0 < length cs → IsFull (parts cs)
full_parts [] r some = absurd (omega (arith, some))
full_parts (c ∷ cs) r some = full_front c.spots (parts cs) r.0

full_take : (cs : List ChildValue) (i : ℕ) → IsChunk cs → 0 < i → 0 < length cs → IsFull (parts (take i cs))
full_take cs zero r more some = absurd (omega (arith, more))
full_take [] (suc i) r more some = absurd (omega (arith, some))
full_take (c ∷ cs) (suc i) r more some = full_front c.spots (parts (take i cs)) r.0

full_drop : (cs : List ChildValue) (i : ℕ) → IsChunk cs → i < length cs → IsFull (parts (drop i cs))
full_drop cs zero r small = full_parts cs r small
full_drop [] (suc i) r small = absurd (omega (arith, small))
full_drop (c ∷ cs) (suc i) r small = full_drop cs i r.3 (omega (arith, small))

from_first : (cs : List ChildValue) (i : ℕ) (d : ChildValue) → i < length cs → IsChunk cs → IsFrom (get_or (drop i cs) 0 d).level (parts (drop i cs))
from_first [] i d small r = absurd (omega (arith, small))
from_first (c ∷ cs) zero d small r = from_all c.level (c ∷ cs) r (takes_reached false c.level c.level [] refl)
from_first (c ∷ cs) (suc i) d small r = from_first cs i d (omega (arith, small)) r.3

pub are_halves : (first : List ℕ) (cs : List ChildValue) (i : ℕ) (d : ChildValue) (low high : ChildValue) → IsChunk cs → IsFrom first (parts cs) → 0 < i → i < length cs
    → low.level ≡ first → low.spots ≡ parts (take i cs) → high.level ≡ (get_or (drop i cs) 0 d).level → high.spots ≡ parts (drop i cs) → AreHalves first (parts cs) low high
are_halves first cs i d low high r start more small level low_is above high_is = record {
  level = level;
  start = rw low_is (from_front first (parts (take i cs)) (parts (drop i cs)) (let P : Spots → Type 0 = λ w. IsFrom first w in subst P (parts_split cs i) start));
  whole = rw (low_is, high_is) (sym (parts_split cs i));
  some = rw low_is (full_take cs i r more (omega (arith, small)));
  more = rw high_is (full_drop cs i r small);
  before = rw (low_is, above) (up_to_all cs i d small r);
  from = rw (high_is, above) (from_first cs i d small r);
}

-- ---- two children in the place of one

pub parts_divided : (cs : List ChildValue) (i : ℕ) (c low high : ChildValue) → i < length cs → c ≡ get_or cs i c → low.spots ++ high.spots ≡ c.spots → parts (slice_set (insert cs (suc i) high) i low) ≡ parts cs
parts_divided [] i c low high small is whole = absurd (omega (arith, small))
parts_divided (d ∷ cs) zero c low high small is whole =
    sym (append_assoc low.spots high.spots (parts cs)) ∙ ap (λ (w : Spots). w ++ parts cs) (whole ∙ ap (λ (w : ChildValue). w.spots) is)
parts_divided (d ∷ cs) (suc i) c low high small is whole = ap (λ (w : Spots). d.spots ++ w) (parts_divided cs i c low high (omega (arith, small)) is whole)

before_divided : (w : Spots) (cs : List ChildValue) (i : ℕ) (c low high : ChildValue) → i < length cs → c ≡ get_or cs i c → low.level ≡ c.level → IsBefore w cs → IsBefore w (slice_set (insert cs (suc i) high) i low)
before_divided w [] i c low high small is lv b = absurd (omega (arith, small))
before_divided w (d ∷ cs) zero c low high small is lv b = let P : List ℕ → Type 0 = λ k. IsUpTo k w in subst P (sym (lv ∙ ap (λ (x : ChildValue). x.level) is)) b
before_divided w (d ∷ cs) (suc i) c low high small is lv b = b

pub chunk_divided : (cs : List ChildValue) (i : ℕ) (c low high : ChildValue) → i < length cs → c ≡ get_or cs i c → IsChunk cs → AreHalves c.level c.spots low high → IsChunk (slice_set (insert cs (suc i) high) i low)
chunk_divided [] i c low high small is r h = absurd (omega (arith, small))
chunk_divided (d ∷ cs) zero c low high small is r h =
    let whole : d.spots ≡ low.spots ++ high.spots = sym (h.whole ∙ ap (λ (w : ChildValue). w.spots) is) in
    let behind : IsBefore high.spots cs = before_rear low.spots high.spots cs (let P : Spots → Type 0 = λ w. IsBefore w cs in subst P whole r.2) in
    (h.some, (let P : List ℕ → Type 0 = λ k. IsFrom k low.spots in subst P (sym h.level) h.start), h.before, (h.more, h.from, behind, r.3))
chunk_divided (d ∷ cs) (suc i) c low high small is r h =
    (r.0, r.1, before_divided d.spots cs i c low high (omega (arith, small)) is h.level r.2, chunk_divided cs i c low high (omega (arith, small)) is r.3 h)

pub chunk_two : (first : List ℕ) (w : Spots) (low high : ChildValue) (cs : List ChildValue) → cs ≡ low ∷ high ∷ [] → AreHalves first w low high → IsChunk cs
chunk_two first w low high cs two h = rw two (h.some, (let P : List ℕ → Type 0 = λ k. IsFrom k low.spots in subst P (sym h.level) h.start), h.before, (h.more, h.from, tt, tt))

pub parts_two : (first : List ℕ) (w : Spots) (low high : ChildValue) (cs : List ChildValue) → cs ≡ low ∷ high ∷ [] → AreHalves first w low high → parts cs ≡ w
parts_two first w low high cs two h = rw two (ap (λ (x : Spots). low.spots ++ x) (append-nil high.spots) ∙ h.whole)

module _ (cs new : List ChildValue) (i : ℕ) (c low high : ChildValue) (small : i < length cs) (is : c ≡ get_or cs i c) (r : IsChunk cs) (h : AreHalves c.level c.spots low high) where
  as_suc : new ≡ slice_set (insert cs (i + 1) high) i low → new ≡ slice_set (insert cs (suc i) high) i low
  as_suc put = put ∙ ap (λ (n : ℕ). slice_set (insert cs n high) i low) (add-one i)

  pub divided : (b : Bool) → (IsTrue b → new ≡ slice_set (insert cs (i + 1) high) i low) → (b ≡ false → new ≡ cs) → IsChunk new × (parts new ≡ parts cs)
  divided true done unchanged = (
    let P : List ChildValue → Type 0 = λ w. IsChunk w in subst P (sym (as_suc (done refl))) (chunk_divided cs i c low high small is r h),
    ap parts (as_suc (done refl)) ∙ parts_divided cs i c low high small is h.whole,
  )
  divided false done unchanged = (let P : List ChildValue → Type 0 = λ w. IsChunk w in subst P (sym (unchanged refl)) r, ap parts (unchanged refl))
