-- Where a path belongs among the children of a branch.
use Rattle.rs_tree_branch.proofs.Under.{found_one, level_cmp}
use Rattle.rs_tree_bucket.proofs.Spots.{Spots, Path}
use Rattle.std.proofs.Common.{◌≡◌, ◌≢◌, ℕ, zero, suc, ◌+◌, ◌<◌, ◌≤◌, Bool, true, false, List, [], ◌∷◌, ◌++◌, length, get_or, take, drop, refl, sym, ap, subst, ◌∙◌, arith, append_assoc, add-one, Option, Some, None}
use Rattle.std.specs.declared.cmp.Ordering.{Ordering}
use Rattle.std.specs.declared.cmp.Ordering.TheVariants.{Less, Equal, Greater}
use Rattle.std.proofs.lemmas.Cmp.{nat_list_cmp_total, tied_itself}
use Rattle.std.proofs.lemmas.Map.Lookups.{exact_bytes}
use Rattle.rs_message.specs.declared.found.Found.{Found}
use Rattle.rs_topic.specs.Order.{path_cmp}
use Rattle.rs_topic.specs.TopicOrder.{exact_paths, path_total}
use Rattle.rs_tree_bucket.specs.Spots.{IsFull, found_at, under}
use Rattle.rs_tree_branch.specs.Spots.{own}
use Rattle.rs_tree_branch.specs.Chunks.{IsBehind, IsChunk, IsEdge, IsFrom, IsGap, IsIn, IsNotBefore, IsPreceding, IsUpTo, Leads, LeadsAs, Passes, Takes, TakesAs, depth, parts}
use Rattle.rs_tree_branch.specs.Values.{ChildValue}

-- ---- the order of paths

pub flip : (a b : Path) → path_cmp a b ≡ Less → path_cmp b a ≡ Greater
flip a b is = let h = path_total.antisymm b a in rw is at h

pub back : (a b : Path) → path_cmp a b ≡ Greater → path_cmp b a ≡ Less
back a b is = at (path_cmp b a) refl (path_total.antisymm a b)
  where
    at : (o : Ordering) → path_cmp b a ≡ o → path_cmp a b ≡ Rattle.std.specs.Ordering.ordering_reverse (path_cmp b a) → path_cmp b a ≡ Less
    at Less e h = e
    at Equal e h = absurd (cc (is, rw e at h))
    at Greater e h = absurd (cc (is, rw e at h))

-- a is before k, and b is not
pub between : (a k b : Path) → path_cmp a k ≡ Less → path_cmp b k ≢ Less → path_cmp a b ≡ Less
between a k b la nb = at (path_cmp a b) refl
  where
    at : (o : Ordering) → path_cmp a b ≡ o → path_cmp a b ≡ Less
    at Less is = is
    at Equal is = absurd (nb (let P : Path → Type 0 = λ w. path_cmp w k ≡ Less in subst P (exact_paths a b is) la))
    at Greater is = absurd (nb (path_total.trans b a k (back a b is) la))

pub level_less : (q k : List ℕ) (p : Path) → level_cmp q k ≡ Less → path_cmp (q ∷ p) (k ∷ []) ≡ Less
level_less q k p is = rw is refl

pub level_not : (q k : List ℕ) (p : Path) → level_cmp q k ≢ Less → path_cmp (q ∷ p) (k ∷ []) ≢ Less
level_not q k p n h = at (level_cmp q k) refl p h
  where
    at : (o : Ordering) → level_cmp q k ≡ o → (p : Path) → path_cmp (q ∷ p) (k ∷ []) ≡ Less → ⊥
    at Less is p h = n is
    at Equal is [] h = cc (is, h)
    at Equal is (r ∷ p) h = cc (is, h)
    at Greater is p h = cc (is, h)

pub not_itself : (q k : List ℕ) → q ≡ k → level_cmp q k ≢ Less
not_itself q k same h = let e : level_cmp k k ≡ Less = (rw same at h) in cc (e, tied_itself nat_list_cmp_total k)

-- ---- what stands before a path, and behind it

abbrev pub Precedes : Path → Spots → Type 0
Precedes p [] = Unit {0}
Precedes p (s ∷ ss) = (path_cmp p s.0 ≡ Less) × Precedes p ss

pub behind_both : (p : Path) (xs ys : Spots) → IsBehind p xs → IsBehind p ys → IsBehind p (xs ++ ys)
behind_both p [] ys a b = b
behind_both p (x ∷ xs) ys a b = (a.0, behind_both p xs ys a.1 b)

pub preceding_both : (p : Path) (xs ys : Spots) → Precedes p xs → Precedes p ys → Precedes p (xs ++ ys)
preceding_both p [] ys a b = b
preceding_both p (x ∷ xs) ys a b = (a.0, preceding_both p xs ys a.1 b)

pub own_behind : (q : List ℕ) (p : Path) (retained : Option Found) → IsBehind (q ∷ p) (own retained)
own_behind q p None = tt
own_behind q p (Some f) = (refl, tt)

up_to_behind : (p : Path) (k : List ℕ) (ss : Spots) → path_cmp p (k ∷ []) ≢ Less → IsUpTo k ss → IsBehind p ss
up_to_behind p k [] n u = tt
up_to_behind p k (s ∷ ss) n u = (flip s.0 p (between s.0 (k ∷ []) p u.0 n), up_to_behind p k ss n u.1)

pub behind_up_to : (q : List ℕ) (ss : Spots) → IsBehind (q ∷ []) ss → IsUpTo q ss
behind_up_to q [] b = tt
behind_up_to q (s ∷ ss) b = (back (q ∷ []) s.0 b.0, behind_up_to q ss b.1)

from_preceding : (p : Path) (k : List ℕ) (ss : Spots) → path_cmp p (k ∷ []) ≡ Less → IsFrom k ss → Precedes p ss
from_preceding p k [] l f = tt
from_preceding p k (s ∷ ss) l f = (between p (k ∷ []) s.0 l f.0, from_preceding p k ss l f.1)

-- the path is before the first child
abbrev pub BeforeAll : Path → List ChildValue → Type 0
BeforeAll p [] = Unit {0}
BeforeAll p (c ∷ cs) = path_cmp p (c.level ∷ []) ≡ Less

over : (p : Path) (k n : List ℕ) (ss : Spots) → IsFull ss → IsFrom k ss → IsUpTo n ss → path_cmp p (k ∷ []) ≡ Less → path_cmp p (n ∷ []) ≡ Less
over p k n [] full f u l = absurd full
over p k n (s ∷ ss) full f u l = path_total.trans p s.0 (n ∷ []) (between p (k ∷ []) s.0 l f.0) u.0

pub before_next : (p : Path) (c : ChildValue) (cs : List ChildValue) → IsChunk (c ∷ cs) → path_cmp p (c.level ∷ []) ≡ Less → BeforeAll p cs
before_next p c [] r l = tt
before_next p c (d ∷ cs) r l = over p c.level d.level c.spots r.0 r.1 r.2 l

pub preceding_all : (p : Path) (cs : List ChildValue) → IsChunk cs → BeforeAll p cs → Precedes p (parts cs)
preceding_all p [] r a = tt
preceding_all p (c ∷ cs) r a = preceding_both p c.spots (parts cs) (from_preceding p c.level c.spots a r.1) (preceding_all p cs r.3 (before_next p c cs r a))

pub preceding_level : (q : List ℕ) (p : Path) (cs : List ChildValue) → IsPreceding q cs → BeforeAll (q ∷ p) cs
preceding_level q p [] a = tt
preceding_level q p (c ∷ cs) a = level_less q c.level p a

-- the path is not before the child at the index
abbrev pub IsReached : Path → List ChildValue → ℕ → Type 0
IsReached p [] i = ⊥
IsReached p (c ∷ cs) zero = path_cmp p (c.level ∷ []) ≢ Less
IsReached p (c ∷ cs) (suc i) = IsReached p cs i

pub reached_first : (p : Path) (cs : List ChildValue) (i : ℕ) → IsChunk cs → IsReached p cs i → IsReached p cs zero
reached_first p [] i r a = absurd a
reached_first p (c ∷ cs) zero r a = a
reached_first p (c ∷ []) (suc i) r a = absurd a
reached_first p (c ∷ d ∷ cs) (suc i) r a = λ l. reached_first p (d ∷ cs) i r.3 a (before_next p c (d ∷ cs) r l)

pub front_behind : (p : Path) (cs : List ChildValue) (i : ℕ) → IsChunk cs → IsReached p cs i → IsBehind p (parts (take i cs))
front_behind p [] i r a = absurd a
front_behind p (c ∷ cs) zero r a = tt
front_behind p (c ∷ []) (suc i) r a = absurd a
front_behind p (c ∷ d ∷ cs) (suc i) r a =
    behind_both p c.spots (parts (take i (d ∷ cs))) (up_to_behind p d.level c.spots (reached_first p (d ∷ cs) i r.3 a) r.2) (front_behind p (d ∷ cs) i r.3 a)

passed_reached : (p : Path) (k : List ℕ) (ss : Spots) → IsFull ss → IsFrom k ss → IsBehind p ss → path_cmp p (k ∷ []) ≢ Less
passed_reached p k [] full f b l = absurd full
passed_reached p k (s ∷ ss) full f b l = cc (between p (k ∷ []) s.0 l f.0, b.0)

-- ---- an edge

pub edge_at : (P : ChildValue → Type 0) (q : List ℕ) (cs : List ChildValue) (i : ℕ) (d : ChildValue) → IsEdge P q cs (suc i) → P (get_or cs i d)
edge_at P q [] i d e = absurd e
edge_at P q (c ∷ cs) zero d e = e.0
edge_at P q (c ∷ cs) (suc i) d e = edge_at P q cs i d e

pub edge_moved : (P Q : ChildValue → Type 0) (q : List ℕ) (cs : List ChildValue) (i : ℕ) (d : ChildValue) → Q (get_or cs i d) → IsEdge P q cs (suc i) → IsEdge Q q cs (suc i)
edge_moved P Q q [] i d h e = absurd e
edge_moved P Q q (c ∷ cs) zero d h e = (h, e.1)
edge_moved P Q q (c ∷ cs) (suc i) d h e = edge_moved P Q q cs i d h e

pub edge_small : (P : ChildValue → Type 0) (q : List ℕ) (cs : List ChildValue) (i : ℕ) → IsEdge P q cs i → i ≤ length cs
edge_small P q cs zero e = omega arith
edge_small P q [] (suc i) e = absurd e
edge_small P q (c ∷ cs) (suc zero) e = omega arith
edge_small P q (c ∷ cs) (suc (suc i)) e = omega (arith, edge_small P q cs (suc i) e)

edge_preceding : (P : ChildValue → Type 0) (q : List ℕ) (cs : List ChildValue) (i : ℕ) → IsEdge P q cs i → IsPreceding q (drop i cs)
edge_preceding P q cs zero e = e
edge_preceding P q [] (suc i) e = absurd e
edge_preceding P q (c ∷ cs) (suc zero) e = e.1
edge_preceding P q (c ∷ cs) (suc (suc i)) e = edge_preceding P q cs (suc i) e

pub chunk_drop : (cs : List ChildValue) (i : ℕ) → IsChunk cs → IsChunk (drop i cs)
chunk_drop cs zero r = r
chunk_drop [] (suc i) r = r
chunk_drop (c ∷ cs) (suc i) r = chunk_drop cs i r.3

pub rear_preceding : (P : ChildValue → Type 0) (q : List ℕ) (p : Path) (cs : List ChildValue) (i : ℕ) → IsChunk cs → IsEdge P q cs i → Precedes (q ∷ p) (parts (drop i cs))
rear_preceding P q p cs i r e = preceding_all (q ∷ p) (drop i cs) (chunk_drop cs i r) (preceding_level q p (drop i cs) (edge_preceding P q cs i e))

pub takes_reached : (b : Bool) (own q : List ℕ) (p : Path) → TakesAs b own q → path_cmp (q ∷ p) (own ∷ []) ≢ Less
takes_reached true own q p t = level_not q own p t
takes_reached false own q p t = level_not q own p (not_itself q own t)

pub in_reached : (q : List ℕ) (p : Path) (cs : List ChildValue) (i : ℕ) → IsIn q cs i → IsReached (q ∷ p) cs i
in_reached q p [] i e = absurd e
in_reached q p (c ∷ cs) zero e = takes_reached c.is_chunk c.level q p e.0
in_reached q p (c ∷ cs) (suc i) e = in_reached q p cs i e

gap_reached : (q : List ℕ) (p : Path) (cs : List ChildValue) (i : ℕ) → IsChunk cs → IsGap q cs (suc i) → IsReached (q ∷ p) cs i
gap_reached q p [] i r e = absurd e
gap_reached q p (c ∷ cs) zero r e = passed_reached (q ∷ p) c.level c.spots r.0 r.1 (e.0 p)
gap_reached q p (c ∷ cs) (suc i) r e = gap_reached q p cs i r.3 e

take_one : (p : Path) (cs : List ChildValue) (i : ℕ) (d : ChildValue) → i < length cs → IsBehind p (parts (take i cs)) → IsBehind p (get_or cs i d).spots → IsBehind p (parts (take (suc i) cs))
take_one p [] i d small a b = tt
take_one p (c ∷ cs) zero d small a b = behind_both p c.spots [] b tt
take_one p (c ∷ cs) (suc i) d small a b = behind_both p c.spots (parts (take (suc i) cs)) (first p c.spots (parts (take i cs)) a) (take_one p cs i d (omega (arith, small)) (second p c.spots (parts (take i cs)) a) b)
  where
    first : (p : Path) (xs ys : Spots) → IsBehind p (xs ++ ys) → IsBehind p xs
    first p [] ys h = tt
    first p (x ∷ xs) ys h = (h.0, first p xs ys h.1)

    second : (p : Path) (xs ys : Spots) → IsBehind p (xs ++ ys) → IsBehind p ys
    second p [] ys h = h
    second p (x ∷ xs) ys h = second p xs ys h.1

pub gap_behind : (q : List ℕ) (p : Path) (cs : List ChildValue) (i : ℕ) → IsChunk cs → IsGap q cs i → IsBehind (q ∷ p) (parts (take i cs))
gap_behind q p cs zero r e = tt
gap_behind q p [] (suc i) r e = absurd e
gap_behind q p (c ∷ cs) (suc i) r e =
    take_one (q ∷ p) (c ∷ cs) i c (omega (arith, edge_small (Passes q) q (c ∷ cs) (suc i) e)) (front_behind (q ∷ p) (c ∷ cs) i r (gap_reached q p (c ∷ cs) i r e)) (edge_at (Passes q) q (c ∷ cs) i c e p)

-- ---- a look among what stands before, what may be the spot, and what stands behind

found_none : (p : Path) (r : Spots) → Precedes p r → found_at p r ≡ None
found_none p [] a = refl
found_none p (s ∷ r) a = rw a.0 (found_none p r a.1)

found_front : (p : Path) (w r : Spots) → Precedes p r → found_at p (w ++ r) ≡ found_at p w
found_front p [] r a = found_none p r a
found_front p (s ∷ w) r a = at (path_cmp p s.0) refl (found_front p w r a)
  where
    at : (o : Ordering) → path_cmp p s.0 ≡ o → found_at p (w ++ r) ≡ found_at p w → found_at p (s ∷ w ++ r) ≡ found_at p (s ∷ w)
    at Less is more = rw is more
    at Equal is more = rw is refl
    at Greater is more = rw is more

found_rear : (p : Path) (l w : Spots) → IsBehind p l → found_at p (l ++ w) ≡ found_at p w
found_rear p [] w b = refl
found_rear p (s ∷ l) w b = rw b.0 (found_rear p l w b.1)

pub found_mid : (p : Path) (l w r : Spots) → IsBehind p l → Precedes p r → found_at p (l ++ (w ++ r)) ≡ found_at p w
found_mid p l w r b a = found_rear p l (w ++ r) b ∙ found_front p w r a

-- ---- the parts around an index

pub parts_split : (cs : List ChildValue) (i : ℕ) → parts cs ≡ parts (take i cs) ++ parts (drop i cs)
parts_split cs zero = refl
parts_split [] (suc i) = refl
parts_split (c ∷ cs) (suc i) = ap (λ (w : Spots). c.spots ++ w) (parts_split cs i) ∙ sym (append_assoc c.spots (parts (take i cs)) (parts (drop i cs)))

pub parts_at : (cs : List ChildValue) (i : ℕ) (d : ChildValue) → i < length cs → parts (drop i cs) ≡ (get_or cs i d).spots ++ parts (drop (suc i) cs)
parts_at [] i d small = absurd (omega (arith, small))
parts_at (c ∷ cs) zero d small = refl
parts_at (c ∷ cs) (suc i) d small = parts_at cs i d (omega (arith, small))

pub around : (h l a w r : Spots) → a ≡ l ++ (w ++ r) → h ++ a ≡ (h ++ l) ++ (w ++ r)
around h l a w r is = ap (λ (x : Spots). h ++ x) is ∙ sym (append_assoc h l (w ++ r))

pub split_at : (retained : Option Found) (cs : List ChildValue) (i : ℕ) (d : ChildValue) → i < length cs
    → own retained ++ parts cs ≡ (own retained ++ parts (take i cs)) ++ ((get_or cs i d).spots ++ parts (drop (suc i) cs))
split_at retained cs i d small = around (own retained) (parts (take i cs)) (parts cs) (get_or cs i d).spots (parts (drop (suc i) cs)) (parts_split cs i ∙ ap (λ (w : Spots). parts (take i cs) ++ w) (parts_at cs i d small))

pub split_gap : (retained : Option Found) (cs : List ChildValue) (i : ℕ) → own retained ++ parts cs ≡ (own retained ++ parts (take i cs)) ++ parts (drop i cs)
split_gap retained cs i = ap (λ (w : Spots). own retained ++ w) (parts_split cs i) ∙ sym (append_assoc (own retained) (parts (take i cs)) (parts (drop i cs)))

takes_leads : (b : Bool) (own q : List ℕ) (p : Path) → TakesAs b own q → LeadsAs b own (q ∷ p) p
takes_leads true own q p t = tt
takes_leads false own q p t = ap (λ (k : List ℕ). k ∷ p) t

pub deep_at : (cs : List ChildValue) (i : ℕ) (d : ChildValue) → i < length cs → (get_or cs i d).depth + 1 ≤ depth cs
deep_at [] i d small = absurd (omega (arith, small))
deep_at (c ∷ cs) zero d small = omega arith
deep_at (c ∷ cs) (suc i) d small = omega (arith, deep_at cs i d (omega (arith, small)))

pub deep_child : (cs : List ChildValue) (i : ℕ) (c : ChildValue) → i < length cs → c ≡ get_or cs i c → c.depth + 1 ≤ depth cs
deep_child cs i c small is = let P : ChildValue → Type 0 = λ w. w.depth + 1 ≤ depth cs in subst P (sym is) (deep_at cs i c small)

-- ---- a look-up, as the calls say it

module _ (retained : Option Found) (cs : List ChildValue) (r : IsChunk cs) (q : List ℕ) (p : Path) where
  pub in_front : (i : ℕ) → IsIn q cs i → IsBehind (q ∷ p) (own retained ++ parts (take i cs))
  in_front i e = behind_both (q ∷ p) (own retained) (parts (take i cs)) (own_behind q p retained) (front_behind (q ∷ p) cs i r (in_reached q p cs i e))

  pub in_rear : (i : ℕ) → IsIn q cs i → Precedes (q ∷ p) (parts (drop (suc i) cs))
  in_rear i e = rear_preceding (Takes q) q p cs (suc i) r e

  pub gap_front : (i : ℕ) → IsGap q cs i → IsBehind (q ∷ p) (own retained ++ parts (take i cs))
  gap_front i e = behind_both (q ∷ p) (own retained) (parts (take i cs)) (own_behind q p retained) (gap_behind q p cs i r e)

  pub gap_rear : (i : ℕ) → IsGap q cs i → Precedes (q ∷ p) (parts (drop i cs))
  gap_rear i e = rear_preceding (Passes q) q p cs i r e

  pub found_in : (i : ℕ) (d : ChildValue) → i < length cs → IsIn q cs i → found_at (q ∷ p) (own retained ++ parts cs) ≡ found_at (q ∷ p) (get_or cs i d).spots
  found_in i d small e = rw (split_at retained cs i d small) (found_mid (q ∷ p) (own retained ++ parts (take i cs)) (get_or cs i d).spots (parts (drop (suc i) cs)) (in_front i e) (in_rear i e))

  pub found_child : (i : ℕ) (c : ChildValue) → i < length cs → IsIn q cs i → c ≡ get_or cs i c → found_at (q ∷ p) c.spots ≡ found_at (q ∷ p) (own retained ++ parts cs)
  found_child i c small e is = ap (λ (w : ChildValue). found_at (q ∷ p) w.spots) is ∙ sym (found_in i c small e)

  pub leads_child : (i : ℕ) (c : ChildValue) → IsIn q cs i → c ≡ get_or cs i c → Leads c (q ∷ p) p
  leads_child i c e is = takes_leads c.is_chunk c.level q p (let P : ChildValue → Type 0 = λ w. Takes q w in subst P (sym is) (edge_at (Takes q) q cs i c e))

  pub found_gap : (i : ℕ) → IsGap q cs i → found_at (q ∷ p) (own retained ++ parts cs) ≡ None
  found_gap i e = rw (split_gap retained cs i) (found_rear (q ∷ p) (own retained ++ parts (take i cs)) (parts (drop i cs)) (gap_front i e) ∙ found_none (q ∷ p) (parts (drop i cs)) (gap_rear i e))

-- at the spot itself is only its own message
pub found_own : (retained : Option Found) (cs : List ChildValue) → IsChunk cs → found_at [] (own retained ++ parts cs) ≡ retained
found_own retained cs r = found_front [] (own retained) (parts cs) (preceding_all [] cs r (first cs)) ∙ alone retained
  where
    first : (cs : List ChildValue) → BeforeAll [] cs
    first [] = tt
    first (c ∷ cs) = refl

    alone : (retained : Option Found) → found_at [] (own retained) ≡ retained
    alone None = refl
    alone (Some f) = refl

-- ---- the search for an index

abbrev pub IsLow : List ℕ → List ChildValue → ℕ → Type 0
IsLow q cs zero = Unit {0}
IsLow q [] (suc i) = ⊥
IsLow q (c ∷ cs) (suc zero) = IsNotBefore q c
IsLow q (c ∷ cs) (suc (suc i)) = IsLow q cs (suc i)

abbrev pub IsHigh : List ℕ → List ChildValue → ℕ → Type 0
IsHigh q cs zero = IsPreceding q cs
IsHigh q [] (suc i) = Unit {0}
IsHigh q (c ∷ cs) (suc i) = IsHigh q cs i

pub high_end : (q : List ℕ) (cs : List ChildValue) → IsHigh q cs (length cs)
high_end q [] = tt
high_end q (c ∷ cs) = high_end q cs

pub low_at : (q : List ℕ) (cs : List ChildValue) (i : ℕ) (d : ChildValue) → i < length cs → IsNotBefore q (get_or cs i d) → IsLow q cs (suc i)
low_at q [] i d small h = absurd (omega (arith, small))
low_at q (c ∷ cs) zero d small h = h
low_at q (c ∷ cs) (suc i) d small h = low_at q cs i d (omega (arith, small)) h

pub high_at : (q : List ℕ) (cs : List ChildValue) (i : ℕ) (d : ChildValue) → i < length cs → level_cmp q (get_or cs i d).level ≡ Less → IsHigh q cs i
high_at q [] i d small h = absurd (omega (arith, small))
high_at q (c ∷ cs) zero d small h = h
high_at q (c ∷ cs) (suc i) d small h = high_at q cs i d (omega (arith, small)) h

pub edge_between : (q : List ℕ) (cs : List ChildValue) (i : ℕ) → IsLow q cs i → IsHigh q cs i → IsEdge (IsNotBefore q) q cs i
edge_between q cs zero l h = h
edge_between q [] (suc i) l h = absurd l
edge_between q (c ∷ cs) (suc zero) l h = (l, h)
edge_between q (c ∷ cs) (suc (suc i)) l h = edge_between q cs (suc i) l h

-- ---- a child beside a level

pub under_behind : (q k : List ℕ) (p : Path) (w : Spots) → level_cmp q k ≡ Greater → IsBehind (q ∷ p) (under k w)
under_behind q k p [] g = tt
under_behind q k p (s ∷ ss) g = (rw g refl, under_behind q k p ss g)

not_same : (q k : List ℕ) → q ≢ k → level_cmp q k ≢ Less → level_cmp q k ≡ Greater
not_same q k other n = at (level_cmp q k) refl
  where
    at : (o : Ordering) → level_cmp q k ≡ o → level_cmp q k ≡ Greater
    at Less e = absurd (n e)
    at Greater e = e
    at Equal e = absurd (other (exact_bytes q k e))

pub passed_under : (q k : List ℕ) (w : Spots) → q ≢ k → level_cmp q k ≢ Less → (p : Path) → IsBehind (q ∷ p) (under k w)
passed_under q k w other n p = under_behind q k p w (not_same q k other n)

-- ---- the same as the calls say it

pub low_step : (q : List ℕ) (cs : List ChildValue) (i n : ℕ) (c : ChildValue) → n ≡ i + 1 → i < length cs → c ≡ get_or cs i c → level_cmp q c.level ≢ Less → IsLow q cs n
low_step q cs i n c e small is not =
    let here : IsNotBefore q (get_or cs i c) = (let P : ChildValue → Type 0 = λ w. IsNotBefore q w in subst P is not) in
    let P : ℕ → Type 0 = λ m. IsLow q cs m in subst P (sym (e ∙ add-one i)) (low_at q cs i c small here)

pub high_step : (q : List ℕ) (cs : List ChildValue) (i : ℕ) (c : ChildValue) → i < length cs → c ≡ get_or cs i c → level_cmp q c.level ≡ Less → IsHigh q cs i
high_step q cs i c small is less = high_at q cs i c small (let P : ChildValue → Type 0 = λ w. level_cmp q w.level ≡ Less in subst P is less)

pub edge_end : (q : List ℕ) (cs : List ChildValue) (i j : ℕ) → j ≡ i → IsLow q cs i → IsHigh q cs j → IsEdge (IsNotBefore q) q cs i
edge_end q cs i j e l h = edge_between q cs i l (let P : ℕ → Type 0 = λ m. IsHigh q cs m in subst P e h)

module _ (q : List ℕ) (cs : List ChildValue) (i j : ℕ) (c : ChildValue) (e : i ≡ j + 1) (edge : IsEdge (IsNotBefore q) q cs i) (is : c ≡ get_or cs j c) where
  edge_suc : IsEdge (IsNotBefore q) q cs (suc j)
  edge_suc = let P : ℕ → Type 0 = λ m. IsEdge (IsNotBefore q) q cs m in subst P (e ∙ add-one j) edge

  pub index_not : IsNotBefore q c
  index_not = let P : ChildValue → Type 0 = λ w. IsNotBefore q w in subst P (sym is) (edge_at (IsNotBefore q) q cs j c edge_suc)

  pub index_in : Takes q c → IsIn q cs j
  index_in t = edge_moved (IsNotBefore q) (Takes q) q cs j c (let P : ChildValue → Type 0 = λ w. Takes q w in subst P is t) edge_suc

  pub index_gap : Passes q c → IsGap q cs i
  index_gap p =
      let moved : IsGap q cs (suc j) = edge_moved (IsNotBefore q) (Passes q) q cs j c (let P : ChildValue → Type 0 = λ w. Passes q w in subst P is p) edge_suc in
      let P : ℕ → Type 0 = λ m. IsGap q cs m in subst P (sym (e ∙ add-one j)) moved

-- ---- a child that is named

-- a child whose messages reach from its level up to the next one
rises : (k n : List ℕ) (ss : Spots) → IsFull ss → IsFrom k ss → IsUpTo n ss → level_cmp k n ≡ Less
rises k n [] full f u = absurd full
rises k n (s ∷ ss) full f u = at (level_cmp k n) refl
  where
    not : level_cmp k n ≢ Less → ⊥
    not nl = f.0 (between s.0 (n ∷ []) (k ∷ []) u.0 (level_not k n [] nl))

    at : (o : Ordering) → level_cmp k n ≡ o → level_cmp k n ≡ Less
    at Less e = e
    at Equal e = absurd (not (λ h. cc (e, h)))
    at Greater e = absurd (not (λ h. cc (e, h)))

named_at : (q : List ℕ) (cs : List ChildValue) (i : ℕ) (c : ChildValue) → IsChunk cs → i < length cs → Takes q (get_or cs i c) → q ≡ (get_or cs i c).level → IsIn q cs i
named_at q [] i c r small t e = absurd (omega (arith, small))
named_at q (d ∷ []) zero c r small t e = (t, tt)
named_at q (d ∷ n ∷ cs) zero c r small t e = (t, let P : List ℕ → Type 0 = λ w. level_cmp w n.level ≡ Less in subst P (sym e) (rises d.level n.level d.spots r.0 r.1 r.2))
named_at q (d ∷ cs) (suc i) c r small t e = named_at q cs i c r.3 (omega (arith, small)) t e

pub named_in : (q : List ℕ) (cs : List ChildValue) (i : ℕ) (c : ChildValue) → IsChunk cs → i < length cs → c ≡ get_or cs i c → Takes q c → q ≡ c.level → IsIn q cs i
named_in q cs i c r small is t e =
    named_at q cs i c r small (let P : ChildValue → Type 0 = λ w. Takes q w in subst P is t) (e ∙ ap (λ (w : ChildValue). w.level) is)

-- ---- one child, below its level

pub found_under : (k : List ℕ) (p path : Path) (w : Spots) → path ≡ k ∷ p → found_at p w ≡ found_at path (under k w)
found_under k p path w is = rw is (sym (found_one k p w))
