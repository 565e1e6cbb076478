-- How the messages of a branch change when one comes.
use Rattle.std.proofs.Common.{◌≡◌, ◌≢◌, ℕ, zero, suc, ◌<◌, ◌≤◌, Bool, false, List, [], ◌∷◌, ◌++◌, length, get_or, take, drop, refl, sym, ap, subst, ◌∙◌, arith, append_assoc, Option, Some, None, Result, Ok, Err}
use Rattle.std.specs.Prelude.{IfOk, OnErr, OnOk, slice_set}
use Rattle.std.specs.List.{insert}
use Rattle.std.specs.Ordering.{match_ordering}
use Rattle.std.specs.BTreeMap.{insert_entry}
use Rattle.std.specs.declared.cmp.Ordering.{Ordering}
use Rattle.std.specs.declared.cmp.Ordering.TheVariants.{Less, Equal, Greater}
use Rattle.rs_message.specs.declared.found.Found.{Found}
use Rattle.rs_topic.specs.Order.{path_cmp}
use Rattle.rs_tree_bucket.specs.Spots.{IsFull, found_at, under}
use Rattle.rs_tree_branch.specs.Spots.{own}
use Rattle.rs_tree_branch.proofs.Under.{was_by, full_insert, level_cmp}
use Rattle.rs_tree_bucket.proofs.Spots.{Spots, Path}
use Rattle.rs_tree_branch.proofs.Stems.{insert_all}
use Rattle.rs_tree_branch.specs.Chunks.{IsBefore, IsBehind, IsChunk, IsEdge, IsFrom, IsGap, IsIn, IsPreceding, IsUpTo, Takes, parts}
use Rattle.rs_tree_branch.specs.Values.{ChildValue}
use Rattle.rs_tree_branch.proofs.Chunks.{Precedes, BeforeAll, preceding_all, around, behind_up_to, edge_at, gap_front, gap_rear, in_front, in_rear, level_less, split_at, split_gap, takes_reached, found_under}

-- ---- an insertion among what stands before, what may be the spot, and what stands behind

insert_preceding : (p : Path) (f : Found) (r : Spots) → Precedes p r → insert_entry path_cmp r p f ≡ (p, f) ∷ r
insert_preceding p f [] a = refl
insert_preceding p f (s ∷ r) a = rw a.0 refl

insert_front : (p : Path) (f : Found) (w r : Spots) → Precedes p r → insert_entry path_cmp (w ++ r) p f ≡ insert_entry path_cmp w p f ++ r
insert_front p f [] r a = insert_preceding p f r a
insert_front p f (s ∷ w) r a = at (path_cmp p s.0) (insert_front p f w r a)
  where
    at : (o : Ordering) → insert_entry path_cmp (w ++ r) p f ≡ insert_entry path_cmp w p f ++ r
        → match_ordering o ((p, f) ∷ s ∷ w ++ r) ((s.0, f) ∷ w ++ r) (s ∷ insert_entry path_cmp (w ++ r) p f) ≡ match_ordering o ((p, f) ∷ s ∷ w) ((s.0, f) ∷ w) (s ∷ insert_entry path_cmp w p f) ++ r
    at Less more = refl
    at Equal more = refl
    at Greater more = ap (λ (x : Spots). s ∷ x) more

insert_rear : (p : Path) (f : Found) (l w : Spots) → IsBehind p l → insert_entry path_cmp (l ++ w) p f ≡ l ++ insert_entry path_cmp w p f
insert_rear p f [] w b = refl
insert_rear p f (s ∷ l) w b = rw b.0 (ap (λ (x : Spots). s ∷ x) (insert_rear p f l w b.1))

insert_mid : (p : Path) (f : Found) (l w r : Spots) → IsBehind p l → Precedes p r → insert_entry path_cmp (l ++ (w ++ r)) p f ≡ l ++ (insert_entry path_cmp w p f ++ r)
insert_mid p f l w r b a = insert_rear p f l (w ++ r) b ∙ ap (λ (x : Spots). l ++ x) (insert_front p f w r a)

insert_between : (p : Path) (f : Found) (l r : Spots) → IsBehind p l → Precedes p r → insert_entry path_cmp (l ++ r) p f ≡ l ++ ((p, f) ∷ r)
insert_between p f l r b a = insert_rear p f l r b ∙ ap (λ (x : Spots). l ++ x) (insert_preceding p f r a)

-- ---- the parts of the children, one of which is another or new

set_split : (cs : List ChildValue) (i : ℕ) (c : ChildValue) → i < length cs → parts (slice_set cs i c) ≡ parts (take i cs) ++ (c.spots ++ parts (drop (suc i) cs))
set_split [] i c small = absurd (omega (arith, small))
set_split (d ∷ cs) zero c small = refl
set_split (d ∷ cs) (suc i) c small = ap (λ (w : Spots). d.spots ++ w) (set_split cs i c (omega (arith, small))) ∙ sym (append_assoc d.spots (parts (take i cs)) (c.spots ++ parts (drop (suc i) cs)))

insert_split : (cs : List ChildValue) (i : ℕ) (c : ChildValue) → i ≤ length cs → parts (insert cs i c) ≡ parts (take i cs) ++ (c.spots ++ parts (drop i cs))
insert_split cs zero c small = refl
insert_split [] (suc i) c small = absurd (omega (arith, small))
insert_split (d ∷ cs) (suc i) c small = ap (λ (w : Spots). d.spots ++ w) (insert_split cs i c (omega (arith, small))) ∙ sym (append_assoc d.spots (parts (take i cs)) (c.spots ++ parts (drop i cs)))

-- ---- a chunk, one child of which is another

pub from_insert : (k : List ℕ) (p : Path) (f : Found) (w : Spots) → path_cmp p (k ∷ []) ≢ Less → IsFrom k w → IsFrom k (insert_entry path_cmp w p f)
from_insert k p f [] n a = (n, tt)
from_insert k p f (s ∷ w) n a = at (path_cmp p s.0) (from_insert k p f w n a.1)
  where
    at : (o : Ordering) → IsFrom k (insert_entry path_cmp w p f) → IsFrom k (match_ordering o ((p, f) ∷ s ∷ w) ((s.0, f) ∷ w) (s ∷ insert_entry path_cmp w p f))
    at Less more = (n, a)
    at Equal more = a
    at Greater more = (a.0, more)

pub up_to_insert : (k : List ℕ) (p : Path) (f : Found) (w : Spots) → path_cmp p (k ∷ []) ≡ Less → IsUpTo k w → IsUpTo k (insert_entry path_cmp w p f)
up_to_insert k p f [] n a = (n, tt)
up_to_insert k p f (s ∷ w) n a = at (path_cmp p s.0) (up_to_insert k p f w n a.1)
  where
    at : (o : Ordering) → IsUpTo k (insert_entry path_cmp w p f) → IsUpTo k (match_ordering o ((p, f) ∷ s ∷ w) ((s.0, f) ∷ w) (s ∷ insert_entry path_cmp w p f))
    at Less more = (n, a)
    at Equal more = a
    at Greater more = (a.0, more)

before_set : (w : Spots) (cs : List ChildValue) (i : ℕ) (c c' : ChildValue) → (get_or cs i c).level ≡ c'.level → IsBefore w cs → IsBefore w (slice_set cs i c')
before_set w [] i c c' same b = tt
before_set w (d ∷ cs) zero c c' same b = let P : List ℕ → Type 0 = λ k. IsUpTo k w in subst P same b
before_set w (d ∷ cs) (suc i) c c' same b = b

pub chunk_set : (P : ChildValue → Type 0) (q : List ℕ) (cs : List ChildValue) (i : ℕ) (c c' : ChildValue) → IsChunk cs → IsEdge P q cs (suc i) → c ≡ get_or cs i c → c'.level ≡ c.level
    → IsFull c'.spots → IsFrom c.level c'.spots → ((n : List ℕ) → level_cmp q n ≡ Less → IsUpTo n c.spots → IsUpTo n c'.spots) → IsChunk (slice_set cs i c')
chunk_set P q [] i c c' r e is lv full fr up = absurd e
chunk_set P q (d ∷ cs) zero c c' r e is lv full fr up = (full, (let Q : List ℕ → Type 0 = λ k. IsFrom k c'.spots in subst Q (sym lv) fr), next cs r.2 e.1, r.3)
  where
    next : (cs : List ChildValue) → IsBefore d.spots cs → IsPreceding q cs → IsBefore c'.spots cs
    next [] b a = tt
    next (n ∷ cs) b a = up n.level a (let Q : ChildValue → Type 0 = λ w. IsUpTo n.level w.spots in subst Q (sym is) b)
chunk_set P q (d ∷ cs) (suc i) c c' r e is lv full fr up =
    (r.0, r.1, before_set d.spots cs i c c' (ap (λ (w : ChildValue). w.level) (sym is) ∙ sym lv) r.2, chunk_set P q cs i c c' r.3 e is lv full fr up)

pub chunk_at : (cs : List ChildValue) (i : ℕ) (d : ChildValue) → i < length cs → IsChunk cs → IsFull (get_or cs i d).spots × IsFrom (get_or cs i d).level (get_or cs i d).spots
chunk_at [] i d small r = absurd (omega (arith, small))
chunk_at (c ∷ cs) zero d small r = (r.0, r.1)
chunk_at (c ∷ cs) (suc i) d small r = chunk_at cs i d (omega (arith, small)) r.3

pub from_at : (cs : List ChildValue) (i : ℕ) (c : ChildValue) → i < length cs → c ≡ get_or cs i c → IsChunk cs → IsFrom c.level c.spots
from_at cs i c small is r = let P : ChildValue → Type 0 = λ w. IsFrom w.level w.spots in subst P (sym is) (chunk_at cs i c small r).1

pub chunk_new : (q : List ℕ) (p : Path) (f : Found) (cs : List ChildValue) (i : ℕ) (c : ChildValue) → IsChunk cs → IsGap q cs i → c.level ≡ q → c.spots ≡ (q ∷ p, f) ∷ [] → IsChunk (insert cs i c)
chunk_new q p f cs zero c r e lv is = (rw is tt, rw (is, lv) (from_one, tt), first cs e, r)
  where
    from_one : path_cmp (q ∷ p) (q ∷ []) ≢ Less
    from_one = takes_reached false q q p refl

    first : (cs : List ChildValue) → IsPreceding q cs → IsBefore c.spots cs
    first [] a = tt
    first (n ∷ cs) a = rw is (level_less q n.level p a, tt)
chunk_new q p f [] (suc i) c r e lv is = absurd e
chunk_new q p f (d ∷ cs) (suc zero) c r e lv is = (r.0, r.1, (let Q : List ℕ → Type 0 = λ k. IsUpTo k d.spots in subst Q (sym lv) (behind_up_to q d.spots (e.0 []))), chunk_new q p f cs zero c r.3 e.1 lv is)
chunk_new q p f (d ∷ []) (suc (suc i)) c r e lv is = absurd e
chunk_new q p f (d ∷ n ∷ cs) (suc (suc i)) c r e lv is = (r.0, r.1, r.2, chunk_new q p f (n ∷ cs) (suc i) c r.3 e lv is)

-- ---- the same as the calls say it

pub put_whole : (retained : Option Found) (cs : List ChildValue) (i : ℕ) (c : ChildValue) → i < length cs → own retained ++ parts (slice_set cs i c) ≡ (own retained ++ parts (take i cs)) ++ (c.spots ++ parts (drop (suc i) cs))
put_whole retained cs i c small = around (own retained) (parts (take i cs)) (parts (slice_set cs i c)) c.spots (parts (drop (suc i) cs)) (set_split cs i c small)

pub same_parts : (retained : Option Found) (cs : List ChildValue) (i : ℕ) (c c' : ChildValue) → i < length cs → c ≡ get_or cs i c → c'.spots ≡ c.spots → own retained ++ parts (slice_set cs i c') ≡ own retained ++ parts cs
same_parts retained cs i c c' small is same =
    let there : c'.spots ≡ (get_or cs i c).spots = same ∙ ap (λ (w : ChildValue). w.spots) is in
    put_whole retained cs i c' small ∙ (ap (λ (w : Spots). (own retained ++ parts (take i cs)) ++ (w ++ parts (drop (suc i) cs))) there ∙ sym (split_at retained cs i c small))

module _ (retained : Option Found) (cs : List ChildValue) (r : IsChunk cs) (q : List ℕ) (p : Path) (f : Found) (i : ℕ) where
  pub full_child : (c : ChildValue) → i < length cs → c ≡ get_or cs i c → IsFull c.spots
  full_child c small is = let P : ChildValue → Type 0 = λ w. IsFull w.spots in subst P (sym is) (chunk_at cs i c small r).0

  from_child : (c : ChildValue) → i < length cs → c ≡ get_or cs i c → IsFrom c.level c.spots
  from_child c small is = let P : ChildValue → Type 0 = λ w. IsFrom w.level w.spots in subst P (sym is) (chunk_at cs i c small r).1

  set_whole : (c : ChildValue) → i < length cs → own retained ++ parts (slice_set cs i c) ≡ (own retained ++ parts (take i cs)) ++ (c.spots ++ parts (drop (suc i) cs))
  set_whole c small = around (own retained) (parts (take i cs)) (parts (slice_set cs i c)) c.spots (parts (drop (suc i) cs)) (set_split cs i c small)

  pub same_in : (c c' : ChildValue) → i < length cs → c ≡ get_or cs i c → c'.spots ≡ c.spots → own retained ++ parts (slice_set cs i c') ≡ own retained ++ parts cs
  same_in c c' small is same =
      let there : c'.spots ≡ (get_or cs i c).spots = same ∙ ap (λ (w : ChildValue). w.spots) is in
      set_whole c' small ∙ (ap (λ (w : Spots). (own retained ++ parts (take i cs)) ++ (w ++ parts (drop (suc i) cs))) there ∙ sym (split_at retained cs i c small))

  pub grown_in : (c c' : ChildValue) → i < length cs → IsIn q cs i → c ≡ get_or cs i c → c'.spots ≡ insert_entry path_cmp c.spots (q ∷ p) f → own retained ++ parts (slice_set cs i c') ≡ insert_entry path_cmp (own retained ++ parts cs) (q ∷ p) f
  grown_in c c' small e is put =
      let there : c'.spots ≡ insert_entry path_cmp (get_or cs i c).spots (q ∷ p) f = put ∙ ap (λ (w : ChildValue). insert_entry path_cmp w.spots (q ∷ p) f) is in
      set_whole c' small ∙ (ap (λ (w : Spots). (own retained ++ parts (take i cs)) ++ (w ++ parts (drop (suc i) cs))) there
      ∙ (sym (insert_mid (q ∷ p) f (own retained ++ parts (take i cs)) (get_or cs i c).spots (parts (drop (suc i) cs)) (in_front retained cs r q p i e) (in_rear retained cs r q p i e))
      ∙ ap (λ (w : Spots). insert_entry path_cmp w (q ∷ p) f) (sym (split_at retained cs i c small))))

  pub grown_gap : (c : ChildValue) → i ≤ length cs → IsGap q cs i → c.spots ≡ (q ∷ p, f) ∷ [] → own retained ++ parts (insert cs i c) ≡ insert_entry path_cmp (own retained ++ parts cs) (q ∷ p) f
  grown_gap c small e is =
      around (own retained) (parts (take i cs)) (parts (insert cs i c)) c.spots (parts (drop i cs)) (insert_split cs i c small)
      ∙ (ap (λ (w : Spots). (own retained ++ parts (take i cs)) ++ (w ++ parts (drop i cs))) is
      ∙ (sym (insert_between (q ∷ p) f (own retained ++ parts (take i cs)) (parts (drop i cs)) (gap_front retained cs r q p i e) (gap_rear retained cs r q p i e))
      ∙ ap (λ (w : Spots). insert_entry path_cmp w (q ∷ p) f) (sym (split_gap retained cs i))))

  pub chunk_same : (c c' : ChildValue) → i < length cs → IsIn q cs i → c ≡ get_or cs i c → c'.level ≡ c.level → c'.spots ≡ c.spots → IsChunk (slice_set cs i c')
  chunk_same c c' small e is lv same =
      chunk_set (Takes q) q cs i c c' r e is lv (let P : Spots → Type 0 = λ w. IsFull w in subst P (sym same) (full_child c small is)) (let P : Spots → Type 0 = λ w. IsFrom c.level w in subst P (sym same) (from_child c small is))
      (λ n l u. let P : Spots → Type 0 = λ w. IsUpTo n w in subst P (sym same) u)

  pub chunk_grown : (c c' : ChildValue) → i < length cs → IsIn q cs i → c ≡ get_or cs i c → c'.level ≡ c.level → c'.spots ≡ insert_entry path_cmp c.spots (q ∷ p) f → IsChunk (slice_set cs i c')
  chunk_grown c c' small e is lv put =
      let new : Spots = insert_entry path_cmp c.spots (q ∷ p) f in
      let reached : path_cmp (q ∷ p) (c.level ∷ []) ≢ Less = takes_reached c.is_chunk c.level q p (let P : ChildValue → Type 0 = λ w. Takes q w in subst P (sym is) (edge_at (Takes q) q cs i c e)) in
      chunk_set (Takes q) q cs i c c' r e is lv (let P : Spots → Type 0 = λ w. IsFull w in subst P (sym put) (full_insert c.spots (q ∷ p) f)) (let P : Spots → Type 0 = λ w. IsFrom c.level w in subst P (sym put) (from_insert c.level (q ∷ p) f c.spots reached (from_child c small is)))
      (λ n l u. let P : Spots → Type 0 = λ w. IsUpTo n w in subst P (sym put) (up_to_insert n (q ∷ p) f c.spots (level_less q n p l) u))

  pub chunk_put : {T E : Type 0} (o : Result T E) (c c' : ChildValue) → i < length cs → IsIn q cs i → c ≡ get_or cs i c → c'.level ≡ c.level → OnOk o (c'.spots ≡ insert_entry path_cmp c.spots (q ∷ p) f) → OnErr o (c'.spots ≡ c.spots) → IsChunk (slice_set cs i c')
  chunk_put (Ok x) c c' small e is lv done unchanged = chunk_grown c c' small e is lv done
  chunk_put (Err x) c c' small e is lv done unchanged = chunk_same c c' small e is lv unchanged

-- the message of the spot itself comes first
pub own_first : (retained : Option Found) (f : Found) (cs : List ChildValue) → IsChunk cs → ([], f) ∷ parts cs ≡ insert_entry path_cmp (own retained ++ parts cs) [] f
own_first (Some g) f cs r = refl
own_first None f cs r = sym (insert_preceding [] f (parts cs) (preceding_all [] cs r (first cs)))
  where
    first : (cs : List ChildValue) → BeforeAll [] cs
    first [] = tt
    first (c ∷ cs) = refl

-- ---- one child, below its level

module _ (k : List ℕ) (p path : Path) (f : Found) (is : path ≡ k ∷ p) where
  pub grown_under : (w w' : Spots) → w' ≡ insert_entry path_cmp w p f → under k w' ≡ insert_entry path_cmp (under k w) path f
  grown_under w w' put = rw (is, put) (sym (insert_all (k ∷ []) p f w))

  pub was_under : {E : Type 0} (o : Result (Option Found) E) (w : Spots) → IfOk o (λ old. old ≡ found_at p w) → IfOk o (λ old. old ≡ found_at path (under k w))
  was_under o w t = was_by o (found_at p w) (found_at path (under k w)) t (found_under k p path w is)
