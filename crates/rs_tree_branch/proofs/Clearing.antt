-- How the messages of a branch change when one goes.
use Rattle.std.proofs.Common.{◌≡◌, ◌≢◌, ℕ, zero, suc, ◌+◌, ◌<◌, ◌==◌, Bool, true, false, cond, List, [], ◌∷◌, ◌++◌, length, get_or, take, drop, refl, sym, ap, subst, ◌∙◌, arith, append_assoc, Option, Some, None, Result, Ok, Err, is_some}
use Rattle.std.proofs.lemmas.Bool.Decides.{nat_tests}
use Rattle.std.proofs.Math.ListN.{length-set}
use Rattle.std.specs.Prelude.{slice_set}
use Rattle.std.specs.List.{remove}
use Rattle.std.specs.Ordering.{is_eq}
use Rattle.std.specs.Map.{remove_entry}
use Rattle.std.specs.BTreeMap.{is_at}
use Rattle.std.specs.Cmp.Lexicographic.{bytes_decides}
use Rattle.std.specs.declared.cmp.Ordering.{Ordering}
use Rattle.std.specs.declared.cmp.Ordering.TheVariants.{Less, Equal, Greater}
use Rattle.rs_message.specs.declared.found.Found.{Found}
use Rattle.rs_topic.specs.Order.{path_cmp}
use Rattle.rs_tree_bucket.specs.Chains.{behind, under_all}
use Rattle.rs_tree_bucket.specs.Spots.{IsFull, is_there, under}
use Rattle.rs_tree_branch.specs.Spots.{own}
use Rattle.rs_tree_branch.proofs.Stems.{found_behind, full_below, none_behind, removed}
use Rattle.rs_tree_bucket.specs.Clearing.{Clears, ClearsAs}
use Rattle.rs_tree_bucket.specs.declared.cleared.Cleared.{Cleared}
use Rattle.rs_tree_bucket.specs.declared.cleared.Cleared.TheVariants.{Missing, Left, Last}
use Rattle.rs_tree_branch.specs.Chunks.{IsBefore, IsBehind, IsChunk, IsFrom, IsIn, IsUpTo, Takes, parts}
use Rattle.rs_tree_branch.specs.Values.{ChildValue}
use Rattle.rs_tree_branch.proofs.Dividing.{full_parts, level_rises, up_to_wider}
use Rattle.rs_tree_branch.proofs.Growing.{chunk_at, chunk_set, from_at, put_whole, same_parts}
use Rattle.rs_tree_branch.proofs.Chunks.{Precedes, around, found_child, found_own, in_front, in_rear, split_at}
use Rattle.rs_tree_bucket.proofs.Buckets.{none_below}
use Rattle.rs_tree_bucket.proofs.Spots.{Spots, Path}

-- ---- below a chain

clears_as_chain : (ks p r : Path) (b : Cleared) (w w' : Spots) → behind ks p ≡ Some r → ClearsAs b w w' r → ClearsAs b (under_all ks w) (under_all ks w') p
clears_as_chain ks p r Missing w w' h c = (ap is_some (found_behind ks p r w h) ∙ c.0, ap (under_all ks) c.1)
clears_as_chain ks p r Left w w' h c = (ap is_some (found_behind ks p r w h) ∙ c.0, removed ks p r w w' h c.1, full_below ks w' c.2)
clears_as_chain ks p r Last w w' h c = (ap is_some (found_behind ks p r w h) ∙ c.0, sym (removed ks p r w (remove_entry (is_at (path_cmp r)) w) h refl) ∙ (ap (under_all ks) c.1 ∙ none_below ks), ap (under_all ks) c.2)

pub clears_chain : {E : Type 0} (ks p r : Path) (b : Result Cleared E) (w w' : Spots) → behind ks p ≡ Some r → Clears b w w' r → Clears b (under_all ks w) (under_all ks w') p
clears_chain ks p r (Ok b) w w' h c = clears_as_chain ks p r b w w' h c
clears_chain ks p r (Err e) w w' h c = ap (under_all ks) c

pub clears_level : {E : Type 0} (k : List ℕ) (p path : Path) (b : Result Cleared E) (w w' : Spots) → path ≡ k ∷ p → Clears b w w' p → Clears b (under k w) (under k w') path
clears_level k p path b w w' is c = clears_chain (k ∷ []) path p b w w' (rw (is, (bytes_decides k k).1 refl) refl) c

pub clears_none : (ks p : Path) (w : Spots) → behind ks p ≡ None → ClearsAs Missing (under_all ks w) (under_all ks w) p
clears_none ks p w h = (ap is_some (none_behind ks p w h), refl)

-- ---- the message of the spot itself

pub retained_missing : (retained : Option Found) (cs : List ChildValue) → IsChunk cs → is_some retained ≡ false → is_there [] (own retained ++ parts cs) ≡ false
retained_missing retained cs r none = ap is_some (found_own retained cs r) ∙ none

pub retained_last : (retained : Option Found) (cs : List ChildValue) → is_some retained ≡ true → length cs ≡ 0 → ClearsAs Last (own retained ++ parts cs) (own retained ++ parts cs) []
retained_last None cs some none = absurd (cc (some))
retained_last (Some f) [] some none = (refl, refl, refl)
retained_last (Some f) (c ∷ cs) some none = absurd (omega (arith, none))

pub retained_left : (retained : Option Found) (cs : List ChildValue) → IsChunk cs → is_some retained ≡ true → length cs ≢ 0 → ClearsAs Left (own retained ++ parts cs) (parts cs) []
retained_left None cs r some more = absurd (cc (some))
retained_left (Some f) [] r some more = absurd (more refl)
retained_left (Some f) (c ∷ cs) r some more = (refl, refl, full_parts (c ∷ cs) r (omega arith))

-- ---- a removal among what stands before, what may be the spot, and what stands behind

remove_preceding : (p : Path) (r : Spots) → Precedes p r → remove_entry (is_at (path_cmp p)) r ≡ r
remove_preceding p [] a = refl
remove_preceding p (s ∷ r) a = rw a.0 (ap (λ (x : Spots). s ∷ x) (remove_preceding p r a.1))

remove_front : (p : Path) (w r : Spots) → Precedes p r → remove_entry (is_at (path_cmp p)) (w ++ r) ≡ remove_entry (is_at (path_cmp p)) w ++ r
remove_front p [] r a = remove_preceding p r a
remove_front p (s ∷ w) r a = at (is_eq (path_cmp p s.0)) (remove_front p w r a)
  where
    at : (b : Bool) → remove_entry (is_at (path_cmp p)) (w ++ r) ≡ remove_entry (is_at (path_cmp p)) w ++ r
        → cond b (w ++ r) (s ∷ remove_entry (is_at (path_cmp p)) (w ++ r)) ≡ cond b w (s ∷ remove_entry (is_at (path_cmp p)) w) ++ r
    at true more = refl
    at false more = ap (λ (x : Spots). s ∷ x) more

remove_rear : (p : Path) (l w : Spots) → IsBehind p l → remove_entry (is_at (path_cmp p)) (l ++ w) ≡ l ++ remove_entry (is_at (path_cmp p)) w
remove_rear p [] w b = refl
remove_rear p (s ∷ l) w b = rw b.0 (ap (λ (x : Spots). s ∷ x) (remove_rear p l w b.1))

remove_mid : (p : Path) (l w r : Spots) → IsBehind p l → Precedes p r → remove_entry (is_at (path_cmp p)) (l ++ (w ++ r)) ≡ l ++ (remove_entry (is_at (path_cmp p)) w ++ r)
remove_mid p l w r b a = remove_rear p l (w ++ r) b ∙ ap (λ (x : Spots). l ++ x) (remove_front p w r a)

-- ---- chunks

from_remove : (k : List ℕ) (test : Path → Bool) (w : Spots) → IsFrom k w → IsFrom k (remove_entry test w)
from_remove k test [] f = tt
from_remove k test (s ∷ w) f = at (test s.0) (from_remove k test w f.1)
  where
    at : (b : Bool) → IsFrom k (remove_entry test w) → IsFrom k (cond b w (s ∷ remove_entry test w))
    at true more = f.1
    at false more = (f.0, more)

up_to_remove : (k : List ℕ) (test : Path → Bool) (w : Spots) → IsUpTo k w → IsUpTo k (remove_entry test w)
up_to_remove k test [] f = tt
up_to_remove k test (s ∷ w) f = at (test s.0) (up_to_remove k test w f.1)
  where
    at : (b : Bool) → IsUpTo k (remove_entry test w) → IsUpTo k (cond b w (s ∷ remove_entry test w))
    at true more = f.1
    at false more = (f.0, more)

before_removed : (w : Spots) (cs : List ChildValue) (i : ℕ) → IsChunk cs → IsBefore w cs → IsBefore w (remove cs i)
before_removed w [] zero r b = tt
before_removed w [] (suc i) r b = tt
before_removed w (c ∷ []) zero r b = tt
before_removed w (c ∷ d ∷ cs) zero r b = up_to_wider c.level d.level w (λ l. absurd (before_both (level_rises c.level d.level c.spots r.0 r.1 r.2) l)) b
  where
    before_both : path_cmp (c.level ∷ []) (d.level ∷ []) ≡ Less → path_cmp (d.level ∷ []) (c.level ∷ []) ≡ Less → ⊥
    before_both x y = cc (x, Rattle.rs_tree_branch.proofs.Chunks.flip (d.level ∷ []) (c.level ∷ []) y)
before_removed w (c ∷ cs) (suc i) r b = b

pub chunk_removed : (cs : List ChildValue) (i : ℕ) → IsChunk cs → IsChunk (remove cs i)
chunk_removed [] zero r = tt
chunk_removed [] (suc i) r = tt
chunk_removed (c ∷ cs) zero r = r.3
chunk_removed (c ∷ cs) (suc i) r = (r.0, r.1, before_removed c.spots cs i r.3 r.2, chunk_removed cs i r.3)

pub remove_set : (cs : List ChildValue) (i : ℕ) (c : ChildValue) → remove (slice_set cs i c) i ≡ remove cs i
remove_set [] i c = refl
remove_set (d ∷ cs) zero c = refl
remove_set (d ∷ cs) (suc i) c = ap (λ (l : List ChildValue). d ∷ l) (remove_set cs i c)

parts_removed : (cs : List ChildValue) (i : ℕ) → i < length cs → parts (remove cs i) ≡ parts (take i cs) ++ parts (drop (suc i) cs)
parts_removed [] i small = absurd (omega (arith, small))
parts_removed (c ∷ cs) zero small = refl
parts_removed (c ∷ cs) (suc i) small = ap (λ (w : Spots). c.spots ++ w) (parts_removed cs i (omega (arith, small))) ∙ sym (append_assoc c.spots (parts (take i cs)) (parts (drop (suc i) cs)))

pub fewer : (cs : List ChildValue) (i : ℕ) → i < length cs → length (remove cs i) + 1 ≡ length cs
fewer [] i small = absurd (omega (arith, small))
fewer (c ∷ cs) zero small = omega arith
fewer (c ∷ cs) (suc i) small = omega (arith, fewer cs i (omega (arith, small)))

full_own : (retained : Option Found) (w : Spots) → is_some retained ≡ true → IsFull (own retained ++ w)
full_own None w some = absurd (cc (some))
full_own (Some f) w some = tt

full_rear : (retained : Option Found) (w : Spots) → IsFull w → IsFull (own retained ++ w)
full_rear None w full = full
full_rear (Some f) w full = tt

-- ---- the same as the calls say it

module _ (retained : Option Found) (cs : List ChildValue) (r : IsChunk cs) (q : List ℕ) (p : Path) (i : ℕ) (c c' : ChildValue) (small : i < length cs) (e : IsIn q cs i) (is : c ≡ get_or cs i c) (lv : c'.level ≡ c.level) where
  full_c : IsFull c.spots
  full_c = let P : ChildValue → Type 0 = λ w. IsFull w.spots in subst P (sym is) (chunk_at cs i c small r).0

  pub chunk_unchanged : c'.spots ≡ c.spots → IsChunk (slice_set cs i c')
  chunk_unchanged same =
      chunk_set (Takes q) q cs i c c' r e is lv (let P : Spots → Type 0 = λ w. IsFull w in subst P (sym same) full_c) (let P : Spots → Type 0 = λ w. IsFrom c.level w in subst P (sym same) (from_at cs i c small is r))
      (λ n l u. let P : Spots → Type 0 = λ w. IsUpTo n w in subst P (sym same) u)

  chunk_left : c'.spots ≡ remove_entry (is_at (path_cmp (q ∷ p))) c.spots → IsFull c'.spots → IsChunk (slice_set cs i c')
  chunk_left gone full =
      chunk_set (Takes q) q cs i c c' r e is lv full (let P : Spots → Type 0 = λ w. IsFrom c.level w in subst P (sym gone) (from_remove c.level (is_at (path_cmp (q ∷ p))) c.spots (from_at cs i c small is r)))
      (λ n l u. let P : Spots → Type 0 = λ w. IsUpTo n w in subst P (sym gone) (up_to_remove n (is_at (path_cmp (q ∷ p))) c.spots u))

  pub chunk_cleared : {E : Type 0} (b : Result Cleared E) → Clears b c.spots c'.spots (q ∷ p) → IsChunk (slice_set cs i c')
  chunk_cleared (Ok Missing) h = chunk_unchanged h.1
  chunk_cleared (Ok Left) h = chunk_left h.1 h.2
  chunk_cleared (Ok Last) h = chunk_unchanged h.2
  chunk_cleared (Err x) h = chunk_unchanged h

  whole : remove_entry (is_at (path_cmp (q ∷ p))) (own retained ++ parts cs) ≡ (own retained ++ parts (take i cs)) ++ (remove_entry (is_at (path_cmp (q ∷ p))) c.spots ++ parts (drop (suc i) cs))
  whole =
      ap (λ (w : Spots). remove_entry (is_at (path_cmp (q ∷ p))) w) (split_at retained cs i c small)
      ∙ (remove_mid (q ∷ p) (own retained ++ parts (take i cs)) (get_or cs i c).spots (parts (drop (suc i) cs)) (in_front retained cs r q p i e) (in_rear retained cs r q p i e)
      ∙ ap (λ (w : ChildValue). (own retained ++ parts (take i cs)) ++ (remove_entry (is_at (path_cmp (q ∷ p))) w.spots ++ parts (drop (suc i) cs))) (sym is))

  there : is_there (q ∷ p) c.spots ≡ is_there (q ∷ p) (own retained ++ parts cs)
  there = ap is_some (found_child retained cs r q p i c small e is)

  pub clears_missing : ClearsAs Missing c.spots c'.spots (q ∷ p) → ClearsAs Missing (own retained ++ parts cs) (own retained ++ parts (slice_set cs i c')) (q ∷ p)
  clears_missing h = (sym there ∙ h.0, same_parts retained cs i c c' small is h.1)

  full_set : IsChunk (slice_set cs i c') → IsFull (own retained ++ parts (slice_set cs i c'))
  full_set chunk = full_rear retained (parts (slice_set cs i c')) (full_parts (slice_set cs i c') chunk (omega (arith, small, length-set cs i c')))

  pub clears_left : ClearsAs Left c.spots c'.spots (q ∷ p) → ClearsAs Left (own retained ++ parts cs) (own retained ++ parts (slice_set cs i c')) (q ∷ p)
  clears_left h = (
    sym there ∙ h.0,
    put_whole retained cs i c' small ∙ (ap (λ (w : Spots). (own retained ++ parts (take i cs)) ++ (w ++ parts (drop (suc i) cs))) h.1 ∙ sym whole),
    full_set (chunk_left h.1 h.2),
  )

  pub clears_same : c'.spots ≡ c.spots → own retained ++ parts (slice_set cs i c') ≡ own retained ++ parts cs
  clears_same same = same_parts retained cs i c c' small is same

  gone : remove_entry (is_at (path_cmp (q ∷ p))) c.spots ≡ [] → remove_entry (is_at (path_cmp (q ∷ p))) (own retained ++ parts cs) ≡ own retained ++ parts (remove cs i)
  gone none =
      whole ∙ (ap (λ (w : Spots). (own retained ++ parts (take i cs)) ++ (w ++ parts (drop (suc i) cs))) none
      ∙ (append_assoc (own retained) (parts (take i cs)) (parts (drop (suc i) cs)) ∙ ap (λ (w : Spots). own retained ++ w) (sym (parts_removed cs i small))))

  -- the child goes
  pub clears_child : (new : List ChildValue) → new ≡ remove (slice_set cs i c') i → (is_some retained ≡ false → length cs ≡ 1 → ⊥) → ClearsAs Last c.spots c'.spots (q ∷ p) → ClearsAs Left (own retained ++ parts cs) (own retained ++ parts new) (q ∷ p)
  clears_child new put more h =
      let removed : new ≡ remove cs i = put ∙ remove_set cs i c' in (
        sym there ∙ h.0,
        ap (λ (l : List ChildValue). own retained ++ parts l) removed ∙ sym (gone h.1),
        (let P : List ChildValue → Type 0 = λ l. IsFull (own retained ++ parts l) in subst P (sym removed) (at (is_some retained) refl)),
      )
    where
      at : (b : Bool) → is_some retained ≡ b → IsFull (own retained ++ parts (remove cs i))
      at true some = full_own retained (parts (remove cs i)) some
      at false none = full_rear retained (parts (remove cs i)) (full_parts (remove cs i) (chunk_removed cs i r) (omega (arith, fewer cs i small, two (length cs == 1) refl)))
        where
          two : (b : Bool) → (length cs == 1) ≡ b → 1 < length cs
          two true n = absurd (more none (grind (arith, nat_tests, n)))
          two false n = let other : length cs ≢ 1 = (λ k. grind (arith, nat_tests, n)) in omega (arith, small, other)

  -- the branch would be left with nothing
  pub clears_last : is_some retained ≡ false → length cs ≡ 1 → ClearsAs Last c.spots c'.spots (q ∷ p) → ClearsAs Last (own retained ++ parts cs) (own retained ++ parts (slice_set cs i c')) (q ∷ p)
  clears_last none one h = (sym there ∙ h.0, gone h.1 ∙ nothing retained none (remove cs i) (omega (arith, fewer cs i small, one)), same_parts retained cs i c c' small is h.2)
    where
      empty : (l : List ChildValue) → length l ≡ 0 → parts l ≡ []
      empty [] n = refl
      empty (d ∷ l) n = absurd (omega (arith, n))

      nothing : (retained : Option Found) → is_some retained ≡ false → (l : List ChildValue) → length l ≡ 0 → own retained ++ parts l ≡ []
      nothing None none l n = empty l n
      nothing (Some f) none l n = absurd (cc (none))

-- ---- nothing at the path

pub none_removed : (p : Path) (w : Spots) → is_there p w ≡ false → remove_entry (is_at (path_cmp p)) w ≡ w
none_removed p [] n = refl
none_removed p (s ∷ w) n = at (path_cmp p s.0) refl (none_removed p w)
  where
    at : (o : Ordering) → path_cmp p s.0 ≡ o → (is_there p w ≡ false → remove_entry (is_at (path_cmp p)) w ≡ w) → remove_entry (is_at (path_cmp p)) (s ∷ w) ≡ s ∷ w
    at Less is more = rw is (ap (λ (x : Spots). s ∷ x) (more (rw is at n)))
    at Equal is more = absurd (let e : true ≡ false = (rw is at n) in cc (e))
    at Greater is more = rw is (ap (λ (x : Spots). s ∷ x) (more (rw is at n)))
