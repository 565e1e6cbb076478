-- The messages of a bucket, one after the other.
use Rattle.std.proofs.Common.{◌≡◌, ℕ, zero, suc, ◌+◌, ◌<◌, ◌≤◌, ◌==◌, Bool, true, false, List, [], ◌∷◌, ◌++◌, length, get_or, drop, refl, sym, ap, subst, ◌∙◌, arith, append_assoc, Some, None, is_some}
use Rattle.std.proofs.lemmas.List.{append-nil, drop_all, drop_more}
use Rattle.std.proofs.lemmas.Bool.Decides.{nat_tests}
use Rattle.std.specs.Prelude.{slice_set}
use Rattle.std.specs.List.{AllByRecursion, insert, remove}
use Rattle.std.specs.List.Sorted.{IsStrictlySortedBy}
use Rattle.std.specs.Map.{keys_of, remove_entry}
use Rattle.std.specs.BTreeMap.{insert_entry, is_at}
use Rattle.std.specs.declared.cmp.Ordering.{Ordering}
use Rattle.std.specs.declared.cmp.Ordering.TheVariants.{Less, Equal, Greater}
use Rattle.std.proofs.lemmas.Cmp.{nat_list_cmp_total, tied_itself}
use Rattle.std.proofs.lemmas.Map.Keys.{sorted_head, sorted_tail}
use Rattle.rs_message.specs.declared.found.Found.{Found}
use Rattle.rs_topic.specs.Order.{path_cmp}
use Rattle.rs_topic.specs.Matching.{fits}
use Rattle.rs_topic.specs.TopicOrder.{exact_paths, path_total}
use Rattle.rs_tree_bucket.specs.declared.leaf.Leaf.{Leaf}
use Rattle.rs_tree_bucket.specs.Buckets.{IsGap, IsHere, IsPast, spots_in}
use Rattle.rs_tree_bucket.specs.Chains.{under_all}
use Rattle.rs_tree_bucket.specs.Chosen.{chosen}
use Rattle.rs_store.specs.Room.{IsStop}
use Rattle.rs_store.specs.declared.answer.Stop.{Stop}
use Rattle.rs_topic.specs.Rests.{levels_from}
use Rattle.rs_tree_bucket.specs.Spots.{found_at, is_nothing, is_there, spot_of, under}
use Rattle.rs_store.proofs.Entries.{sorted_cons, sorted_none, sorted_insert, sorted_remove}
use Rattle.rs_tree_bucket.proofs.Spots.{Spots, Path}
use Rattle.rs_tree_bucket.proofs.Chosen.{chosen-append}
use Rattle.rs_store.proofs.Maps.{remove_absent}
use Rattle.rs_tree_bucket.proofs.Chains.{under_one}
use Rattle.rs_tree_bucket.proofs.Stopping.{stop_at, stop_more}

abbrev pub path_of : Leaf → Path
path_of l = levels_from l.at l.found.topic

abbrev pub Sorted : Spots → Type 0
Sorted w = IsStrictlySortedBy path_cmp (keys_of w)

-- ---- a look at one leaf after the other

past_more : (p : Path) (ls : List Leaf) (i : ℕ) (d : Leaf) → i < length ls → IsPast p ls i → path_cmp p (path_of (get_or ls i d)) ≡ Greater → IsPast p ls (suc i)
past_more p [] i d small past is = absurd (omega (arith, small))
past_more p (l ∷ ls) zero d small past is = (is, tt)
past_more p (l ∷ ls) (suc i) d small past is = (past.0, past_more p ls i d (omega (arith, small)) past.1 is)

here_at : (p : Path) (ls : List Leaf) (i : ℕ) (d : Leaf) → i < length ls → IsPast p ls i → path_cmp p (path_of (get_or ls i d)) ≡ Equal → IsHere p ls i
here_at p [] i d small past is = absurd (omega (arith, small))
here_at p (l ∷ ls) zero d small past is = is
here_at p (l ∷ ls) (suc i) d small past is = (past.0, here_at p ls i d (omega (arith, small)) past.1 is)

gap_at : (p : Path) (ls : List Leaf) (i : ℕ) (d : Leaf) → i < length ls → IsPast p ls i → path_cmp p (path_of (get_or ls i d)) ≡ Less → IsGap p ls i
gap_at p [] i d small past is = absurd (omega (arith, small))
gap_at p (l ∷ ls) zero d small past is = is
gap_at p (l ∷ ls) (suc i) d small past is = (past.0, gap_at p ls i d (omega (arith, small)) past.1 is)

gap_end : (p : Path) (ls : List Leaf) (i : ℕ) → i ≡ length ls → IsPast p ls i → IsGap p ls i
gap_end p [] zero e past = tt
gap_end p [] (suc i) e past = absurd past
gap_end p (l ∷ ls) zero e past = absurd (omega (arith, e))
gap_end p (l ∷ ls) (suc i) e past = (past.0, gap_end p ls i (omega (arith, e)) past.1)

seen : (p : Path) (ls : List Leaf) (i : ℕ) (l : Leaf) (r o : Ordering) → l ≡ get_or ls i l → r ≡ path_cmp p (path_of l) → r ≡ o → path_cmp p (path_of (get_or ls i l)) ≡ o
seen p ls i l r o is tells so = let P : Leaf → Type 0 = λ w. path_cmp p (path_of w) ≡ o in subst P is (sym tells ∙ so)

-- as the calls say it: l is the leaf that was looked at, and r how the path compares to its path
pub is_gap : (p : Path) (ls : List Leaf) (i : ℕ) (l : Leaf) (r : Ordering) → i < length ls → IsPast p ls i → l ≡ get_or ls i l → r ≡ path_cmp p (path_of l) → r ≡ Less → IsGap p ls i
is_gap p ls i l r small past is tells so = gap_at p ls i l small past (seen p ls i l r Less is tells so)

pub is_here : (p : Path) (ls : List Leaf) (i : ℕ) (l : Leaf) (r : Ordering) → i < length ls → IsPast p ls i → l ≡ get_or ls i l → r ≡ path_cmp p (path_of l) → r ≡ Equal → IsHere p ls i
is_here p ls i l r small past is tells so = here_at p ls i l small past (seen p ls i l r Equal is tells so)

pub is_past : (p : Path) (ls : List Leaf) (i : ℕ) (l : Leaf) (r : Ordering) → i < length ls → IsPast p ls i → l ≡ get_or ls i l → r ≡ path_cmp p (path_of l) → r ≡ Greater → IsPast p ls (i + 1)
is_past p ls i l r small past is tells so =
    let e : suc i ≡ i + 1 = omega arith in
    let P : ℕ → Type 0 = λ n. IsPast p ls n in
    subst P e (past_more p ls i l small past (seen p ls i l r Greater is tells so))

pub is_behind : (p : Path) (ls : List Leaf) (i : ℕ) → length ls ≤ i → i ≤ length ls → IsPast p ls i → IsGap p ls (length ls)
is_behind p ls i least most past =
    let e : i ≡ length ls = omega (arith, least, most) in
    let P : ℕ → Type 0 = λ n. IsPast p ls n in
    gap_end p ls (length ls) refl (subst P e past)

-- ---- a Set

pub set_gap : (f : Found) (at : ℕ) (ls : List Leaf) (i : ℕ) → IsGap (levels_from at f.topic) ls i → spots_in (insert ls i (record { found = f; at = at })) ≡ insert_entry path_cmp (spots_in ls) (levels_from at f.topic) f
set_gap f at [] zero g = refl
set_gap f at [] (suc i) g = absurd g
set_gap f at (l ∷ ls) zero g = rw g refl
set_gap f at (l ∷ ls) (suc i) g = rw g.0 (ap (λ (w : Spots). spot_of l.at l.found ∷ w) (set_gap f at ls i g.1))

pub set_here : (f : Found) (at : ℕ) (ls : List Leaf) (i : ℕ) → IsHere (levels_from at f.topic) ls i → spots_in (slice_set ls i (record { found = f; at = at })) ≡ insert_entry path_cmp (spots_in ls) (levels_from at f.topic) f
set_here f at [] i h = absurd h
set_here f at (l ∷ ls) zero h = rw h (ap (λ (p : Path). let s : Path × Found = (p, f) in s ∷ spots_in ls) (exact_paths (levels_from at f.topic) (path_of l) h))
set_here f at (l ∷ ls) (suc i) h = rw h.0 (ap (λ (w : Spots). spot_of l.at l.found ∷ w) (set_here f at ls i h.1))

found_here : (p : Path) (ls : List Leaf) (i : ℕ) (d : Leaf) → IsHere p ls i → found_at p (spots_in ls) ≡ Some (get_or ls i d).found
found_here p [] i d h = absurd h
found_here p (l ∷ ls) zero d h = rw h refl
found_here p (l ∷ ls) (suc i) d h = rw h.0 (found_here p ls i d h.1)

there_here : (p : Path) (ls : List Leaf) (i : ℕ) → IsHere p ls i → is_there p (spots_in ls) ≡ true
there_here p [] i h = absurd h
there_here p (l ∷ ls) i h = ap is_some (found_here p (l ∷ ls) i l h)

none_after : (p q : Path) (w : Spots) → path_cmp p q ≡ Less → AllByRecursion (λ y. path_cmp q y ≡ Less) (keys_of w) → found_at p w ≡ None
none_after p q [] h a = refl
none_after p q (s ∷ ss) h a = rw (path_total.trans p q s.0 h a.0) (none_after p q ss h a.1)

pub absent_gap : (p : Path) (ls : List Leaf) (i : ℕ) → Sorted (spots_in ls) → IsGap p ls i → found_at p (spots_in ls) ≡ None
absent_gap p [] zero s g = refl
absent_gap p [] (suc i) s g = absurd g
absent_gap p (l ∷ ls) zero s g = rw g (none_after p (path_of l) (spots_in ls) g (sorted_head path_cmp (path_of l) (keys_of (spots_in ls)) s))
absent_gap p (l ∷ ls) (suc i) s g = rw g.0 (absent_gap p ls i (sorted_tail path_cmp (path_of l) (keys_of (spots_in ls)) s) g.1)

-- ---- a Clear

pub gone_here : (p : Path) (ls : List Leaf) (i : ℕ) → IsHere p ls i → spots_in (remove ls i) ≡ remove_entry (is_at (path_cmp p)) (spots_in ls)
gone_here p [] i h = absurd h
gone_here p (l ∷ ls) zero h = rw h refl
gone_here p (l ∷ ls) (suc i) h = rw h.0 (ap (λ (w : Spots). spot_of l.at l.found ∷ w) (gone_here p ls i h.1))

pub unchanged_gap : (p : Path) (ls : List Leaf) (i : ℕ) → Sorted (spots_in ls) → IsGap p ls i → remove_entry (is_at (path_cmp p)) (spots_in ls) ≡ spots_in ls
unchanged_gap p ls i s g = remove_absent (is_at (path_cmp p)) (spots_in ls) (ap is_some (absent_gap p ls i s g))

-- ---- that the messages stay in order

pub sorted_set : (w new : Spots) (p : Path) (f : Found) → Sorted w → new ≡ insert_entry path_cmp w p f → Sorted new
sorted_set w new p f s is = rw is (sorted_insert path_cmp path_total w p f s)

pub sorted_clear : (w new : Spots) (p : Path) → Sorted w → new ≡ remove_entry (is_at (path_cmp p)) w → Sorted new
sorted_clear w new p s is = rw is (sorted_remove path_cmp (is_at (path_cmp p)) w s)

all_under : (k : List ℕ) (p : Path) (w : Spots) → AllByRecursion (λ y. path_cmp p y ≡ Less) (keys_of w) → AllByRecursion (λ y. path_cmp (k ∷ p) y ≡ Less) (keys_of (under k w))
all_under k p [] a = tt
all_under k p (s ∷ ss) a = (rw (tied_itself nat_list_cmp_total k) a.0, all_under k p ss a.1)

sorted_under : (k : List ℕ) (w : Spots) → Sorted w → Sorted (under k w)
sorted_under k [] s = sorted_none path_cmp
sorted_under k (x ∷ xs) s = sorted_cons path_cmp (k ∷ x.0) (keys_of (under k xs)) (all_under k x.0 xs (sorted_head path_cmp x.0 (keys_of xs) s)) (sorted_under k xs (sorted_tail path_cmp x.0 (keys_of xs) s))

pub sorted_under_all : (ks : Path) (w : Spots) → Sorted w → Sorted (under_all ks w)
sorted_under_all [] w s = s
sorted_under_all (k ∷ ks) w s = sorted_under k (under_all ks w) (sorted_under_all ks w s)

pub sorted_risen : (ks : Path) (k : List ℕ) (w new : Spots) → Sorted w → new ≡ under_all ks (under k w) → Sorted new
sorted_risen ks k w new s is = rw is (sorted_under_all ks (under k w) (sorted_under k w s))

-- ---- one leaf after the other

pub in_two : (xs ys : List Leaf) → spots_in (xs ++ ys) ≡ spots_in xs ++ spots_in ys
in_two [] ys = refl
in_two (x ∷ xs) ys = ap (λ (w : Spots). spot_of x.at x.found ∷ w) (in_two xs ys)

under_two : (k : List ℕ) (v w : Spots) → under k (v ++ w) ≡ under k v ++ under k w
under_two k [] w = refl
under_two k (s ∷ ss) w = ap (λ (l : Spots). (k ∷ s.0, s.1) ∷ l) (under_two k ss w)

pub under_all_two : (ks : Path) (v w : Spots) → under_all ks (v ++ w) ≡ under_all ks v ++ under_all ks w
under_all_two [] v w = refl
under_all_two (k ∷ ks) v w = ap (under k) (under_all_two ks v w) ∙ under_two k (under_all ks v) (under_all ks w)

module _ (l : Leaf) (left rest : List Leaf) (is : left ≡ l ∷ rest) where
  -- an answer, when one leaf is asked
  pub answer_step : (pattern : Path) (now : ℕ) (before after all : List Found) → after ≡ before ++ chosen pattern now (spot_of l.at l.found ∷ []) → before ++ chosen pattern now (spots_in left) ≡ all → after ++ chosen pattern now (spots_in rest) ≡ all
  answer_step pattern now before after all more so =
      let split : chosen pattern now (spots_in left) ≡ chosen pattern now (spot_of l.at l.found ∷ []) ++ chosen pattern now (spots_in rest) = rw is (chosen-append (fits pattern) now (spot_of l.at l.found ∷ []) (spots_in rest)) in
      rw more (append_assoc before (chosen pattern now (spot_of l.at l.found ∷ [])) (chosen pattern now (spots_in rest)) ∙ (ap (λ (w : List Found). before ++ w) (sym split) ∙ so))

  -- an answer that is given up at one leaf
  pub answer_stop : (pattern : Path) (now : ℕ) (before all : List Found) (s : Stop) (room old : ℕ) → room ≡ old → IsStop s room (before ++ chosen pattern now (spot_of l.at l.found ∷ [])) → before ++ chosen pattern now (spots_in left) ≡ all → IsStop s old all
  answer_stop pattern now before all s room old unchanged h so =
      let one : List Found = chosen pattern now (spot_of l.at l.found ∷ []) in
      let whole : (before ++ one) ++ chosen pattern now (spots_in rest) ≡ all = answer_step pattern now before (before ++ one) all refl so in
      let P : ℕ → Type 0 = λ n. IsStop s n all in
      subst P unchanged (stop_at s room ((before ++ one) ++ chosen pattern now (spots_in rest)) all whole (stop_more s room (before ++ one) (chosen pattern now (spots_in rest)) h))

  -- a leaf that is copied
  pub copy_step : (done new : List Leaf) (all : Spots) → new ≡ done ++ l ∷ [] → spots_in done ++ spots_in left ≡ all → spots_in new ++ spots_in rest ≡ all
  copy_step done new all put so =
      rw put (ap (λ (w : Spots). w ++ spots_in rest) (in_two done (l ∷ [])) ∙ (append_assoc (spots_in done) (spot_of l.at l.found ∷ []) (spots_in rest) ∙ (ap (λ (w : List Leaf). spots_in done ++ spots_in w) (sym is) ∙ so)))

  -- a leaf whose rest begins earlier
  pub rise_step : (ks : Path) (k : List ℕ) (higher : Leaf) (done new : List Leaf) (all : Spots) → higher.found ≡ l.found → levels_from higher.at l.found.topic ≡ ks ++ k ∷ path_of l → new ≡ done ++ higher ∷ []
      → spots_in done ++ under_all ks (under k (spots_in left)) ≡ all → spots_in new ++ under_all ks (under k (spots_in rest)) ≡ all
  rise_step ks k higher done new all same path put so =
      let one : spot_of higher.at higher.found ∷ [] ≡ under_all ks ((k ∷ path_of l, l.found) ∷ []) = rw (same, path) (sym (under_one ks (k ∷ path_of l) l.found)) in
      let split : under_all ks (under k (spots_in left)) ≡ (spot_of higher.at higher.found ∷ []) ++ under_all ks (under k (spots_in rest)) =
      ap (λ (ls : List Leaf). under_all ks (under k (spots_in ls))) is ∙ (under_all_two ks ((k ∷ path_of l, l.found) ∷ []) (under k (spots_in rest)) ∙ ap (λ (w : Spots). w ++ under_all ks (under k (spots_in rest))) (sym one)) in
      rw put (ap (λ (w : Spots). w ++ under_all ks (under k (spots_in rest))) (in_two done (higher ∷ [])) ∙ (append_assoc (spots_in done) (spot_of higher.at higher.found ∷ []) (under_all ks (under k (spots_in rest))) ∙ (ap (λ (w : Spots). spots_in done ++ w) (sym split) ∙ so)))

pub next_leaf : (ls : List Leaf) (i : ℕ) (l : Leaf) → i < length ls → l ≡ get_or ls i l → drop i ls ≡ l ∷ drop (i + 1) ls
next_leaf ls i l small is = drop_more ls i l small ∙ ap (λ (x : Leaf). x ∷ drop (i + 1) ls) (sym is)

pub none_below : (ks : Path) → under_all ks [] ≡ []
none_below [] = refl
none_below (k ∷ ks) = ap (under k) (none_below ks)

-- ---- the whole bucket, as the contracts of the calls say it

zero_is : (n : ℕ) → n ≡ 0 → (n == 0) ≡ true
zero_is n h = rw h refl

more_is : (n : ℕ) → 0 < n → (n == 0) ≡ false
more_is n h = grind (arith, nat_tests)

pub empty_is : (r : Bool) (n : ℕ) (ls : List Leaf) → n ≡ length ls → r ≡ (n == 0) → r ≡ is_nothing (spots_in ls)
empty_is r n [] many h = h ∙ zero_is n many
empty_is r n (l ∷ ls) many h = h ∙ more_is n (omega (arith, many))

pub sorted_empty : (ls : List Leaf) → ls ≡ [] → Sorted (spots_in ls)
sorted_empty ls h = rw h (sorted_none path_cmp)

module _ (at i : ℕ) (t : List ℕ) (ls items : List Leaf) (same : ls ≡ items) where
  pub found_is : (view : Spots) (l : Leaf) → spots_in items ≡ view → IsHere (levels_from at t) ls i → l ≡ get_or items i l → Some l.found ≡ found_at (levels_from at t) view
  found_is view l is here there =
      let one : found_at (levels_from at t) (spots_in items) ≡ Some (get_or items i l).found = rw same at (found_here (levels_from at t) ls i l here) in
      rw (← is) (ap (λ (x : Leaf). Some x.found) there ∙ sym one)

  pub there_is : (view : Spots) → spots_in items ≡ view → IsHere (levels_from at t) ls i → true ≡ is_there (levels_from at t) view
  there_is view is here = rw (← is, ← same) (sym (there_here (levels_from at t) ls i here))

  pub none_is : (view : Spots) → spots_in items ≡ view → Sorted (spots_in items) → IsGap (levels_from at t) ls i → None ≡ found_at (levels_from at t) view
  none_is view is s gap =
      let P : List Leaf → Type 0 = λ w. Sorted (spots_in w) in
      rw (← is, ← same) (sym (absent_gap (levels_from at t) ls i (subst P (sym same) s) gap))

  pub unchanged_is : (view : Spots) → spots_in items ≡ view → Sorted (spots_in items) → IsGap (levels_from at t) ls i → view ≡ remove_entry (is_at (path_cmp (levels_from at t))) view
  unchanged_is view is s gap =
      let P : List Leaf → Type 0 = λ w. Sorted (spots_in w) in
      rw (← is, ← same) (sym (unchanged_gap (levels_from at t) ls i (subst P (sym same) s) gap))

  pub gone_is : (rest new : List Leaf) → rest ≡ remove items i → new ≡ rest → IsHere (levels_from at t) ls i → spots_in new ≡ remove_entry (is_at (path_cmp (levels_from at t))) (spots_in items)
  gone_is rest new gone shrunk here = rw (shrunk, gone, ← same) (gone_here (levels_from at t) ls i here)

  pub put_is : (f : Found) → t ≡ f.topic → IsHere (levels_from at t) ls i → spots_in (slice_set items i (record { found = f; at = at })) ≡ insert_entry path_cmp (spots_in items) (levels_from at f.topic) f
  put_is f topic here = let P : List ℕ → Type 0 = λ u. IsHere (levels_from at u) ls i in rw (← same) (set_here f at ls i (subst P topic here))

  pub new_is : (f : Found) (mid new : List Leaf) → t ≡ f.topic → mid ≡ items → new ≡ insert mid i (record { found = f; at = at }) → IsGap (levels_from at t) ls i → spots_in new ≡ insert_entry path_cmp (spots_in items) (levels_from at f.topic) f
  new_is f mid new topic unchanged put gap = let P : List ℕ → Type 0 = λ u. IsGap (levels_from at u) ls i in rw (put, unchanged, ← same) (set_gap f at ls i (subst P topic gap))

-- ---- one message alone

pub put_one : (q p : Path) (f g : Found) → is_there q ((p, g) ∷ []) ≡ true → insert_entry path_cmp ((p, g) ∷ []) q f ≡ (q, f) ∷ []
put_one q p f g there = at (path_cmp q p) refl
  where
    at : (o : Ordering) → path_cmp q p ≡ o → insert_entry path_cmp ((p, g) ∷ []) q f ≡ (q, f) ∷ []
    at Less is = absurd (cc (rw is at there))
    at Equal is = rw is (ap (λ (r : Path). (r, f) ∷ []) (sym (exact_paths q p is)))
    at Greater is = absurd (cc (rw is at there))

pub one_found : (q p : Path) (g : Found) → is_there q ((p, g) ∷ []) ≡ true → Some g ≡ found_at q ((p, g) ∷ [])
one_found q p g there = at (path_cmp q p) refl
  where
    at : (o : Ordering) → path_cmp q p ≡ o → Some g ≡ found_at q ((p, g) ∷ [])
    at Less is = absurd (cc (rw is at there))
    at Equal is = rw is refl
    at Greater is = absurd (cc (rw is at there))

-- ---- one step of a loop over the leaves, as the goals say it

module _ (ls : List Leaf) (i : ℕ) (l : Leaf) (small : i < length ls) (is : l ≡ get_or ls i l) where
  pub copied_step : (copy : Leaf) (done new : List Leaf) (all : Spots) → copy ≡ l → new ≡ done ++ copy ∷ [] → spots_in done ++ spots_in (drop i ls) ≡ all → spots_in new ++ spots_in (drop (i + 1) ls) ≡ all
  copied_step copy done new all same put so = copy_step l (drop i ls) (drop (i + 1) ls) (next_leaf ls i l small is) done new all (put ∙ ap (λ (x : Leaf). done ++ x ∷ []) same) so

  pub risen_step : (ks : Path) (k : List ℕ) (copy higher : Leaf) (done new : List Leaf) (all : Spots) → copy ≡ l → higher.found ≡ copy.found → levels_from higher.at copy.found.topic ≡ ks ++ k ∷ path_of copy → new ≡ done ++ higher ∷ []
      → spots_in done ++ under_all ks (under k (spots_in (drop i ls))) ≡ all → spots_in new ++ under_all ks (under k (spots_in (drop (i + 1) ls))) ≡ all
  risen_step ks k copy higher done new all same found path put so =
      rise_step l (drop i ls) (drop (i + 1) ls) (next_leaf ls i l small is) ks k higher done new all (rw same at found) (rw same at path) put so

pub risen_all : (ks : Path) (k : List ℕ) (ls : List Leaf) (i : ℕ) (done all : Spots) → length ls ≤ i → done ++ under_all ks (under k (spots_in (drop i ls))) ≡ all → done ≡ all
risen_all ks k ls i done all h so =
    let none : under_all ks (under k (spots_in (drop i ls))) ≡ [] = rw (drop_all i ls h) (none_below ks) in
    sym (append-nil done) ∙ (ap (λ (w : Spots). done ++ w) (sym none) ∙ so)
