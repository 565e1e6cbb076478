-- The tree's messages, each with its path, as a list of topics and messages.
use Rattle.std.proofs.Common.{◌≡◌, ◌==◌, ℕ, ◌+◌, ◌-◌, ◌<◌, ◌≤◌, ◌^◌, Bool, true, false, not, ◌&&◌, List, [], ◌∷◌, map, length, refl, sym, ap, subst, ◌∙◌, arith, Option, Some, None, is_some, Bor}
use Rattle.std.specs.List.{filter, slice_split}
use Rattle.std.specs.List.Sorted.{IsStrictlySortedBy}
use Rattle.std.specs.Map.{keys_of, lookup, remove_entry}
use Rattle.std.specs.BTreeMap.{insert_entry, is_at}
use Rattle.std.specs.Option.{option_copied}
use Rattle.std.specs.Ordering.{is_eq}
use Rattle.std.specs.declared.cmp.Ordering.{Ordering}
use Rattle.std.specs.declared.cmp.Ordering.TheVariants.{Less, Equal, Greater}
use Rattle.std.proofs.lemmas.Bool.Decides.{nat_tests}
use Rattle.std.proofs.lemmas.List.{length-map}
use Rattle.rs_topic.specs.Topics.{levels, slash, dollar}
use Rattle.rs_topic.specs.Order.{path_cmp, topic_cmp}
use Rattle.rs_topic.specs.TopicOrder.{exact_paths, exact_topics, topic_total}
use Rattle.rs_message.specs.Values.{MessageValue}
use Rattle.rs_message.specs.Messages.{is_expired}
use Rattle.rs_message.specs.declared.found.Found.{Found}
use Rattle.rs_topic.specs.Matching.{begins_with_dollar}
use Rattle.rs_message.specs.declared.entry.Operation.{Operation}
use Rattle.rs_message.specs.declared.entry.Operation.TheVariants.{Set, Clear, Sweep}
use Rattle.rs_store.specs.Contents.{after, found_of, is_answered, is_gone, stays}
use Rattle.rs_store.specs.declared.limit.TheConstants.{MAX_TOPICS}
use Rattle.rs_tree_bucket.specs.Sweeping.{is_expired_spot, spot_stays}
use Rattle.rs_tree.specs.declared.totals.Totals.{Totals}
use Rattle.rs_tree.specs.Trees.{ArePlaced, AreTotals, IsTree}
use Rattle.rs_tree_branch.specs.Chosen.{chosen_at_root, is_matched, is_dollar}
use Rattle.rs_topic.proofs.Rests.{from_start}
use Rattle.rs_topic.specs.Rests.{levels_from}
use Rattle.rs_tree_bucket.specs.Spots.{Spot, found_at, is_there}
use Rattle.rs_tree_bucket.specs.Weights.{bytes_if_found, found_bytes, weight}
use Rattle.rs_store.specs.Bytes.{bytes_at, bytes_of, retained_bytes}
use Rattle.rs_store.proofs.Bytes.{bytes_at_le, bytes_filter_le, bytes_insert, bytes_none, bytes_remove}
use Rattle.rs_tree_branch.proofs.Weighing.{pairs_weight}
use Rattle.rs_tree_branch.specs.Spots.{pair_of, pairs}
use Rattle.std.specs.Prelude.{nat_le}
use Rattle.rs_store.proofs.Entries.{sorted_none, sorted_insert, sorted_remove, sorted_filter}
use Rattle.rs_store.proofs.Maps.{filter_few, insert_old, insert_new, no_space, remove_there, remove_absent, space_if_few, space_if_there, space_after_clear, space_after_sweep}

-- ---- a Set

pub pairs_insert : (ss : List Spot) (p : List (List ℕ)) (f : Found) → ArePlaced ss → p ≡ levels f.topic → pairs (insert_entry path_cmp ss p f) ≡ insert_entry topic_cmp (pairs ss) f.topic f.message
pairs_insert [] p f a h = refl
pairs_insert (s ∷ ss) p f a h = at (path_cmp p s.0) refl (pairs_insert ss p f a.1 h)
  where
    same : topic_cmp f.topic s.1.topic ≡ path_cmp p s.0
    same = rw (h, ← a.0) refl

    at : (o : Ordering) → path_cmp p s.0 ≡ o → pairs (insert_entry path_cmp ss p f) ≡ insert_entry topic_cmp (pairs ss) f.topic f.message → pairs (insert_entry path_cmp (s ∷ ss) p f) ≡ insert_entry topic_cmp (pairs (s ∷ ss)) f.topic f.message
    at Less is more = rw (same, is) refl
    at Equal is more = rw (same, is) (ap (λ (t : List ℕ). let e : List ℕ × MessageValue = (t, f.message) in e ∷ pairs ss) (exact_topics f.topic s.1.topic (same ∙ is)))
    at Greater is more = rw (same, is) (ap (λ (l : List (List ℕ × MessageValue)). pair_of s ∷ l) more)

pub placed_insert : (ss : List Spot) (p : List (List ℕ)) (f : Found) → ArePlaced ss → p ≡ levels f.topic → ArePlaced (insert_entry path_cmp ss p f)
placed_insert [] p f a h = (sym h, tt)
placed_insert (s ∷ ss) p f a h = at (path_cmp p s.0) refl (placed_insert ss p f a.1 h)
  where
    at : (o : Ordering) → path_cmp p s.0 ≡ o → ArePlaced (insert_entry path_cmp ss p f) → ArePlaced (insert_entry path_cmp (s ∷ ss) p f)
    at Less is more = rw is (sym h, a)
    at Equal is more = rw is (sym h ∙ exact_paths p s.0 is, a.1)
    at Greater is more = rw is (a.0, more)

-- ---- a Clear

pub pairs_remove : (ss : List Spot) (p : List (List ℕ)) (t : List ℕ) → ArePlaced ss → p ≡ levels t → pairs (remove_entry (is_at (path_cmp p)) ss) ≡ remove_entry (is_at (topic_cmp t)) (pairs ss)
pairs_remove [] p t a h = refl
pairs_remove (s ∷ ss) p t a h = at (is_eq (path_cmp p s.0)) refl (pairs_remove ss p t a.1 h)
  where
    same : is_eq (topic_cmp t s.1.topic) ≡ is_eq (path_cmp p s.0)
    same = rw (h, ← a.0) refl

    at : (b : Bool) → is_eq (path_cmp p s.0) ≡ b → pairs (remove_entry (is_at (path_cmp p)) ss) ≡ remove_entry (is_at (topic_cmp t)) (pairs ss) → pairs (remove_entry (is_at (path_cmp p)) (s ∷ ss)) ≡ remove_entry (is_at (topic_cmp t)) (pairs (s ∷ ss))
    at true is more = rw (same, is) refl
    at false is more = rw (same, is) (ap (λ (l : List (List ℕ × MessageValue)). pair_of s ∷ l) more)

pub placed_remove : (ss : List Spot) (test : List (List ℕ) → Bool) → ArePlaced ss → ArePlaced (remove_entry test ss)
placed_remove [] test a = tt
placed_remove (s ∷ ss) test a = at (test s.0) refl (placed_remove ss test a.1)
  where
    at : (b : Bool) → test s.0 ≡ b → ArePlaced (remove_entry test ss) → ArePlaced (remove_entry test (s ∷ ss))
    at true is more = rw is a.1
    at false is more = rw is (a.0, more)

-- ---- how many there are

pub there_pairs : (ss : List Spot) (p : List (List ℕ)) (t : List ℕ) → ArePlaced ss → p ≡ levels t → is_there p ss ≡ is_some (lookup (is_at (topic_cmp t)) (pairs ss))
there_pairs [] p t a h = refl
there_pairs (s ∷ ss) p t a h = at (is_eq (path_cmp p s.0)) refl (there_pairs ss p t a.1 h)
  where
    same : is_eq (topic_cmp t s.1.topic) ≡ is_eq (path_cmp p s.0)
    same = rw (h, ← a.0) refl

    at : (b : Bool) → is_eq (path_cmp p s.0) ≡ b → is_there p ss ≡ is_some (lookup (is_at (topic_cmp t)) (pairs ss)) → is_there p (s ∷ ss) ≡ is_some (lookup (is_at (topic_cmp t)) (pairs (s ∷ ss)))
    at true is more = rw (same, is) refl
    at false is more = rw (same, is) more

-- the message at a path counts what that of its topic does
found_counts : (ss : List Spot) (p : List (List ℕ)) (t : List ℕ) → ArePlaced ss → p ≡ levels t → bytes_if_found (found_at p ss) ≡ bytes_at t (pairs ss)
found_counts [] p t a h = refl
found_counts (s ∷ ss) p t a h = at (path_cmp p s.0) refl (found_counts ss p t a.1 h)
  where
    same : topic_cmp t s.1.topic ≡ path_cmp p s.0
    same = rw (h, ← a.0) refl

    at : (o : Ordering) → path_cmp p s.0 ≡ o → bytes_if_found (found_at p ss) ≡ bytes_at t (pairs ss) → bytes_if_found (found_at p (s ∷ ss)) ≡ bytes_at t (pairs (s ∷ ss))
    at Less is more = rw (same, is) more
    at Equal is more = rw (same, is) (ap (λ (u : List ℕ). bytes_of (u, s.1.message)) (sym (exact_topics t s.1.topic (same ∙ is))))
    at Greater is more = rw (same, is) more

-- the same as the calls say it
pub found_bytes_at : (ss : List Spot) (t : List ℕ) (o : Option Found) → ArePlaced ss → o ≡ found_at (levels_from 0 t) ss → bytes_if_found o ≡ bytes_at t (pairs ss)
found_bytes_at ss t o a is = ap bytes_if_found is ∙ found_counts ss (levels_from 0 t) t a (from_start t)

pub found_bytes_le : (ss : List Spot) (t : List ℕ) (o : Option Found) (totals : Totals) → ArePlaced ss → AreTotals (pairs ss) totals → o ≡ found_at (levels_from 0 t) ss → bytes_if_found o ≤ totals.bytes
found_bytes_le ss t o totals a are is = omega (arith, are.weighed, found_bytes_at ss t o a is, bytes_at_le (pairs ss) t)

there_is : (ss : List Spot) (t : List ℕ) (b : Bool) → ArePlaced ss → b ≡ is_there (levels_from 0 t) ss → is_some (lookup (is_at (topic_cmp t)) (pairs ss)) ≡ b
there_is ss t b a is = sym (is ∙ there_pairs ss (levels_from 0 t) t a (from_start t))

module _ (ss : List Spot) (t : List ℕ) (totals : Totals) (a : ArePlaced ss) (are : AreTotals (pairs ss) totals) where
  -- o is the message that is replaced, if there is one, and both what all messages count with the new one besides
  pub set_old : (m : MessageValue) (o : Option Found) (both gone : ℕ) → IsStrictlySortedBy topic_cmp (keys_of (pairs ss)) → o ≡ found_at (levels_from 0 t) ss → is_some o ≡ true → both ≡ totals.bytes + bytes_of (t, m) → gone ≡ bytes_if_found o
      → AreTotals (insert_entry topic_cmp (pairs ss) t m) (record { count = totals.count; bytes = both - gone })
  set_old m o both gone sorted is some both_is gone_is = record {
    counted = insert_old (pairs ss) t m (lookup (is_at (topic_cmp t)) (pairs ss)) refl sorted (there_is ss t true a (sym some ∙ ap is_some is)) ∙ are.counted;
    weighed = omega (arith, are.weighed, both_is, gone_is, found_bytes_at ss t o a is, bytes_insert (pairs ss) t m sorted);
  }

  pub set_new : (m : MessageValue) (o : Option Found) (both gone : ℕ) → IsStrictlySortedBy topic_cmp (keys_of (pairs ss)) → o ≡ found_at (levels_from 0 t) ss → is_some o ≡ false → both ≡ totals.bytes + bytes_of (t, m) → gone ≡ bytes_if_found o
      → AreTotals (insert_entry topic_cmp (pairs ss) t m) (record { count = totals.count + 1; bytes = both - gone })
  set_new m o both gone sorted is none both_is gone_is = record {
    counted = omega (arith, are.counted, insert_new (pairs ss) t m (lookup (is_at (topic_cmp t)) (pairs ss)) refl sorted (there_is ss t false a (sym none ∙ ap is_some is)));
    weighed = omega (arith, are.weighed, both_is, gone_is, found_bytes_at ss t o a is, bytes_insert (pairs ss) t m sorted);
  }

  -- o is the message that is cleared, if there is one
  pub clear_old : (o : Option Found) (gone : ℕ) → true ≡ is_there (levels_from 0 t) ss → o ≡ found_at (levels_from 0 t) ss → gone ≡ bytes_if_found o
      → AreTotals (remove_entry (is_at (topic_cmp t)) (pairs ss)) (record { count = totals.count - 1; bytes = totals.bytes - gone })
  clear_old o gone there is gone_is = record {
    counted = omega (arith, are.counted, remove_there (is_at (topic_cmp t)) (pairs ss) (there_is ss t true a there));
    weighed = omega (arith, are.weighed, gone_is, found_bytes_at ss t o a is, bytes_remove (pairs ss) t);
  }

  pub clear_none : (o : Option Found) (gone : ℕ) → false ≡ is_there (levels_from 0 t) ss → o ≡ found_at (levels_from 0 t) ss → gone ≡ bytes_if_found o
      → AreTotals (remove_entry (is_at (topic_cmp t)) (pairs ss)) (record { count = totals.count; bytes = totals.bytes - gone })
  clear_none o gone there is gone_is = record {
    counted = ap length (remove_absent (is_at (topic_cmp t)) (pairs ss) (there_is ss t false a there)) ∙ are.counted;
    weighed = omega (arith, are.weighed, gone_is, found_bytes_at ss t o a is, bytes_remove (pairs ss) t);
  }

  pub some_counted : true ≡ is_there (levels_from 0 t) ss → 1 ≤ totals.count
  some_counted there = omega (arith, are.counted, remove_there (is_at (topic_cmp t)) (pairs ss) (there_is ss t true a there))

-- ---- the answer

dollar_level : (text : List ℕ) → is_dollar (levels text) ≡ begins_with_dollar text
dollar_level [] = refl
dollar_level (c ∷ cs) = at (c == slash) refl (slice_split (λ d. d == slash) cs) refl
  where
    at : (b : Bool) → (c == slash) ≡ b → (parts : List (List ℕ)) → slice_split (λ d. d == slash) cs ≡ parts → is_dollar (levels (c ∷ cs)) ≡ begins_with_dollar (c ∷ cs)
    at true is parts e = rw is (not_both c is)
      where
        not_both : (c : ℕ) → (c == slash) ≡ true → false ≡ (c == dollar)
        not_both c h = let same : c ≡ slash = grind (arith, nat_tests) in rw same refl
    at false is [] e = rw (is, e) refl
    at false is (q ∷ qs) e = rw (is, e) refl

pub answered : (pattern : List ℕ) (now : ℕ) (ss : List Spot) → ArePlaced ss → chosen_at_root (levels pattern) now ss ≡ map found_of (filter (is_answered pattern now) (pairs ss))
answered pattern now [] a = refl
answered pattern now (s ∷ ss) a = at (is_matched (levels pattern) s.0 && not (is_expired now s.1.message)) refl (answered pattern now ss a.1)
  where
    same : is_answered pattern now (pair_of s) ≡ (is_matched (levels pattern) s.0 && not (is_expired now s.1.message))
    same = rw (← a.0, dollar_level s.1.topic) refl

    at : (b : Bool) → (is_matched (levels pattern) s.0 && not (is_expired now s.1.message)) ≡ b → chosen_at_root (levels pattern) now ss ≡ map found_of (filter (is_answered pattern now) (pairs ss))
        → chosen_at_root (levels pattern) now (s ∷ ss) ≡ map found_of (filter (is_answered pattern now) (pairs (s ∷ ss)))
    at true is more = rw (same, is) (ap (λ (l : List Found). s.1 ∷ l) more)
    at false is more = rw (same, is) more

-- what stays of a tree with an operation
pub is_tree : (root new : List Spot) (operation : Operation) (totals n : Totals) → IsTree root totals → ArePlaced new → pairs new ≡ after (pairs root) operation → AreTotals (after (pairs root) operation) n → IsTree new n
is_tree root new operation totals n t placed is are = record {
  placed = placed;
  sorted = rw is (sorted operation);
  totals_are = let P : List (List ℕ × MessageValue) → Type 0 = λ l. AreTotals l n in subst P (sym is) are;
}
  where
    sorted : (operation : Operation) → IsStrictlySortedBy topic_cmp (keys_of (after (pairs root) operation))
    sorted (Set found) = sorted_insert topic_cmp topic_total (pairs root) found.topic found.message t.sorted
    sorted (Clear topic) = sorted_remove topic_cmp (is_at (topic_cmp topic)) (pairs root) t.sorted
    sorted (Sweep moment) = sorted_filter topic_cmp (stays moment) (pairs root) t.sorted

pub empty_tree : (root : List Spot) → root ≡ [] → IsTree root (record { count = 0; bytes = 0 })
empty_tree root h = rw h (record { placed = tt; sorted = sorted_none topic_cmp; totals_are = record { counted = refl; weighed = bytes_none } })

-- a Set where there may be one more topic
pub space_below : (root : List Spot) (t : List ℕ) (m : MessageValue) (totals : Totals) (limit : ℕ) → IsTree root totals → totals.count < limit → true ≡ nat_le (length (insert_entry topic_cmp (pairs root) t m)) limit
space_below root t m totals limit tree few = sym (space_if_few (pairs root) t m limit tree.sorted (omega (arith, tree.totals_are.counted, few)))

pub some_copied : (r : Option (Bor Found)) → is_some r ≡ is_some (option_copied r)
some_copied None = refl
some_copied (Some x) = refl

-- a Set where there may not; o is what `find` answered
pub space_retained : (root : List Spot) (t : List ℕ) (m : MessageValue) (o : Option Found) (totals : Totals) (limit : ℕ) → IsTree root totals → totals.count ≤ limit → limit ≤ totals.count → o ≡ found_at (levels_from 0 t) root
    → is_some o ≡ nat_le (length (insert_entry topic_cmp (pairs root) t m)) limit
space_retained root t m (Some f) totals limit tree fits full is = sym (space_if_there (pairs root) t m limit tree.sorted (omega (arith, tree.totals_are.counted, fits)) (there_is root t true tree.placed (ap is_some is)))
space_retained root t m None totals limit tree fits full is = sym (no_space (pairs root) t m limit tree.sorted (omega (arith, tree.totals_are.counted, full)) (there_is root t false tree.placed (ap is_some is)))

pub space_cleared : (root : List Spot) (t : List ℕ) (totals : Totals) (limit : ℕ) → IsTree root totals → totals.count ≤ limit → true ≡ nat_le (length (remove_entry (is_at (topic_cmp t)) (pairs root))) limit
space_cleared root t totals limit tree fits = sym (space_after_clear (is_at (topic_cmp t)) (pairs root) limit (omega (arith, tree.totals_are.counted, fits)))

-- ---- a Sweep

pub pairs_gone : (now : ℕ) (ss : List Spot) → length (filter (is_gone now) (pairs ss)) ≡ length (filter (is_expired_spot now) ss)
pairs_gone now [] = refl
pairs_gone now (s ∷ ss) = at (is_expired_spot now s) refl (pairs_gone now ss)
  where
    at : (b : Bool) → is_expired_spot now s ≡ b → length (filter (is_gone now) (pairs ss)) ≡ length (filter (is_expired_spot now) ss) → length (filter (is_gone now) (pairs (s ∷ ss))) ≡ length (filter (is_expired_spot now) (s ∷ ss))
    at true is more = rw is (omega (arith, more))
    at false is more = rw is more

pub pairs_swept : (moment : ℕ) (ss : List Spot) → pairs (filter (spot_stays moment) ss) ≡ filter (stays moment) (pairs ss)
pairs_swept moment [] = refl
pairs_swept moment (s ∷ ss) = at (spot_stays moment s) refl (pairs_swept moment ss)
  where
    at : (b : Bool) → spot_stays moment s ≡ b → pairs (filter (spot_stays moment) ss) ≡ filter (stays moment) (pairs ss) → pairs (filter (spot_stays moment) (s ∷ ss)) ≡ filter (stays moment) (pairs (s ∷ ss))
    at true is more = rw is (ap (λ (l : List (List ℕ × MessageValue)). pair_of s ∷ l) more)
    at false is more = rw is more

pub placed_swept : (moment : ℕ) (ss : List Spot) → ArePlaced ss → ArePlaced (filter (spot_stays moment) ss)
placed_swept moment [] a = tt
placed_swept moment (s ∷ ss) a = at (spot_stays moment s) refl (placed_swept moment ss a.1)
  where
    at : (b : Bool) → spot_stays moment s ≡ b → ArePlaced (filter (spot_stays moment) ss) → ArePlaced (filter (spot_stays moment) (s ∷ ss))
    at true is more = rw is (a.0, more)
    at false is more = rw is more

pub space_swept : (root : List Spot) (moment : ℕ) (totals : Totals) (limit : ℕ) → IsTree root totals → totals.count ≤ limit → true ≡ nat_le (length (filter (stays moment) (pairs root))) limit
space_swept root moment totals limit t fits = sym (space_after_sweep (stays moment) (pairs root) limit (omega (arith, t.totals_are.counted, fits)))

-- how many are left, as the call that counts them says it
pub left_counted : (moment : ℕ) (ss new : List Spot) (n : ℕ) → length (pairs ss) ≤ MAX_TOPICS → new ≡ filter (spot_stays moment) ss → (length new ≤ MAX_TOPICS → n ≡ length new) → n ≡ length (filter (stays moment) (pairs ss))
left_counted moment ss new n small is counted =
    let all = length-map ss pair_of in
    let left = length-map (filter (spot_stays moment) ss) pair_of in
    let same = ap (λ (w : List (List ℕ × MessageValue)). length w) (pairs_swept moment ss) in
    let new_is = ap (λ (w : List Spot). length w) is in
    let few = filter_few (spot_stays moment) ss in
    let n_is = counted (omega (arith, small, all, new_is, few)) in
    omega (arith, n_is, left, same, new_is)

-- how many bytes these count
pub left_weighed : (moment : ℕ) (ss new : List Spot) (n : ℕ) → retained_bytes (pairs ss) < 2 ^ 64 → new ≡ filter (spot_stays moment) ss → (0 + weight new < 2 ^ 64 → n ≡ 0 + weight new) → n ≡ retained_bytes (filter (stays moment) (pairs ss))
left_weighed moment ss new n light is added =
    let left : weight new ≡ retained_bytes (filter (stays moment) (pairs ss)) = ap weight is ∙ (pairs_weight (filter (spot_stays moment) ss) ∙ ap retained_bytes (pairs_swept moment ss)) in
    let all = added (omega (arith, light, left, bytes_filter_le (stays moment) (pairs ss))) in
    omega (arith, all, left)
