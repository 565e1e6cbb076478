-- Lemmas on the subscriptions of a session: what the entries of the map say, and what a caller needs of the finite map.
use Rattle.std.proofs.Common.{◌≡◌, ℕ, ◌+◌, ◌-◌, ◌≤◌, Bool, true, false, cond, ◌||◌, nat_eq, nat_lt, length, List, [], ◌∷◌, Option, Some, None, is_some, refl, sym, ap, subst, ◌∙◌, arith}
use borrow.Author.Tests.{ltb-true}
use Rattle.std.specs.Cmp.Lexicographic.{slice_cmp, pointwise, texts_ties, bytes_decides}
use Rattle.std.specs.Ordering.{nat_cmp, eq_by_cmp}
use Rattle.std.specs.List.{IsDistinct, AllByRecursion}
use Rattle.std.specs.Map.{lookup, keys_of}
use Rattle.std.proofs.lemmas.Cmp.{nat_list_cmp_total, nat_list_eq_equiv}
use Rattle.std.proofs.lemmas.Map.Keys.{IsDistinct-head, IsDistinct-tail}
use Rattle.std.specs.FinMap.{get, insert, remove, len, from_entries, find, get-from_entries, get-insert, get-remove, len-insert, len-remove, len-empty, same_map, nat_cmp-IsAntisymmetric, slice_cmp-IsAntisymmetric}
use Rattle.rs_session.specs.declared.subscriptions.Subscription.{Subscription}
use Rattle.rs_session.specs.Subscriptions.{Subscriptions, is_subscribed, can_subscribe}
use Rattle.rs_session.specs.declared.subscriptions.TheConstants.{MAX_SUBSCRIPTIONS}

abbrev Entries : Type 0
Entries = List (List ℕ × Subscription)

-- two maps that find the same are one
pub same_subscriptions : (m n : Subscriptions) → ((q : List ℕ) → get m q ≡ get n q) → m ≡ n
same_subscriptions m n h = same_map nat_list_cmp_total (slice_cmp-IsAntisymmetric nat_cmp-IsAntisymmetric) m n h

-- two filters tie exactly if their bytes are equal
tied : (p q : List ℕ) → eq_by_cmp (slice_cmp nat_cmp) p q ≡ pointwise nat_eq p q
tied p q = sym (texts_ties p q)

find_lookup : (q : List ℕ) (es : Entries) → find (slice_cmp nat_cmp) q es ≡ lookup (pointwise nat_eq q) es
find_lookup q [] = refl
find_lookup q (e ∷ es) = λ i. cond (tied q e.0 i) (Some e.1) (find_lookup q es i)

-- a filter finds in the finite map what it finds among the entries
pub get_by_filter : (es : Entries) (q : List ℕ) → get (from_entries {R = slice_cmp nat_cmp} es) q ≡ lookup (pointwise nat_eq q) es
get_by_filter es q = get-from_entries nat_list_cmp_total es q ∙ find_lookup q es

no_later : (q : List ℕ) (es : Entries) → AllByRecursion (λ y. pointwise nat_eq q y ≡ false) (keys_of es) → lookup (pointwise nat_eq q) es ≡ None
no_later q [] h = refl
no_later q (e ∷ es) h = ap (λ b. cond b (Some e.1) (lookup (pointwise nat_eq q) es)) h.0 ∙ no_later q es h.1

-- there are as many as entries
pub len_by_filter : (es : Entries) → IsDistinct (pointwise nat_eq) (keys_of es) → len (from_entries {R = slice_cmp nat_cmp} es) ≡ length es
len_by_filter [] h = len-empty (slice_cmp nat_cmp) Subscription
len_by_filter (e ∷ es) h =
    let rest : Subscriptions = from_entries es in
    let absent : get rest e.0 ≡ None = get_by_filter es e.0 ∙ no_later e.0 es (IsDistinct-head (pointwise nat_eq) e.0 (keys_of es) h) in
    len-insert nat_list_cmp_total rest e.0 e.1 ∙ ap (λ o. cond (is_some o) (len rest) (len rest + 1)) absent
    ∙ omega (arith, len_by_filter es (IsDistinct-tail (pointwise nat_eq) e.0 (keys_of es) h))

-- the entries fs find w at the filter k, and what es find at each other
abbrev pub FindsAt : Entries → Entries → List ℕ → Option Subscription → Type 0
FindsAt es fs k w = (q : List ℕ) → lookup (pointwise nat_eq q) fs ≡ cond (pointwise nat_eq k q) w (lookup (pointwise nat_eq q) es)

get_after : (es fs : Entries) (k : List ℕ) (w : Option Subscription) → FindsAt es fs k w
    → (q : List ℕ) → get (from_entries {R = slice_cmp nat_cmp} fs) q ≡ cond (eq_by_cmp (slice_cmp nat_cmp) q k) w (get (from_entries {R = slice_cmp nat_cmp} es) q)
get_after es fs k w h q =
    get_by_filter fs q ∙ h q
    ∙ (λ i. cond ((nat_list_eq_equiv.symm k q ∙ texts_ties q k) i) w (sym (get_by_filter es q) i))

-- an entry that is put is a subscription that is inserted
pub inserted : (m : Subscriptions) (es fs : Entries) (k : List ℕ) (v : Subscription) → from_entries es ≡ m → FindsAt es fs k (Some v) → from_entries fs ≡ insert m k v
inserted m es fs k v e h =
    same_subscriptions _ _ (λ q. get_after es fs k (Some v) h q ∙ sym (get-insert nat_list_cmp_total (from_entries es) k v q)) ∙ ap (λ n. insert n k v) e

-- an entry that is taken out is a subscription that is removed
pub removed : (m : Subscriptions) (es fs : Entries) (k : List ℕ) → from_entries es ≡ m → FindsAt es fs k None → from_entries fs ≡ remove m k
removed m es fs k e h =
    same_subscriptions _ _ (λ q. get_after es fs k None h q ∙ sym (get-remove nat_list_cmp_total (from_entries es) k q)) ∙ ap (λ n. remove n k) e

-- ---- for a caller

absent : (o : Option Subscription) → is_some o ≡ false → o ≡ None
absent None e = refl
absent (Some v) e = cc

-- a filter that is not subscribed finds none
pub get_absent : (m : Subscriptions) (k : List ℕ) → is_subscribed k m ≡ false → get m k ≡ None
get_absent m k e = absent (get m k) e

get_inserted : (m : Subscriptions) (k : List ℕ) (v : Subscription) (q : List ℕ) → get (insert m k v) q ≡ cond (eq_by_cmp (slice_cmp nat_cmp) q k) (Some v) (get m q)
get_inserted m k v q = get-insert nat_list_cmp_total m k v q

get_removed : (m : Subscriptions) (k : List ℕ) (q : List ℕ) → get (remove m k) q ≡ cond (eq_by_cmp (slice_cmp nat_cmp) q k) None (get m q)
get_removed m k q = get-remove nat_list_cmp_total m k q

-- if w is what m finds at k, it need not be put there
put_alike : (m : Subscriptions) (k : List ℕ) (w : Option Subscription) → get m k ≡ w → (q : List ℕ) → cond (eq_by_cmp (slice_cmp nat_cmp) q k) w (get m q) ≡ get m q
put_alike m k w e q = by (eq_by_cmp (slice_cmp nat_cmp) q k) refl
  where
    by : (b : Bool) → eq_by_cmp (slice_cmp nat_cmp) q k ≡ b → cond b w (get m q) ≡ get m q
    by true t = sym (ap (get m) ((bytes_decides q k).0 (sym (tied q k) ∙ t)) ∙ e)
    by false t = refl

-- the second of two writes at k stays
twice : (b : Bool) (v w o : Option Subscription) → cond b w (cond b v o) ≡ cond b w o
twice true v w o = refl
twice false v w o = refl

-- one that was inserted at a new filter, and removed again, leaves nothing
pub remove_inserted : (m : Subscriptions) (k : List ℕ) (v : Subscription) → get m k ≡ None → remove (insert m k v) k ≡ m
remove_inserted m k v e =
    same_subscriptions _ _ (λ q. get_removed (insert m k v) k q ∙ ap (cond (eq_by_cmp (slice_cmp nat_cmp) q k) None) (get_inserted m k v q)
    ∙ twice (eq_by_cmp (slice_cmp nat_cmp) q k) (Some v) None (get m q) ∙ put_alike m k None e q)

-- ---- how many there are

one_more : (b : Bool) (n most : ℕ) → b || nat_lt n most ≡ true → n ≤ most → cond b n (n + 1) ≤ most
one_more true n most can few = few
one_more false n most can few = omega (arith, ltb-true n most can)

-- one that the session can subscribe to keeps the limit
pub len_inserted : (m : Subscriptions) (k : List ℕ) (v : Subscription) → can_subscribe k m ≡ true → len m ≤ MAX_SUBSCRIPTIONS → len (insert m k v) ≤ MAX_SUBSCRIPTIONS
len_inserted m k v can few =
    let kept : cond (is_subscribed k m) (len m) (len m + 1) ≤ MAX_SUBSCRIPTIONS = one_more (is_subscribed k m) (len m) MAX_SUBSCRIPTIONS can few in
    subst (λ n. n ≤ MAX_SUBSCRIPTIONS) (sym (len-insert nat_list_cmp_total m k v)) kept

one_less : (b : Bool) (n : ℕ) → cond b (n - 1) n ≤ n
one_less true n = omega arith
one_less false n = omega arith

pub len_removed : (m : Subscriptions) (k : List ℕ) → len (remove m k) ≤ len m
len_removed m k = subst (λ n. n ≤ len m) (sym (len-remove nat_list_cmp_total m k)) (one_less (is_subscribed k m) (len m))
