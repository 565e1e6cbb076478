-- How an operation changes the number of topics that hold a message.
use Rattle.std.proofs.Common.{◌≡◌, ℕ, ◌+◌, ◌<◌, ◌≤◌, inl, inr, Bool, true, false, cond, List, [], ◌∷◌, ◌++◌, length, refl, sym, ap, subst, ◌∙◌, arith, append_assoc, fold, Option, Some, None, is_some}
use Rattle.std.specs.Prelude.{nat_le}
use Rattle.std.specs.Option.{unwrap_or, option_map}
use Rattle.std.specs.List.{filter, sum_by}
use Rattle.std.specs.List.Sorted.{IsStrictlySortedBy}
use Rattle.std.specs.Map.{keys_of, values_of, lookup, remove_entry}
use Rattle.std.specs.BTreeMap.{insert_entry, is_at}
use Rattle.std.specs.Cmp.{IsTotalOrder}
use Rattle.std.specs.Ordering.{match_ordering, ordering_reverse}
use Rattle.std.specs.declared.cmp.Ordering.{Ordering}
use Rattle.std.specs.declared.cmp.Ordering.TheVariants.{Less, Equal, Greater}
use Rattle.std.proofs.lemmas.Map.Keys.{sorted_tail}
use Rattle.std.proofs.lemmas.Map.Entries.{sum_by-insert_entry, sum_by-remove_entry}
use Rattle.std.proofs.lemmas.List.{length-map}
use Rattle.std.proofs.lemmas.Bool.{le-leb, lt-leb}
use Rattle.rs_topic.specs.Order.{topic_cmp}
use Rattle.rs_topic.specs.TopicOrder.{topic_total}
use Rattle.rs_message.specs.Values.{MessageValue}
use Rattle.rs_store.proofs.Entries.{Among, behind}

abbrev Retained : Type 0
Retained = List (List ℕ × MessageValue)

abbrev one : MessageValue → ℕ
one m = 1

ones : (xs : List MessageValue) (n : ℕ) → fold (λ a (x : MessageValue). a + 1) n xs ≡ n + length xs
ones [] n = omega arith
ones (x ∷ xs) n = omega (arith, ones xs (n + 1))

many : (retained : Retained) → sum_by one (values_of retained) ≡ length retained
many retained = ones (values_of retained) 0 ∙ (omega arith ∙ length-map retained (λ (e : List ℕ × MessageValue). e.1))

inserted : (retained : Retained) (k : List ℕ) (v : MessageValue) (o : Option MessageValue) → o ≡ lookup (is_at (topic_cmp k)) retained → IsStrictlySortedBy topic_cmp (keys_of retained)
    → length (insert_entry topic_cmp retained k v) + unwrap_or (option_map one o) 0 ≡ length retained + 1
inserted retained k v o is sorted =
    let P : Option MessageValue → Type 0 = λ w. sum_by one (values_of (insert_entry topic_cmp retained k v)) + unwrap_or (option_map one w) 0 ≡ sum_by one (values_of retained) + 1 in
    let h : P o = subst P (sym is) (sum_by-insert_entry one topic_total retained k v sorted) in
    omega (arith, many retained, many (insert_entry topic_cmp retained k v), h)

pub insert_old : (retained : Retained) (k : List ℕ) (v : MessageValue) (o : Option MessageValue) → o ≡ lookup (is_at (topic_cmp k)) retained → IsStrictlySortedBy topic_cmp (keys_of retained) → is_some o ≡ true → length (insert_entry topic_cmp retained k v) ≡ length retained
insert_old retained k v (Some x) is sorted there = omega (arith, inserted retained k v (Some x) is sorted)
insert_old retained k v None is sorted there = absurd (cc (there))

pub insert_new : (retained : Retained) (k : List ℕ) (v : MessageValue) (o : Option MessageValue) → o ≡ lookup (is_at (topic_cmp k)) retained → IsStrictlySortedBy topic_cmp (keys_of retained) → is_some o ≡ false → length (insert_entry topic_cmp retained k v) ≡ length retained + 1
insert_new retained k v (Some x) is sorted there = absurd (cc (there))
insert_new retained k v None is sorted there = omega (arith, inserted retained k v None is sorted)

pub remove_le : (test : List ℕ → Bool) (retained : Retained) → length (remove_entry test retained) ≤ length retained
remove_le test retained = omega (arith, many retained, many (remove_entry test retained), sum_by-remove_entry one test retained)

-- ---- as tests

pub space_if_few : (retained : Retained) (k : List ℕ) (v : MessageValue) (limit : ℕ) → IsStrictlySortedBy topic_cmp (keys_of retained) → length retained < limit → nat_le (length (insert_entry topic_cmp retained k v)) limit ≡ true
space_if_few retained k v limit sorted few = le-leb (length (insert_entry topic_cmp retained k v)) limit (omega (arith, few, inserted retained k v (lookup (is_at (topic_cmp k)) retained) refl sorted))

pub space_if_there : (retained : Retained) (k : List ℕ) (v : MessageValue) (limit : ℕ) → IsStrictlySortedBy topic_cmp (keys_of retained) → length retained ≤ limit → is_some (lookup (is_at (topic_cmp k)) retained) ≡ true → nat_le (length (insert_entry topic_cmp retained k v)) limit ≡ true
space_if_there retained k v limit sorted fits there = le-leb (length (insert_entry topic_cmp retained k v)) limit (omega (arith, fits, insert_old retained k v (lookup (is_at (topic_cmp k)) retained) refl sorted there))

pub no_space : (retained : Retained) (k : List ℕ) (v : MessageValue) (limit : ℕ) → IsStrictlySortedBy topic_cmp (keys_of retained) → limit ≤ length retained → is_some (lookup (is_at (topic_cmp k)) retained) ≡ false → nat_le (length (insert_entry topic_cmp retained k v)) limit ≡ false
no_space retained k v limit sorted full new = lt-leb (length (insert_entry topic_cmp retained k v)) limit (omega (arith, full, insert_new retained k v (lookup (is_at (topic_cmp k)) retained) refl sorted new))

pub space_after_clear : (test : List ℕ → Bool) (retained : Retained) (limit : ℕ) → length retained ≤ limit → nat_le (length (remove_entry test retained)) limit ≡ true
space_after_clear test retained limit fits = le-leb (length (remove_entry test retained)) limit (omega (arith, fits, remove_le test retained))

pub filter_few : {A : Type 0} (p : A → Bool) (xs : List A) → length (filter p xs) ≤ length xs
filter_few p [] = omega arith
filter_few p (x ∷ xs) = at (p x) (filter_few p xs)
  where
    at : (b : Bool) → length (filter p xs) ≤ length xs → length (cond b (x ∷ filter p xs) (filter p xs)) ≤ length (x ∷ xs)
    at true few = omega (arith, few)
    at false few = omega (arith, few)

pub space_after_sweep : (p : List ℕ × MessageValue → Bool) (retained : Retained) (limit : ℕ) → length retained ≤ limit → nat_le (length (filter p retained)) limit ≡ true
space_after_sweep p retained limit fits = le-leb (length (filter p retained)) limit (omega (arith, fits, filter_few p retained))

-- ---- a removal

pub remove_there : (test : List ℕ → Bool) (retained : Retained) → is_some (lookup test retained) ≡ true → length (remove_entry test retained) + 1 ≡ length retained
remove_there test [] h = absurd (cc (h))
remove_there test (e ∷ es) h = at (test e.0) refl h (λ k. remove_there test es k)
  where
    at : (b : Bool) → test e.0 ≡ b → is_some (lookup test (e ∷ es)) ≡ true → (is_some (lookup test es) ≡ true → length (remove_entry test es) + 1 ≡ length es) → length (remove_entry test (e ∷ es)) + 1 ≡ length (e ∷ es)
    at true is k more = rw is (omega arith)
    at false is k more = let m : length (remove_entry test es) + 1 ≡ length es = more (rw is at k) in rw is (omega arith)

pub remove_absent : {K X : Type 0} (test : K → Bool) (retained : List (K × X)) → is_some (lookup test retained) ≡ false → remove_entry test retained ≡ retained
remove_absent test [] h = refl
remove_absent {K = K} {X = X} test (e ∷ es) h = at (test e.0) refl h (λ k. remove_absent test es k)
  where
    at : (b : Bool) → test e.0 ≡ b → is_some (lookup test (e ∷ es)) ≡ false → (is_some (lookup test es) ≡ false → remove_entry test es ≡ es) → remove_entry test (e ∷ es) ≡ e ∷ es
    at true is k more = absurd (cc (is, k))
    at false is k more = rw is (ap (λ (l : List (K × X)). e ∷ l) (more (rw is at k)))

-- ---- an insertion behind all others

pub insert_last : {K X : Type 0} (R : K → K → Ordering) → IsTotalOrder R → (retained rest : List (K × X)) (k : K) (v : X) → IsStrictlySortedBy R (keys_of (retained ++ (k, v) ∷ rest)) → insert_entry R retained k v ≡ retained ++ (k, v) ∷ []
insert_last R total [] rest k v sorted = refl
insert_last {K = K} {X = X} R total (e ∷ es) rest k v sorted =
    let below : R e.0 k ≡ Less = behind R e (es ++ (k, v) ∷ rest) k v sorted (there es) in
    at (R k e.0) (ordered (R k e.0) (total.antisymm e.0 k) below) (insert_last R total es rest k v (sorted_tail R e.0 (keys_of (es ++ (k, v) ∷ rest)) sorted))
  where
    there : (xs : List (K × X)) → Among (k, v) (xs ++ (k, v) ∷ rest)
    there [] = inl refl
    there (x ∷ xs) = inr (there xs)

    ordered : (o : Ordering) → R e.0 k ≡ ordering_reverse o → R e.0 k ≡ Less → o ≡ Greater
    ordered Less is less = absurd (cc (is, less))
    ordered Equal is less = absurd (cc (is, less))
    ordered Greater is less = refl

    at : (o : Ordering) → o ≡ Greater → insert_entry R es k v ≡ es ++ (k, v) ∷ [] → match_ordering o ((k, v) ∷ e ∷ es) ((e.0, v) ∷ es) (e ∷ insert_entry R es k v) ≡ e ∷ es ++ (k, v) ∷ []
    at o is more = rw is (ap (λ (w : List (K × X)). e ∷ w) more)

-- what was copied, and what is left to copy
pub insert_next : {K X : Type 0} (R : K → K → Ordering) → IsTotalOrder R → (retained rest whole : List (K × X)) (k : K) (v : X) → retained ++ (k, v) ∷ rest ≡ whole → IsStrictlySortedBy R (keys_of whole) → insert_entry R retained k v ++ rest ≡ whole
insert_next {K = K} {X = X} R total retained rest whole k v is sorted =
    let P : List (K × X) → Type 0 = λ w. IsStrictlySortedBy R (keys_of w) in
    ap (λ w. w ++ rest) (insert_last R total retained rest k v (subst P (sym is) sorted)) ∙ (append_assoc retained ((k, v) ∷ []) rest ∙ is)
