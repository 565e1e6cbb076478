-- Messages below one level.
use Rattle.std.proofs.Common.{sym, ap, ◌≡◌, ℕ, Bool, false, List, [], ◌∷◌, ◌++◌, refl, ◌∙◌, None, Result, Ok, Err}
use Rattle.std.proofs.lemmas.List.{append-nil}
use Rattle.std.specs.Map.{remove_entry}
use Rattle.std.specs.BTreeMap.{insert_entry, is_at}
use Rattle.std.specs.Cmp.Lexicographic.{slice_cmp}
use Rattle.std.specs.Ordering.{nat_cmp, is_eq}
use Rattle.rs_tree_bucket.specs.Spots.{IsFull, under, found_at}
use Rattle.rs_tree_bucket.proofs.Spots.{Path, Spots}
use Rattle.std.specs.Prelude.{IfOk, OnErr}
use Rattle.std.specs.declared.cmp.Ordering.{Ordering}
use Rattle.std.specs.declared.cmp.Ordering.TheVariants.{Less, Equal, Greater}
use Rattle.std.proofs.lemmas.Cmp.{nat_list_cmp_total, tied_itself}
use Rattle.rs_message.specs.declared.found.Found.{Found}
use Rattle.rs_topic.specs.Order.{path_cmp}

abbrev pub level_cmp : List ℕ → List ℕ → Ordering
level_cmp = slice_cmp nat_cmp

-- ---- a Set

pub insert_one : (q : List ℕ) (p : Path) (f : Found) (w : Spots) → insert_entry path_cmp (under q w) (q ∷ p) f ≡ under q (insert_entry path_cmp w p f)
insert_one q p f [] = refl
insert_one q p f (s ∷ ss) = at (path_cmp p s.0) refl (insert_one q p f ss)
  where
    at : (o : Ordering) → path_cmp p s.0 ≡ o → insert_entry path_cmp (under q ss) (q ∷ p) f ≡ under q (insert_entry path_cmp ss p f) → insert_entry path_cmp (under q (s ∷ ss)) (q ∷ p) f ≡ under q (insert_entry path_cmp (s ∷ ss) p f)
    at Less is more = rw (tied_itself nat_list_cmp_total q, is) refl
    at Equal is more = rw (tied_itself nat_list_cmp_total q, is) refl
    at Greater is more = rw (tied_itself nat_list_cmp_total q, is, more) refl

pub full_insert : (w : Spots) (p : List (List ℕ)) (f : Found) → IsFull (insert_entry path_cmp w p f)
full_insert [] p f = tt
full_insert (s ∷ ss) p f = at (path_cmp p s.0) refl
  where
    at : (o : Ordering) → path_cmp p s.0 ≡ o → IsFull (insert_entry path_cmp (s ∷ ss) p f)
    at Less h = rw h tt
    at Equal h = rw h tt
    at Greater h = rw h tt

-- ---- a Clear

pub remove_one : (q : List ℕ) (p : Path) (w : Spots) → remove_entry (is_at (path_cmp (q ∷ p))) (under q w) ≡ under q (remove_entry (is_at (path_cmp p)) w)
remove_one q p [] = refl
remove_one q p (s ∷ ss) = at (path_cmp p s.0) refl (remove_one q p ss)
  where
    at : (o : Ordering) → path_cmp p s.0 ≡ o → remove_entry (is_at (path_cmp (q ∷ p))) (under q ss) ≡ under q (remove_entry (is_at (path_cmp p)) ss) → remove_entry (is_at (path_cmp (q ∷ p))) (under q (s ∷ ss)) ≡ under q (remove_entry (is_at (path_cmp p)) (s ∷ ss))
    at Less is more = rw (tied_itself nat_list_cmp_total q, is, more) refl
    at Equal is more = rw (tied_itself nat_list_cmp_total q, is) refl
    at Greater is more = rw (tied_itself nat_list_cmp_total q, is, more) refl

-- ---- a look-up

-- other children have none of a child's paths
pub other_child : (q k : List ℕ) (p : List (List ℕ)) (w rest : Spots) → is_eq (level_cmp q k) ≡ false → found_at (q ∷ p) (under k w ++ rest) ≡ found_at (q ∷ p) rest
other_child q k p [] rest h = refl
other_child q k p (s ∷ ss) rest h = at (level_cmp q k) refl (other_child q k p ss rest h)
  where
    at : (o : Ordering) → level_cmp q k ≡ o → found_at (q ∷ p) (under k ss ++ rest) ≡ found_at (q ∷ p) rest → found_at (q ∷ p) (under k (s ∷ ss) ++ rest) ≡ found_at (q ∷ p) rest
    at Less is more = rw is more
    at Equal is more = absurd (cc (is, h))
    at Greater is more = rw is more

pub same_child : (q : List ℕ) (p : List (List ℕ)) (w rest : Spots) → found_at (q ∷ p) rest ≡ None → found_at (q ∷ p) (under q w ++ rest) ≡ found_at p w
same_child q p [] rest h = h
same_child q p (s ∷ ss) rest h = at (path_cmp p s.0) refl (same_child q p ss rest h)
  where
    at : (o : Ordering) → path_cmp p s.0 ≡ o → found_at (q ∷ p) (under q ss ++ rest) ≡ found_at p ss → found_at (q ∷ p) (under q (s ∷ ss) ++ rest) ≡ found_at p (s ∷ ss)
    at Less is more = rw (tied_itself nat_list_cmp_total q, is) more
    at Equal is more = rw (tied_itself nat_list_cmp_total q, is) refl
    at Greater is more = rw (tied_itself nat_list_cmp_total q, is) more

pub found_one : (q : List ℕ) (p : Path) (w : Spots) → found_at (q ∷ p) (under q w) ≡ found_at p w
found_one q p w = ap (found_at (q ∷ p)) (sym (append-nil (under q w))) ∙ same_child q p w [] refl

pub if_err : {T E P : Type 0} (r : Result T E) → P → OnErr r P
if_err (Ok x) p = tt
if_err (Err x) p = p

pub was_by : {T E : Type 0} (r : Result T E) (a b : T) → IfOk r (λ w. w ≡ a) → a ≡ b → IfOk r (λ w. w ≡ b)
was_by (Ok x) a b h e = h ∙ e
was_by (Err x) a b h e = tt
