-- Messages below a chain of levels, level by level.
use Rattle.rs_tree_bucket.proofs.Chains.{behind_is}
use Rattle.rs_tree_bucket.proofs.Spots.{Path, Spots}
use Rattle.rs_tree_branch.proofs.Under.{insert_one, remove_one, found_one, level_cmp, other_child}
use Rattle.rs_tree_branch.proofs.Chosen.{goes, stops, hash_goes}
use Rattle.std.proofs.Common.{◌≡◌, ℕ, Bool, true, false, ◌||◌, List, [], ◌∷◌, ◌++◌, refl, sym, ap, ◌∙◌, Some, None}
use Rattle.std.proofs.lemmas.List.{append-nil}
use Rattle.std.specs.Map.{remove_entry}
use Rattle.std.specs.BTreeMap.{insert_entry, is_at}
use Rattle.std.specs.Ordering.{is_eq}
use Rattle.std.specs.Str.{bytes_eq}
use Rattle.std.specs.Cmp.Lexicographic.{bytes_decides}
use Rattle.std.specs.declared.cmp.Ordering.{Ordering}
use Rattle.std.specs.declared.cmp.Ordering.TheVariants.{Less, Equal, Greater}
use Rattle.std.proofs.lemmas.Map.Lookups.{exact_bytes}
use Rattle.rs_message.specs.declared.found.Found.{Found}
use Rattle.rs_topic.specs.Topics.{plus}
use Rattle.rs_topic.specs.Order.{path_cmp}
use Rattle.rs_topic.specs.Matching.{fits}
use Rattle.rs_tree_bucket.specs.Chains.{under_all, behind, past}
use Rattle.rs_tree_bucket.specs.Chosen.{chosen}
use Rattle.rs_tree_bucket.specs.Spots.{under, found_at, IsFull}
use Rattle.rs_topic.proofs.Rests.{fits_on, fits_not}

-- ---- whether there is anything

pub full_under : (k : List ℕ) (w : Spots) → IsFull w → IsFull (under k w)
full_under k [] f = f
full_under k (s ∷ ss) f = tt

pub full_below : (ks : Path) (w : Spots) → IsFull w → IsFull (under_all ks w)
full_below [] w f = f
full_below (k ∷ ks) w f = full_under k (under_all ks w) (full_below ks w f)

full_of : (k : List ℕ) (w : Spots) → IsFull (under k w) → IsFull w
full_of k [] f = f
full_of k (s ∷ ss) f = tt

pub full_inside : (ks : Path) (w : Spots) → IsFull (under_all ks w) → IsFull w
full_inside [] w f = f
full_inside (k ∷ ks) w f = full_inside ks w (full_of k (under_all ks w) f)

-- ---- paths behind a chain

other_level : (k q : List ℕ) → bytes_eq k q ≡ false → is_eq (level_cmp q k) ≡ false
other_level k q h = at (level_cmp q k) refl
  where
    at : (o : Ordering) → level_cmp q k ≡ o → is_eq (level_cmp q k) ≡ false
    at Less is = rw is refl
    at Greater is = rw is refl
    at Equal is = let same : q ≡ k = exact_bytes q k is in absurd (cc (h, (bytes_decides k q).1 (sym same)))

-- ---- a Set

pub insert_all : (ks p : Path) (f : Found) (w : Spots) → insert_entry path_cmp (under_all ks w) (ks ++ p) f ≡ under_all ks (insert_entry path_cmp w p f)
insert_all [] p f w = refl
insert_all (k ∷ ks) p f w = insert_one k (ks ++ p) f (under_all ks w) ∙ ap (under k) (insert_all ks p f w)

-- ---- a Clear

remove_all : (ks p : Path) (w : Spots) → remove_entry (is_at (path_cmp (ks ++ p))) (under_all ks w) ≡ under_all ks (remove_entry (is_at (path_cmp p)) w)
remove_all [] p w = refl
remove_all (k ∷ ks) p w = remove_one k (ks ++ p) (under_all ks w) ∙ ap (under k) (remove_all ks p w)

pub removed : (ks p r : Path) (w w' : Spots) → behind ks p ≡ Some r → w' ≡ remove_entry (is_at (path_cmp r)) w → under_all ks w' ≡ remove_entry (is_at (path_cmp p)) (under_all ks w)
removed ks p r w w' h is = rw (is, behind_is ks p r h) (sym (remove_all ks r w))

-- ---- a look-up

pub found_all : (ks p : Path) (w : Spots) → found_at (ks ++ p) (under_all ks w) ≡ found_at p w
found_all [] p w = refl
found_all (k ∷ ks) p w = found_one k (ks ++ p) (under_all ks w) ∙ found_all ks p w

no_end : (k : List ℕ) (w : Spots) → found_at [] (under k w) ≡ None
no_end k [] = refl
no_end k (s ∷ ss) = no_end k ss

pub found_behind : (ks p r : Path) (w : Spots) → behind ks p ≡ Some r → found_at p (under_all ks w) ≡ found_at r w
found_behind ks p r w h = rw (behind_is ks p r h) (found_all ks r w)

pub none_behind : (ks p : Path) (w : Spots) → behind ks p ≡ None → found_at p (under_all ks w) ≡ None
none_behind [] p w h = absurd (cc (h))
none_behind (k ∷ ks) [] w h = no_end k (under_all ks w)
none_behind (k ∷ ks) (q ∷ p) w h = at (bytes_eq k q) refl (none_behind ks p w)
  where
    at : (t : Bool) → bytes_eq k q ≡ t → (behind ks p ≡ None → found_at p (under_all ks w) ≡ None) → found_at (q ∷ p) (under k (under_all ks w)) ≡ None
    at true is more =
        let same : k ≡ q = (bytes_decides k q).0 is in
        rw same (found_one q p (under_all ks w) ∙ more (rw is at h))
    at false is more = ap (found_at (q ∷ p)) (sym (append-nil (under k (under_all ks w)))) ∙ other_child q k p (under_all ks w) [] (other_level k q is)

-- ---- an answer

hash_all : (level : List ℕ) (more ks : Path) (now : ℕ) (w : Spots) → fits (level ∷ more) [] ≡ true → chosen (level ∷ more) now (under_all ks w) ≡ chosen (level ∷ more) now w
hash_all level more [] now w h = refl
hash_all level more (k ∷ ks) now w h = goes (fits (level ∷ more)) (fits (level ∷ more)) now k (hash_goes level more h k) (under_all ks w) ∙ hash_all level more ks now w h

pub chosen_past : (ks pattern r : Path) (now : ℕ) (w : Spots) → past ks pattern ≡ Some r → chosen pattern now (under_all ks w) ≡ chosen r now w
chosen_past [] pattern r now w h = let same : pattern ≡ r = cc (h) in rw same refl
chosen_past (k ∷ ks) [] r now w h = absurd (cc (h))
chosen_past (k ∷ ks) (level ∷ more) r now w h = by (fits (level ∷ more) []) refl (chosen_past ks more r now w)
  where
    at : (t : Bool) → (bytes_eq level (plus ∷ []) || bytes_eq level k) ≡ t → fits (level ∷ more) [] ≡ false → (past ks more ≡ Some r → chosen more now (under_all ks w) ≡ chosen r now w) → chosen (level ∷ more) now (under k (under_all ks w)) ≡ chosen r now w
    at true is not_hash further = goes (fits (level ∷ more)) (fits more) now k (λ p. fits_on level more k p not_hash is) (under_all ks w) ∙ further (rw (not_hash, is) at h)
    at false is not_hash further = absurd (cc (h, not_hash, is))

    by : (t : Bool) → fits (level ∷ more) [] ≡ t → (past ks more ≡ Some r → chosen more now (under_all ks w) ≡ chosen r now w) → chosen (level ∷ more) now (under k (under_all ks w)) ≡ chosen r now w
    by true is further = let same : level ∷ more ≡ r = cc (h, is) in hash_all level more (k ∷ ks) now w is ∙ ap (λ (q : Path). chosen q now w) same
    by false is further = at (bytes_eq level (plus ∷ []) || bytes_eq level k) refl is further

pub none_past : (ks pattern : Path) (now : ℕ) (w : Spots) → past ks pattern ≡ None → chosen pattern now (under_all ks w) ≡ []
none_past [] pattern now w h = absurd (cc (h))
none_past (k ∷ ks) [] now w h = stops (fits []) now k (λ p. refl) (under_all ks w)
none_past (k ∷ ks) (level ∷ more) now w h = by (fits (level ∷ more) []) refl (none_past ks more now w)
  where
    at : (t : Bool) → (bytes_eq level (plus ∷ []) || bytes_eq level k) ≡ t → fits (level ∷ more) [] ≡ false → (past ks more ≡ None → chosen more now (under_all ks w) ≡ []) → chosen (level ∷ more) now (under k (under_all ks w)) ≡ []
    at true is not_hash further = goes (fits (level ∷ more)) (fits more) now k (λ p. fits_on level more k p not_hash is) (under_all ks w) ∙ further (rw (not_hash, is) at h)
    at false is not_hash further = stops (fits (level ∷ more)) now k (λ p. fits_not level more k p not_hash is) (under_all ks w)

    by : (t : Bool) → fits (level ∷ more) [] ≡ t → (past ks more ≡ None → chosen more now (under_all ks w) ≡ []) → chosen (level ∷ more) now (under k (under_all ks w)) ≡ []
    by true is further = absurd (cc (h, is))
    by false is further = at (bytes_eq level (plus ∷ []) || bytes_eq level k) refl is further

-- ---- the whole stem, as the contracts of the calls say it

pub set_whole : (ks p q : Path) (f : Found) (b b' old : Spots) → under_all ks b ≡ old → p ≡ ks ++ q → b' ≡ insert_entry path_cmp b q f → under_all ks b' ≡ insert_entry path_cmp old p f
set_whole ks p q f b b' old same is h = rw (h, is, ← same) (sym (insert_all ks q f b))

pub found_whole : (ks p q : Path) (b old : Spots) → under_all ks b ≡ old → p ≡ ks ++ q → found_at q b ≡ found_at p old
found_whole ks p q b old same is = rw (is, ← same) (sym (found_all ks q b))

-- a chain of two parts
pub joined : (a b : Path) (w : Spots) → under_all (a ++ b) w ≡ under_all a (under_all b w)
joined [] b w = refl
joined (k ∷ a) b w = ap (under k) (joined a b w)
