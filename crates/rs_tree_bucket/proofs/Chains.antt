-- The levels of a text that has a slash before each level.
use Rattle.std.proofs.Common.{◌≡◌, ◌==◌, ℕ, Bool, true, false, not, List, [], ◌∷◌, ◌++◌, refl, sym, ap, ◌∙◌, arith, append_assoc, Some}
use Rattle.std.proofs.lemmas.List.Splits.{slice_split-cons_yes, slice_split-cons_no}
use Rattle.std.specs.List.{onto_first}
use Rattle.std.specs.Str.{bytes_eq}
use Rattle.std.specs.Cmp.Lexicographic.{bytes_decides}
use Rattle.rs_topic.specs.Topics.{levels, slash, is_end}
use Rattle.rs_topic.proofs.LevelLemmas.{some_level}
use Rattle.rs_topic.specs.Rests.{levels_from}
use Rattle.rs_topic.proofs.Rests.{from_within}
use Rattle.rs_message.specs.declared.found.Found.{Found}
use Rattle.rs_tree_bucket.specs.Chains.{behind, under_all}
use Rattle.rs_tree_bucket.specs.Spots.{under}
use Rattle.rs_tree_bucket.proofs.Spots.{Path}

put_first : (c : ℕ) (xs ys : List (List ℕ)) → is_end xs ≡ false → onto_first c (xs ++ ys) ≡ onto_first c xs ++ ys
put_first c [] ys h = absurd (cc (h))
put_first c (x ∷ xs) ys h = refl

-- a slash ends a level
pub levels_joined : (a b : List ℕ) → levels (a ++ slash ∷ b) ≡ levels a ++ levels b
levels_joined [] b = refl
levels_joined (c ∷ cs) b = at (c == slash) refl (levels_joined cs b)
  where
    test : ℕ → Bool
    test d = d == slash

    at : (t : Bool) → (c == slash) ≡ t → levels (cs ++ slash ∷ b) ≡ levels cs ++ levels b → levels (c ∷ cs ++ slash ∷ b) ≡ levels (c ∷ cs) ++ levels b
    at true is more = slice_split-cons_yes test c (cs ++ slash ∷ b) is ∙ (ap (λ (l : List (List ℕ)). [] ∷ l) more ∙ ap (λ (l : List (List ℕ)). l ++ levels b) (sym (slice_split-cons_yes test c cs is)))
    at false is more = slice_split-cons_no test c (cs ++ slash ∷ b) is ∙ (ap (onto_first c) more ∙ (put_first c (levels cs) (levels b) (some_level cs) ∙ ap (λ (l : List (List ℕ)). l ++ levels b) (sym (slice_split-cons_no test c cs is))))

-- a chain with one level appended
pub one_longer : (chain level : List ℕ) → levels level ≡ level ∷ [] → levels_from 1 ((chain ++ slash ∷ []) ++ level) ≡ levels_from 1 chain ++ level ∷ []
one_longer chain level h = ap (levels_from 1) (append_assoc chain (slash ∷ []) level) ∙ at chain
  where
    at : (chain : List ℕ) → levels_from 1 (chain ++ slash ∷ level) ≡ levels_from 1 chain ++ level ∷ []
    at [] = from_within (slash ∷ level) 1 (omega arith) ∙ h
    at (c ∷ cs) = from_within (c ∷ cs ++ slash ∷ level) 1 (omega arith) ∙ (levels_joined cs level ∙ cc (sym (from_within (c ∷ cs) 1 (omega arith)), h))

-- a level that both rests begin with is appended to the levels that they share
pub shared_more : (all before now new left : List (List ℕ)) (level : List ℕ) → all ≡ before ++ now → now ≡ level ∷ left → new ≡ before ++ level ∷ [] → all ≡ new ++ left
shared_more all before now new left level h is more = rw (h, is, more) (sym (append_assoc before (level ∷ []) left))

-- texts for which `!=` is false are equal
pub levels_same : (a b : List ℕ) (r : Bool) → r ≡ not (bytes_eq a b) → r ≡ false → b ≡ a
levels_same a b r is h = at (bytes_eq a b) refl
  where
    at : (t : Bool) → bytes_eq a b ≡ t → b ≡ a
    at true e = sym ((bytes_decides a b).0 e)
    at false e = absurd (cc (is, h, e))

-- ---- paths behind a chain

pub behind_is : (ks p r : Path) → behind ks p ≡ Some r → p ≡ ks ++ r
behind_is [] p r h = cc (h)
behind_is (k ∷ ks) [] r h = absurd (cc (h))
behind_is (k ∷ ks) (q ∷ p) r h = at (bytes_eq k q) refl (behind_is ks p r)
  where
    at : (t : Bool) → bytes_eq k q ≡ t → (behind ks p ≡ Some r → p ≡ ks ++ r) → q ∷ p ≡ k ∷ ks ++ r
    at true is more = let same : k ≡ q = (bytes_decides k q).0 is in cc (same, more (rw is at h))
    at false is more = absurd (cc (h, is))

-- one message below a chain
pub under_one : (ks r : Path) (g : Found) → under_all ks ((r, g) ∷ []) ≡ (ks ++ r, g) ∷ []
under_one [] r g = refl
under_one (k ∷ ks) r g = ap (under k) (under_one ks r g)
