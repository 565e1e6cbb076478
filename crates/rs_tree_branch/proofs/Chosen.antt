-- What a filter chooses of a branch's messages.
use Rattle.rs_tree_bucket.proofs.Spots.{Spots, Path}
use Rattle.std.proofs.Common.{◌≡◌, ℕ, Bool, true, false, not, ◌&&◌, List, [], ◌∷◌, refl, sym, ◌∙◌, Option, Some, None}
use Rattle.std.proofs.lemmas.Bool.{and_parts}
use Rattle.std.specs.Str.{bytes_eq}
use Rattle.rs_message.specs.declared.found.Found.{Found}
use Rattle.rs_topic.specs.Topics.{hash, plus}
use Rattle.rs_topic.specs.Matching.{fits, is_wild, begins_with_dollar}
use Rattle.rs_message.specs.Messages.{is_expired}
use Rattle.rs_tree_bucket.specs.Spots.{under}
use Rattle.rs_tree_bucket.specs.Chosen.{chosen_by, chosen, own_chosen}
use Rattle.rs_tree_bucket.proofs.Chosen.{Test}
use Rattle.rs_tree_branch.specs.Spots.{own}
use Rattle.rs_tree_branch.specs.Chosen.{chosen_at_root, is_matched, is_plain_below}
use Rattle.rs_topic.proofs.Rests.{fits_here}
use Rattle.std.specs.Cmp.Lexicographic.{bytes_decides}

-- two tests with equal results choose the same messages
pub chosen_same : (test other : Test) (now : ℕ) (ss : Spots) → ((p : List (List ℕ)) → test p ≡ other p) → chosen_by test now ss ≡ chosen_by other now ss
chosen_same test other now [] same = refl
chosen_same test other now (s ∷ ss) same = rw (same s.0, chosen_same test other now ss same) refl

pub goes : (test further : Test) (now : ℕ) (k : List ℕ) → ((p : Path) → test (k ∷ p) ≡ further p) → (w : Spots) → chosen_by test now (under k w) ≡ chosen_by further now w
goes test further now k same [] = refl
goes test further now k same (s ∷ ss) = rw (same s.0, goes test further now k same ss) refl

pub stops : (test : Test) (now : ℕ) (k : List ℕ) → ((p : Path) → test (k ∷ p) ≡ false) → (w : Spots) → chosen_by test now (under k w) ≡ []
stops test now k fails [] = refl
stops test now k fails (s ∷ ss) = rw (fails s.0) (stops test now k fails ss)

-- a hash and a plus
pub hash_goes : (level : List ℕ) (more : List (List ℕ)) → fits (level ∷ more) [] ≡ true → (k : List ℕ) (p : List (List ℕ)) → fits (level ∷ more) (k ∷ p) ≡ fits (level ∷ more) p
hash_goes level more h k p = fits_here level more (k ∷ p) h ∙ sym (fits_here level more p h)

pub plus_goes : (level : List ℕ) (more : List (List ℕ)) → fits (level ∷ more) [] ≡ false → bytes_eq level (plus ∷ []) ≡ true → (k : List ℕ) (p : List (List ℕ)) → fits (level ∷ more) (k ∷ p) ≡ fits more p
plus_goes level more h is k p = rw (h, is) refl

pub plus_not_here : (level : List ℕ) (more : List (List ℕ)) (now : ℕ) (retained : Option Found) → fits (level ∷ more) [] ≡ false → chosen (level ∷ more) now (own retained) ≡ []
plus_not_here level more now None h = refl
plus_not_here level more now (Some f) h = rw h refl

pub all_here : (level : List ℕ) (more : List (List ℕ)) (now : ℕ) (retained : Option Found) → fits (level ∷ more) [] ≡ true → chosen (level ∷ more) now (own retained) ≡ own_chosen now retained
all_here level more now None h = refl
all_here level more now (Some f) h = by (not (is_expired now f.message)) refl
  where
    by : (b : Bool) → not (is_expired now f.message) ≡ b → chosen (level ∷ more) now (own (Some f)) ≡ own_chosen now (Some f)
    by true is = rw (h, is) refl
    by false is = rw (h, is) refl

-- ---- the root

-- a child that a loop visits, and one that it skips
pub plain_goes : (pattern : List (List ℕ)) (k : List ℕ) → begins_with_dollar k ≡ false → (p : List (List ℕ)) → is_plain_below pattern (k ∷ p) ≡ fits pattern p
plain_goes pattern k h p = rw h refl

pub dollar_stops : (pattern : List (List ℕ)) (k : List ℕ) → begins_with_dollar k ≡ true → (p : List (List ℕ)) → is_plain_below pattern (k ∷ p) ≡ false
dollar_stops pattern k h p = rw h refl

-- no wildcard
pub root_exact : (pattern : List (List ℕ)) (level : List ℕ) (more : List (List ℕ)) (now : ℕ) (ss : Spots) → pattern ≡ level ∷ more → fits (level ∷ more) [] ≡ false → bytes_eq level (plus ∷ []) ≡ false
    → chosen_at_root pattern now ss ≡ chosen pattern now ss
root_exact pattern level more now ss whole h is = rw whole (chosen_same (is_matched (level ∷ more)) (fits (level ∷ more)) now ss same)
  where
    always : (a b : Bool) → (a ≡ true → b ≡ false) → (a && not b) ≡ a
    always true b f = rw (f refl) refl
    always false b f = refl

    dollar_not_hash : (k : List ℕ) → bytes_eq level (hash ∷ []) ≡ true → bytes_eq level k ≡ true → begins_with_dollar k ≡ false
    dollar_not_hash k w e =
        let l : level ≡ hash ∷ [] = (bytes_decides level (hash ∷ [])).0 w in
        let n : level ≡ k = (bytes_decides level k).0 e in
        let same : k ≡ hash ∷ [] = sym n ∙ l in
        rw same refl

    off : (b : Bool) (c : Bool) → (b ≡ true → c ≡ false) → (b && c) ≡ false
    off true c f = f refl
    off false c f = refl

    same : (p : List (List ℕ)) → is_matched (level ∷ more) p ≡ fits (level ∷ more) p
    same [] = rw h refl
    same (k ∷ p) = always (fits (level ∷ more) (k ∷ p)) (is_wild (level ∷ more) && begins_with_dollar k)
        (λ f. rw is (off (bytes_eq level (hash ∷ [])) (begins_with_dollar k) (λ w. dollar_not_hash k w (and_parts (bytes_eq level k) (fits more p) (rw (h, is) at f)).0)))
