-- What a filter chooses of messages.
use Rattle.rs_tree_bucket.proofs.Spots.{Spots}
use Rattle.std.proofs.Common.{◌≡◌, ℕ, Bool, true, false, not, ◌&&◌, List, [], ◌∷◌, ◌++◌, refl}
use Rattle.rs_message.specs.Messages.{is_expired}
use Rattle.rs_tree_bucket.specs.Chosen.{chosen_by}

abbrev pub Test : Type 0
Test = List (List ℕ) → Bool

pub chosen-append : (test : Test) (now : ℕ) (xs ys : Spots) → chosen_by test now (xs ++ ys) ≡ chosen_by test now xs ++ chosen_by test now ys
chosen-append test now [] ys = refl
chosen-append test now (s ∷ ss) ys = at (test s.0 && not (is_expired now s.1.message)) refl (chosen-append test now ss ys)
  where
    at : (b : Bool) → (test s.0 && not (is_expired now s.1.message)) ≡ b → chosen_by test now (ss ++ ys) ≡ chosen_by test now ss ++ chosen_by test now ys → chosen_by test now (s ∷ ss ++ ys) ≡ chosen_by test now (s ∷ ss) ++ chosen_by test now ys
    at true is more = rw (is, more) refl
    at false is more = rw (is, more) refl
