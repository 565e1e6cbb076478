-- What a filter chooses of messages below a spot.
use Rattle.std.specs.Prelude.{ℕ, Bool, ◌&&◌, not, cond, List, [], ◌∷◌, Option, Some, None}
use Rattle.rs_message.specs.declared.found.Found.{Found}
use Rattle.rs_message.specs.Messages.{is_expired}
use Rattle.rs_topic.specs.Matching.{fits}
use Rattle.rs_tree_bucket.specs.Spots.{Spot}

-- those whose paths pass, and which are not expired
abbrev pub chosen_by : (List (List ℕ) → Bool) → ℕ → List Spot → List Found
chosen_by test now [] = []
chosen_by test now (s ∷ ss) = cond (test s.0 && not (is_expired now s.1.message)) (s.1 ∷ chosen_by test now ss) (chosen_by test now ss)

-- those at whose paths the filter's levels fit
abbrev pub chosen : List (List ℕ) → ℕ → List Spot → List Found
chosen pattern now ss = chosen_by (fits pattern) now ss

-- the message of the spot itself
abbrev pub own_chosen : ℕ → Option Found → List Found
own_chosen now None = []
own_chosen now (Some f) = cond (not (is_expired now f.message)) (f ∷ []) []
