-- What a branch holds of its own, and messages without their paths.
use Rattle.std.specs.Prelude.{ℕ, List, [], ◌∷◌, Option, Some, None, map}
use Rattle.rs_message.specs.Values.{MessageValue}
use Rattle.rs_message.specs.declared.found.Found.{Found}
use Rattle.rs_tree_bucket.specs.Spots.{Spot}

-- the message of a node itself, with its path there
abbrev pub own : Option Found → List Spot
own None = []
own (Some f) = ([], f) ∷ []

abbrev pub pair_of : Spot → List ℕ × MessageValue
pair_of s = (s.1.topic, s.1.message)

abbrev pub pairs : List Spot → List (List ℕ × MessageValue)
pairs ss = map pair_of ss
