-- How many bytes messages below a spot count.
use Rattle.std.specs.Prelude.{ℕ, ◌+◌, List, [], ◌∷◌, Option, Some, None}
use Rattle.rs_message.specs.declared.found.Found.{Found}
use Rattle.rs_tree_bucket.specs.Spots.{Spot}
use Rattle.rs_store.specs.Bytes.{bytes_of}

abbrev pub found_bytes : Found → ℕ
found_bytes f = bytes_of (f.topic, f.message)

abbrev pub bytes_if_found : Option Found → ℕ
bytes_if_found None = 0
bytes_if_found (Some f) = found_bytes f

abbrev pub weight : List Spot → ℕ
weight [] = 0
weight (s ∷ ss) = found_bytes s.1 + weight ss
