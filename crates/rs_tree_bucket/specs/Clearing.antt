-- What a Clear leaves of some messages.
use Rattle.std.specs.Prelude.{◌≡◌, ℕ, true, false, List, [], Result, Ok, Err}
use Rattle.std.specs.Map.{remove_entry}
use Rattle.std.specs.BTreeMap.{is_at}
use Rattle.rs_topic.specs.Order.{path_cmp}
use Rattle.rs_tree_bucket.specs.Spots.{Spot, IsFull, is_there}
use Rattle.rs_tree_bucket.specs.declared.cleared.Cleared.{Cleared}
use Rattle.rs_tree_bucket.specs.declared.cleared.Cleared.TheVariants.{Missing, Left, Last}

-- there was none at the path, or the others are left, or there are no others and nothing is changed yet
abbrev pub ClearsAs : Cleared → List Spot → List Spot → List (List ℕ) → Type 0
ClearsAs Missing old new path = (is_there path old ≡ false) × (new ≡ old)
ClearsAs Left old new path = (is_there path old ≡ true) × (new ≡ remove_entry (is_at (path_cmp path)) old) × IsFull new
ClearsAs Last old new path = (is_there path old ≡ true) × (remove_entry (is_at (path_cmp path)) old ≡ []) × (new ≡ old)

abbrev pub Clears : {E : Type 0} → Result Cleared E → List Spot → List Spot → List (List ℕ) → Type 0
Clears (Ok cleared) old new path = ClearsAs cleared old new path
Clears (Err e) old new path = new ≡ old
