-- The bytes of a level, in the label itself, in a topic or behind it.
use Rattle.std.specs.Prelude.{◌≡◌, ℕ, ◌≤◌, List, length, take, drop, Option, Some, None}
use Rattle.rs_tree_bucket.specs.declared.key.Key.{Key}
use Rattle.rs_tree_bucket.specs.declared.label.LabelText.{LabelText}
use Rattle.rs_tree_bucket.specs.declared.label.LabelText.TheVariants.{Short, Part, Long}
use Rattle.rs_tree_bucket.specs.Keys.{IsKey, padded}

abbrev pub text_of : LabelText → List ℕ
text_of (Short bytes n) = take n bytes
text_of (Part n from f) = take n (drop from f.topic)
text_of (Long v) = v.value.items

abbrev pub IsText : LabelText → Type 0
IsText (Short bytes n) = (n ≤ 14) × (bytes ≡ padded 14 (take n bytes))
IsText (Part n from f) = (from ≤ length f.topic) × (n ≤ length (drop from f.topic))
IsText (Long v) = Unit {0}

abbrev pub IsKeyIfAny : List ℕ → Option Key → Type 0
IsKeyIfAny level None = Unit {0}
IsKeyIfAny level (Some key) = IsKey level key
