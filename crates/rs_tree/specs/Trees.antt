-- What a tree of topics keeps.
use Rattle.std.specs.Prelude.{◌≡◌, ℕ, List, [], ◌∷◌, length}
use Rattle.std.specs.List.Sorted.{IsStrictlySortedBy}
use Rattle.std.specs.Map.{keys_of}
use Rattle.rs_topic.specs.Order.{topic_cmp}
use Rattle.rs_topic.specs.Topics.{levels}
use Rattle.rs_message.specs.Values.{MessageValue}
use Rattle.rs_store.specs.Bytes.{retained_bytes}
use Rattle.rs_tree_bucket.specs.Spots.{Spot}
use Rattle.rs_tree_branch.specs.Spots.{pairs}
use Rattle.rs_tree.specs.declared.totals.Totals.{Totals}

-- each path is the levels of its topic
abbrev pub ArePlaced : List Spot → Type 0
ArePlaced [] = Unit {0}
ArePlaced (s ∷ ss) = (levels s.1.topic ≡ s.0) × ArePlaced ss

-- how many messages there are, and how many bytes they count
pub record AreTotals (retained : List (List ℕ × MessageValue)) (totals : Totals) : Type 0 where
  pub counted : length retained ≡ totals.count
  pub weighed : retained_bytes retained ≡ totals.bytes

-- each path is the levels of its topic, the messages are in the order of replay, and these are their totals
pub record IsTree (root : List Spot) (totals : Totals) : Type 0 where
  pub placed : ArePlaced root
  pub sorted : IsStrictlySortedBy topic_cmp (keys_of (pairs root))
  pub totals_are : AreTotals (pairs root) totals
