-- A Sweep of the messages of a bucket.
use Rattle.std.proofs.Common.{◌≡◌, ℕ, Bool, true, false, not, List, [], ◌∷◌, refl, ap}
use Rattle.std.specs.List.{filter}
use Rattle.rs_message.specs.Messages.{is_expired}
use Rattle.rs_topic.specs.Order.{path_cmp}
use Rattle.rs_tree_bucket.specs.declared.leaf.Leaf.{Leaf}
use Rattle.rs_tree_bucket.specs.Buckets.{spots_in}
use Rattle.rs_tree_bucket.specs.Spots.{Spot, spot_of}
use Rattle.rs_tree_bucket.specs.Sweeping.{spot_stays}
use Rattle.rs_tree_bucket.proofs.Buckets.{Sorted}
use Rattle.rs_store.proofs.Entries.{sorted_filter}

pub swept_leaves : (moment : ℕ) (ls : List Leaf) → spots_in (filter (λ (l : Leaf). not (is_expired moment l.found.message)) ls) ≡ filter (spot_stays moment) (spots_in ls)
swept_leaves moment [] = refl
swept_leaves moment (l ∷ ls) = at (not (is_expired moment l.found.message)) refl (swept_leaves moment ls)
  where
    at : (b : Bool) → not (is_expired moment l.found.message) ≡ b → spots_in (filter (λ (l : Leaf). not (is_expired moment l.found.message)) ls) ≡ filter (spot_stays moment) (spots_in ls)
        → spots_in (filter (λ (l : Leaf). not (is_expired moment l.found.message)) (l ∷ ls)) ≡ filter (spot_stays moment) (spots_in (l ∷ ls))
    at true is more = rw is (ap (λ (w : List Spot). spot_of l.at l.found ∷ w) more)
    at false is more = rw is more

pub sorted_swept : (moment : ℕ) (w new : List Spot) → Sorted w → new ≡ filter (spot_stays moment) w → Sorted new
sorted_swept moment w new s is = rw is (sorted_filter path_cmp (spot_stays moment) w s)
