-- Which messages below a spot a Sweep leaves.
use Rattle.std.specs.Prelude.{ℕ, Bool, not}
use Rattle.rs_message.specs.Messages.{is_expired}
use Rattle.rs_tree_bucket.specs.Spots.{Spot}

abbrev pub is_expired_spot : ℕ → Spot → Bool
is_expired_spot now s = is_expired now s.1.message

abbrev pub spot_stays : ℕ → Spot → Bool
spot_stays moment s = not (is_expired moment s.1.message)
