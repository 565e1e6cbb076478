-- The messages of a bucket, as it holds them.
use Rattle.std.specs.Prelude.{List, [], ◌∷◌}
use Rattle.rs_tree_bucket.specs.declared.bucket.Messages.{Messages}
use Rattle.rs_tree_bucket.specs.declared.bucket.Messages.TheVariants.{One, More}
use Rattle.rs_tree_bucket.specs.Spots.{Spot, spot_of}

abbrev pub spots_retained : Messages → List Spot
spots_retained (One at f) = spot_of at f ∷ []
spots_retained (More l) = l.value
