use Rattle.std.proofs.Common.{List, ap, ◌∙◌}
use Rattle.std.specs.List.{filter}
use Rattle.rs_tree_bucket.specs.Buckets.{spots_in}
use Rattle.rs_tree_bucket.specs.Spots.{Spot}
use Rattle.rs_tree_bucket.specs.Sweeping.{spot_stays}
use Rattle.rs_tree_bucket.proofs.Sweeping.{sorted_swept}
use Rattle.rs_tree_bucket.proofs.leaves.Leaves.sweep.Goals as goal

pub invariant_of-self : goal.invariant_of-self
invariant_of-self c =
    sorted_swept c.args.moment (spots_in c.self.inside.leaves.items) (spots_in c.shrink_to_fit.new.self.items) c.self.invariant (ap spots_in c.shrink_to_fit.ensures.items ∙ c.sweep_each.ensures)

pub returns : goal.returns
returns c = ap spots_in c.shrink_to_fit.ensures.items ∙ (c.sweep_each.ensures ∙ ap (λ (w : List Spot). filter (spot_stays c.args.moment) w) c.self.view_is)
