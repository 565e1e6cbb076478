use Rattle.std.proofs.Common.{◌∙◌, ap}
use Rattle.rs_tree_bucket.specs.Spots.{is_nothing}
use Rattle.rs_tree_bucket.proofs.Buckets.{empty_is}
use Rattle.rs_tree_bucket.proofs.leaves.Leaves.is_empty.Goals as goal

pub returns : goal.returns
returns c = empty_is c.is_empty.result c.self.inside.leaves.len c.self.inside.leaves.items c.self.inside.leaves.ok.0 c.is_empty.ensures ∙ ap is_nothing c.self.view_is
