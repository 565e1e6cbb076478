use Rattle.std.proofs.Common.{ap, arith, length}
use Rattle.rs_tree_bucket.proofs.Clearing.{length_leaves}
use Rattle.rs_tree_bucket.proofs.Spots.{Spots}
use Rattle.rs_tree_bucket.proofs.leaves.Leaves.len.Goals as goal

pub returns : goal.returns
returns c = omega (arith, c.len.ensures, length_leaves c.self.inside.leaves.items, ap (λ (w : Spots). length w) c.self.view_is)
