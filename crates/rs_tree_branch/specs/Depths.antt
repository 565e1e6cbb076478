-- No branch is as deep as the one that it stands in. Lemmas, which stand here since the models cite them.
use Rattle.std.specs.Prelude.{◌≤◌, max}
use Rattle.std.proofs.Common.{arith}
use Rattle.rs_tree_branch.specs.declared.branch.Branch.TheDeep.{deep-Below}
use Rattle.rs_tree_branch.specs.declared.branch.Below.{Below}
use Rattle.rs_tree_branch.specs.declared.branch.Below.TheVariants.{Chunk, Few, Inner}
use Rattle.rs_tree_branch.specs.Nodes.{depth_of}

pub below_falls : (b : Below) → max (deep-Below b) 0 ≤ depth_of b
below_falls (Few b) = omega arith
below_falls (Inner s) = omega arith
below_falls (Chunk b) = omega arith
