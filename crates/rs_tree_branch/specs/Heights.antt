-- No child is as deep as its branch. Lemmas, which stand here since the models cite them.
use Rattle.std.specs.Prelude.{◌+◌, ◌≤◌, max, List, [], ◌∷◌}
use Rattle.std.proofs.Common.{arith}
use denote.Param.Weighed.{most}
use Rattle.rs_tree_branch.specs.Chunks.{depth}
use Rattle.rs_tree_branch.specs.Values.{ChildValue}

most_falls : (cs : List ChildValue) → most (λ c. c.depth + 1) cs ≤ depth cs
most_falls [] = omega arith
most_falls (c ∷ cs) = omega (arith, most_falls cs)

pub children_fall : (cs : List ChildValue) → max (most (λ c. c.depth + 1) cs) 0 ≤ depth cs
children_fall cs = omega (arith, most_falls cs)
