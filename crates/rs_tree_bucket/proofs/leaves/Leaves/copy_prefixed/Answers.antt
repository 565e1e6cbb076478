use Rattle.std.proofs.Common.{◌≡◌, ◌∙◌, List, ap}
use Rattle.rs_tree_bucket.specs.Buckets.{spots_in}
use Rattle.rs_tree_bucket.specs.Chains.{under_all}
use Rattle.rs_topic.specs.Rests.{levels_from}
use Rattle.rs_tree_bucket.specs.Spots.{under}
use Rattle.rs_tree_bucket.specs.declared.leaf.Leaf.{Leaf}
use Rattle.rs_tree_bucket.proofs.Buckets.{sorted_risen}
use Rattle.rs_tree_bucket.proofs.leaves.Leaves.copy_prefixed.Goals as goal

pub invariant_of-result : goal.invariant_of-result
invariant_of-result c =
    let ks = levels_from 1 c.args.chain.now in
    let done : spots_in c.in-Some.leaves.items ≡ under_all ks (under c.args.level.now (spots_in c.as_slice.result.now)) = rw c.in-Some.is at c.in_ok-leaves.ensures in
    sorted_risen ks c.args.level.now (spots_in c.self.inside.leaves.items) (spots_in c.in-Some.leaves.items) c.self.invariant
    (done ∙ ap (λ (ls : List Leaf). under_all ks (under c.args.level.now (spots_in ls))) c.as_slice.ensures.value)
