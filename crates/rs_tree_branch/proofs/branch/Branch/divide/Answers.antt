use Rattle.std.proofs.Common.{◌++◌, ap, arith}
use Rattle.rs_tree_branch.specs.Spots.{own}
use Rattle.rs_tree_branch.specs.Chunks.{AreHalves}
use Rattle.rs_tree_branch.proofs.Dividing.{divided}
use Rattle.rs_tree_branch.proofs.Growing.{from_at}
use Rattle.rs_tree_bucket.proofs.Spots.{Spots}
use Rattle.rs_tree_branch.proofs.branch.Branch.divide.Goals as goal

pub halves_if_overfull-requires : goal.halves_if_overfull-requires
halves_if_overfull-requires c = from_at c.self.inside.children.items c.args.i c.index-2.result.now (omega arith) c.index-2.ensures c.self.invariant

pub invariant_of-self : goal.invariant_of-self
invariant_of-self c =
    let halves : AreHalves c.index-2.result.now.level c.index-2.result.now.spots c.in-Ok-Some.low c.in-Ok-Some.high = rw c.in-Ok-Some.field-0-is at c.in-Ok-Some.ensures in
    (divided c.self.inside.children.items c.put_two.new.children.items c.args.i c.index-2.result.now c.in-Ok-Some.low c.in-Ok-Some.high (omega arith) c.index-2.ensures c.self.invariant halves c.put_two.result c.put_two.ensures.done c.put_two.ensures.unchanged).0

pub returns : goal.returns
returns c =
    let halves : AreHalves c.index-2.result.now.level c.index-2.result.now.spots c.in-Ok-Some.low c.in-Ok-Some.high = rw c.in-Ok-Some.field-0-is at c.in-Ok-Some.ensures in
    rw (← c.self.view_is) (ap (λ (w : Spots). own c.self.inside.retained ++ w)
    (divided c.self.inside.children.items c.put_two.new.children.items c.args.i c.index-2.result.now c.in-Ok-Some.low c.in-Ok-Some.high (omega arith) c.index-2.ensures c.self.invariant halves c.put_two.result c.put_two.ensures.done c.put_two.ensures.unchanged).1)
