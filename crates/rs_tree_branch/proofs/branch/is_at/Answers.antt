use Rattle.std.proofs.Common.{◌+◌, arith, length, refl}
use Rattle.rs_tree_branch.specs.Chunks.{IsEdge, IsNotBefore}
use Rattle.rs_tree_branch.proofs.Chunks.{edge_end, high_end, high_step, index_in, low_step, named_in}
use Rattle.rs_tree_branch.proofs.branch.is_at.Goals as goal

pub returns-then-is_named-clause-found : goal.returns-then-is_named-clause-found
returns-then-is_named-clause-found c yea =
    named_in c.args.level.now c.args.children.now c.args.i c.index-children-i.result c.requires (omega arith) c.index-children-i.is (c.if-is_named.ensures.taken refl) (c.if-is_named.ensures.same refl)

pub returns-then-i-children-2-clause-found : goal.returns-then-i-children-2-clause-found
returns-then-i-children-2-clause-found c yea =
    let q = c.args.level.now in
    let cs = c.args.children.now in
    let i = c.args.i in
    let low = low_step q cs i (i + 1) c.index-children-i-2.result refl (omega arith) c.index-children-i-2.is (c.if-is_behind.ensures.no refl) in
    let edge : IsEdge (IsNotBefore q) q cs (i + 1) = edge_end q cs (i + 1) (length cs) (omega arith) low (high_end q cs) in
    index_in q cs (i + 1) i c.index-children-i-else-is_behind.result refl edge c.index-children-i-else-is_behind.is (c.if-not-takes.ensures.taken refl)

pub returns-else-i-children-2-clause-found : goal.returns-else-i-children-2-clause-found
returns-else-i-children-2-clause-found c yea =
    let q = c.args.level.now in
    let cs = c.args.children.now in
    let i = c.args.i in
    let low = low_step q cs i (i + 1) c.index-children-i-2.result refl (omega arith) c.index-children-i-2.is (c.if-is_behind.ensures.no refl) in
    let next = c.index-children-i-else-i-children-2 in
    let edge : IsEdge (IsNotBefore q) q cs (i + 1) = edge_end q cs (i + 1) (i + 1) refl low (high_step q cs (i + 1) next.result (omega arith) next.is (c.is_behind-else-i-children-2.ensures.yes yea)) in
    index_in q cs (i + 1) i c.index-children-i-else-is_behind.result refl edge c.index-children-i-else-is_behind.is (c.if-not-takes.ensures.taken refl)
