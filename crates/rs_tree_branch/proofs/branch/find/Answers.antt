use Rattle.std.proofs.Common.{arith, ◌-◌, refl}
use Rattle.rs_tree_branch.specs.Chunks.{IsEdge, IsNotBefore, Passes, Takes}
use Rattle.rs_tree_branch.proofs.Chunks.{index_gap, index_in, index_not}
use Rattle.rs_tree_branch.proofs.branch.find.Goals as goal

pub takes-requires : goal.takes-requires
takes-requires c = index_not c.args.level.now c.args.children.now c.first_behind-i.result (c.first_behind-i.result - 1) c.index-children-i.result (omega arith) c.first_behind-i.ensures.edge c.index-children-i.is

pub returns-then-takes-clause-found : goal.returns-then-takes-clause-found
returns-then-takes-clause-found c =
    let level = c.args.level.now in
    let edge : IsEdge (IsNotBefore level) level c.args.children.now c.first_behind-i.result = c.first_behind-i.ensures.edge in
    let taken : Takes level c.index-children-i.result = c.if-takes.ensures.taken refl in
    index_in level c.args.children.now c.first_behind-i.result (c.first_behind-i.result - 1) c.index-children-i.result (omega arith) edge c.index-children-i.is taken

pub returns-else-takes-clause-found : goal.returns-else-takes-clause-found
returns-else-takes-clause-found c =
    let level = c.args.level.now in
    let edge : IsEdge (IsNotBefore level) level c.args.children.now c.first_behind-i.result = c.first_behind-i.ensures.edge in
    let passed : Passes level c.index-children-i.result = c.if-takes.ensures.passed refl in
    index_gap level c.args.children.now c.first_behind-i.result (c.first_behind-i.result - 1) c.index-children-i.result (omega arith) edge c.index-children-i.is passed
