use Rattle.std.proofs.Common.{◌≡◌, arith, length, sym}
use Rattle.rs_tree_branch.proofs.Leaving.{nothing_by, something_retained}
use Rattle.rs_tree_branch.proofs.branch.Branch.is_empty.Goals as goal

pub returns-then-is_some : goal.returns-then-is_some
returns-then-is_some c = rw (← c.self.view_is) (sym (something_retained c.self.inside.retained c.self.inside.children.items (sym c.if-is_some.ensures)))

pub returns : goal.returns
returns c =
    let size : c.len.result ≡ length c.self.inside.children.items = omega (arith, c.len.ensures) in
    rw (← c.self.view_is) (nothing_by c.self.inside.retained c.self.inside.children.items c.len.result c.self.invariant (sym c.if-is_some.ensures) size)
