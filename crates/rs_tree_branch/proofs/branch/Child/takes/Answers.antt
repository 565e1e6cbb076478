use Rattle.std.proofs.Common.{◌≢◌}
use Rattle.std.specs.Cmp.Lexicographic.{slice_cmp}
use Rattle.std.specs.Ordering.{nat_cmp}
use Rattle.std.specs.declared.cmp.Ordering.TheVariants.{Less}
use Rattle.rs_tree_branch.specs.Nodes.{stem_spots}
use Rattle.rs_tree_branch.proofs.Chunks.{passed_under}
use Rattle.rs_tree_branch.proofs.branch.Child.takes.Goals as goal

pub returns-in-Few-clause-passed : goal.returns-in-Few-clause-passed
returns-in-Few-clause-passed c nay p =
    let n : slice_cmp nat_cmp c.args.level.now c.self.inside.level ≢ Less = rw (← c.self.view_is) at c.requires in
    rw (← c.self.view_is, c.in-Few.is) (passed_under c.args.level.now c.self.inside.level c.in-Few.field-0 (c.is_same.ensures.other nay) n p)

pub returns-in-Inner-clause-passed : goal.returns-in-Inner-clause-passed
returns-in-Inner-clause-passed c nay p =
    let n : slice_cmp nat_cmp c.args.level.now c.self.inside.level ≢ Less = rw (← c.self.view_is) at c.requires in
    rw (← c.self.view_is, c.in-Inner.is) (passed_under c.args.level.now c.self.inside.level (stem_spots c.in-Inner.field-0.value) (c.is_same-in-Inner.ensures.other nay) n p)
