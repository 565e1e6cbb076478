use Rattle.std.proofs.Common.{sym, ◌∙◌}
use Rattle.rs_topic.specs.Rests.{levels_from}
use Rattle.rs_tree_bucket.specs.Clearing.{ClearsAs}
use Rattle.rs_tree_bucket.specs.declared.cleared.Cleared.TheVariants.{Missing}
use Rattle.rs_tree_branch.proofs.Clearing.{none_removed}
use Rattle.rs_tree.proofs.root.Root.clear.Goals as goal

pub returns-in-Ok-Missing-clause-done : goal.returns-in-Ok-Missing-clause-done
returns-in-Ok-Missing-clause-done c =
    let path = levels_from 0 c.args.topic.now in
    let cleared : ClearsAs Missing c.args.self.now c.clear_in.new.this.value.spots path = rw (c.in-Ok-Missing.field-0-is, c.self.view_is) at c.in-Ok-Missing.ensures in
    cleared.1 ∙ sym (none_removed path c.args.self.now cleared.0)
