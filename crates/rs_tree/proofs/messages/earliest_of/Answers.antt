use Rattle.std.proofs.Common.{◌^◌, ◌-◌, ◌∙◌}
use Rattle.rs_tree_branch.proofs.Ends.{pairs_end}
use Rattle.rs_tree.proofs.messages.earliest_of.Goals as goal

pub returns : goal.returns
returns c = c.earliest.ensures ∙ pairs_end (2 ^ 64 - 1) c.args.root.now
