use Rattle.rs_tree.proofs.Trees.{empty_tree}
use Rattle.rs_tree.proofs.messages.TreeMessages.new.Goals as goal

pub invariant_of-result : goal.invariant_of-result
invariant_of-result c = empty_tree c.in_ok-new.field-0 c.in_ok-new.ensures
