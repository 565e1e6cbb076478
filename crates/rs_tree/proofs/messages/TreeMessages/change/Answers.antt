use Rattle.rs_tree.proofs.Trees.{is_tree}
use Rattle.rs_tree.proofs.messages.TreeMessages.change.Goals as goal

pub invariant_of-self-2 : goal.invariant_of-self-2
invariant_of-self-2 c =
    is_tree c.self.inside.root c.change.new.root c.args.operation c.self.inside.totals c.in_ok-totals.totals c.self.invariant c.in_ok-totals.ensures.placed c.in_ok-totals.ensures.done c.in_ok-totals.ensures.totals
