use Rattle.std.proofs.Common.{◌≡◌, ◌+◌, ◌-◌, ◌++◌, length}
use Rattle.rs_topic.specs.Rests.{levels_from}
use Rattle.rs_tree_bucket.proofs.chain.push_levels.Given as goal

abbrev pub invariant-loop-level : goal.invariant-loop-level
invariant-loop-level l = levels_from 1 l.fn.chain.items ++ levels_from l.fn.at l.text ≡ levels_from 1 l.chain.items ++ levels_from l.at l.text

abbrev pub decreases-loop-level : goal.decreases-loop-level
decreases-loop-level l = length l.text + 1 - l.at
