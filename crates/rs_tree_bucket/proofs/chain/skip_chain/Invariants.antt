use Rattle.std.proofs.Common.{◌≡◌, ◌+◌, ◌-◌, ◌≤◌, length}
use Rattle.rs_tree_bucket.specs.Chains.{behind}
use Rattle.rs_topic.specs.Rests.{levels_from}
use Rattle.rs_tree_bucket.proofs.chain.skip_chain.Given as goal

abbrev pub invariant-loop-level : goal.invariant-loop-level
invariant-loop-level l = (behind (levels_from l.from l.chain) (levels_from l.at l.topic) ≡ behind (levels_from 1 l.chain) (levels_from l.fn.at l.topic)) × (l.fn.at ≤ l.at)

abbrev pub decreases-loop-level : goal.decreases-loop-level
decreases-loop-level l = length l.chain + 1 - l.from
