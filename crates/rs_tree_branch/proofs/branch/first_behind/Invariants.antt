use Rattle.std.proofs.Common.{◌≤◌, ◌-◌, length}
use Rattle.rs_tree_branch.proofs.Chunks.{IsHigh, IsLow}
use Rattle.rs_tree_branch.proofs.branch.first_behind.Given as goal

abbrev pub invariant-loop-low : goal.invariant-loop-low
invariant-loop-low l = record {
  ordered : l.low ≤ l.high;
  small : l.high ≤ length l.children;
  low : IsLow l.level l.children l.low;
  high : IsHigh l.level l.children l.high;
}

abbrev pub decreases-loop-low : goal.decreases-loop-low
decreases-loop-low l = l.high - l.low
