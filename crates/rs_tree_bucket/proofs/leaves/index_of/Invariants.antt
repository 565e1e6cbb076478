use Rattle.rs_tree_bucket.specs.Buckets.{IsPast}
use Rattle.rs_topic.specs.Rests.{levels_from}
use Rattle.rs_tree_bucket.proofs.leaves.index_of.Given as goal

abbrev pub invariant-loop-i : goal.invariant-loop-i
invariant-loop-i l = IsPast (levels_from l.at l.topic) l.leaves l.i
