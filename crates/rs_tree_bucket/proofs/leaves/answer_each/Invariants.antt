use Rattle.std.proofs.Common.{◌≡◌, ◌++◌, drop}
use Rattle.rs_tree_bucket.specs.Buckets.{spots_in}
use Rattle.rs_tree_bucket.specs.Chosen.{chosen}
use Rattle.rs_topic.specs.Rests.{levels_from}
use Rattle.rs_tree_bucket.proofs.leaves.answer_each.Given as goal

abbrev pub invariant-loop-leaf : goal.invariant-loop-leaf
invariant-loop-leaf l = (l.answer.found.items ++ chosen (levels_from l.at l.filter) l.now (spots_in (drop l.leaf-index l.leaves)) ≡ l.initial.answer.found.items ++ chosen (levels_from l.at l.filter) l.now (spots_in l.leaves)) × (l.answer.room ≡ l.initial.answer.room)
