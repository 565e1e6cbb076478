use Rattle.std.proofs.Common.{arith}
use Rattle.rs_topic.specs.Rests.{levels_from}
use Rattle.rs_tree_bucket.proofs.Buckets.{is_behind, is_gap, is_here, is_past}
use Rattle.rs_tree_bucket.proofs.leaves.index_of.Goals as goal

pub returns-in-Less-clause-found : goal.returns-in-Less-clause-found
returns-in-Less-clause-found c = is_gap (levels_from c.args.at c.args.topic.now) c.args.leaves.now c.loop-i.i c.index-leaves-i.result c.compare.result (omega (arith, c.loop-i-test.true)) c.loop-i.invariant c.index-leaves-i.is c.compare.ensures c.in-Less.is

pub returns-in-Equal-clause-found : goal.returns-in-Equal-clause-found
returns-in-Equal-clause-found c = is_here (levels_from c.args.at c.args.topic.now) c.args.leaves.now c.loop-i.i c.index-leaves-i.result c.compare.result (omega (arith, c.loop-i-test.true)) c.loop-i.invariant c.index-leaves-i.is c.compare.ensures c.in-Equal.is

pub loop-i-preserved : goal.loop-i-preserved
loop-i-preserved c = is_past (levels_from c.args.at c.args.topic.now) c.args.leaves.now c.loop-i.i c.index-leaves-i.result c.compare.result (omega (arith, c.loop-i-test.true)) c.loop-i.invariant c.index-leaves-i.is c.compare.ensures c.in-Greater.is

pub returns-clause-found : goal.returns-clause-found
returns-clause-found c = is_behind (levels_from c.args.at c.args.topic.now) c.args.leaves.now c.loop-i.i (omega (arith, c.loop-i-test.false)) (omega (arith, c.loop-i.auto.i-end)) c.loop-i.invariant
