use Rattle.rs_tree_bucket.proofs.Buckets.{found_is, none_is}
use Rattle.rs_tree_bucket.proofs.leaves.Leaves.find.Goals as goal

pub returns-in-Ok : goal.returns-in-Ok
returns-in-Ok c = found_is c.args.at c.in-Ok.i c.args.topic.now c.as_slice.result.now c.self.inside.leaves.items c.as_slice.ensures.value c.args.self.now c.index.result.now c.self.view_is c.in-Ok.ensures.found c.index.ensures

pub returns-in-Err : goal.returns-in-Err
returns-in-Err c = none_is c.args.at c.in-Err.field-0 c.args.topic.now c.as_slice.result.now c.self.inside.leaves.items c.as_slice.ensures.value c.args.self.now c.self.view_is c.self.invariant c.in-Err.ensures.found
