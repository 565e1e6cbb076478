use Rattle.std.proofs.Common.{◌∙◌, ap, is_some}
use Rattle.std.specs.BTreeMap.{is_at}
use Rattle.std.specs.Map.{remove_entry}
use Rattle.rs_topic.specs.Order.{path_cmp}
use Rattle.rs_tree_bucket.specs.Buckets.{spots_in}
use Rattle.rs_topic.specs.Rests.{levels_from}
use Rattle.rs_tree_bucket.proofs.Buckets.{gone_is, unchanged_is, none_is, sorted_clear, there_is}
use Rattle.rs_tree_bucket.proofs.Spots.{Spots}
use Rattle.rs_tree_bucket.proofs.leaves.Leaves.clear.Goals as goal

pub invariant_of-self : goal.invariant_of-self
invariant_of-self c =
    sorted_clear (spots_in c.self.inside.leaves.items) (spots_in c.shrink_to_fit.new.self.items) (levels_from c.args.at c.args.topic.now) c.self.invariant
    (gone_is c.args.at c.in-Ok.i c.args.topic.now c.as_slice.result.now c.self.inside.leaves.items c.as_slice.ensures.value c.remove.new.self.items c.shrink_to_fit.new.self.items c.remove.ensures.items c.shrink_to_fit.ensures.items c.in-Ok.ensures.found)

pub returns-in-Ok-clause-done : goal.returns-in-Ok-clause-done
returns-in-Ok-clause-done c =
    gone_is c.args.at c.in-Ok.i c.args.topic.now c.as_slice.result.now c.self.inside.leaves.items c.as_slice.ensures.value c.remove.new.self.items c.shrink_to_fit.new.self.items c.remove.ensures.items c.shrink_to_fit.ensures.items c.in-Ok.ensures.found
    ∙ ap (λ (w : Spots). remove_entry (is_at (path_cmp (levels_from c.args.at c.args.topic.now))) w) c.self.view_is

pub returns-in-Ok-clause-existed : goal.returns-in-Ok-clause-existed
returns-in-Ok-clause-existed c = there_is c.args.at c.in-Ok.i c.args.topic.now c.as_slice.result.now c.self.inside.leaves.items c.as_slice.ensures.value c.args.self.now c.self.view_is c.in-Ok.ensures.found

pub returns-in-Err-clause-done : goal.returns-in-Err-clause-done
returns-in-Err-clause-done c = unchanged_is c.args.at c.in-Err.field-0 c.args.topic.now c.as_slice.result.now c.self.inside.leaves.items c.as_slice.ensures.value c.args.self.now c.self.view_is c.self.invariant c.in-Err.ensures.found

pub returns-in-Err-clause-existed : goal.returns-in-Err-clause-existed
returns-in-Err-clause-existed c = ap is_some (none_is c.args.at c.in-Err.field-0 c.args.topic.now c.as_slice.result.now c.self.inside.leaves.items c.as_slice.ensures.value c.args.self.now c.self.view_is c.self.invariant c.in-Err.ensures.found)
