use Rattle.std.proofs.Common.{arith, sym}
use Rattle.rs_store.specs.Contents.{stays}
use Rattle.rs_store.proofs.Maps.{filter_few}
use Rattle.rs_tree_branch.specs.Spots.{pairs}
use Rattle.rs_tree.proofs.Trees.{left_counted, left_weighed, pairs_swept, placed_swept}
use Rattle.rs_tree.proofs.messages.sweep.Goals as goal

pub overflow_cast-result : goal.overflow_cast-result
overflow_cast-result c =
    let left = left_counted c.args.moment c.args.root.now c.sweep.new.self c.len.result c.requires.small c.in_ok-sweep.ensures.done c.len.ensures in
    omega (arith, left, filter_few (stays c.args.moment) (pairs c.args.root.now), c.requires.small)

pub returns-clause-done : goal.returns-clause-done
returns-clause-done c = rw c.in_ok-sweep.ensures.done (pairs_swept c.args.moment c.args.root.now)

pub returns-clause-totals : goal.returns-clause-totals
returns-clause-totals c = record {
  counted = sym (left_counted c.args.moment c.args.root.now c.sweep.new.self c.len.result c.requires.small c.in_ok-sweep.ensures.done c.len.ensures);
  weighed = sym (left_weighed c.args.moment c.args.root.now c.sweep.new.self c.add_bytes.new.bytes c.requires.light c.in_ok-sweep.ensures.done c.add_bytes.ensures);
}

pub returns-clause-placed : goal.returns-clause-placed
returns-clause-placed c = rw c.in_ok-sweep.ensures.done (placed_swept c.args.moment c.args.root.now c.requires.placed)
