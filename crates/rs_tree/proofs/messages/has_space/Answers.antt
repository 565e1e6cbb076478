use Rattle.std.proofs.Common.{◌≡◌, ◌∙◌, arith}
use Rattle.std.specs.Option.{option_copied}
use Rattle.rs_topic.specs.Rests.{levels_from}
use Rattle.rs_tree_bucket.specs.Spots.{found_at}
use Rattle.rs_tree.proofs.Trees.{some_copied, space_below, space_cleared, space_retained, space_swept}
use Rattle.rs_tree.proofs.messages.has_space.Goals as goal

pub returns-then-totals-get : goal.returns-then-totals-get
returns-then-totals-get c =
    rw c.in-Set.is (space_below c.args.root.now c.in-Set.found.topic c.in-Set.found.message c.args.totals c.args.limit c.requires.tree (omega (arith, c.if-totals-get.true)))

pub returns-else-totals-get : goal.returns-else-totals-get
returns-else-totals-get c =
    let is : option_copied c.find.result ≡ found_at (levels_from 0 c.in-Set.found.topic) c.args.root.now = rw (c.as_bytes.ensures.bytes, c.topic.ensures) at c.find.ensures in
    rw c.in-Set.is (c.is_some.ensures ∙ (some_copied c.find.result ∙ space_retained c.args.root.now c.in-Set.found.topic c.in-Set.found.message (option_copied c.find.result) c.args.totals c.args.limit c.requires.tree c.requires.few (omega (arith, c.if-totals-get.false)) is))

pub returns-in-Clear : goal.returns-in-Clear
returns-in-Clear c = rw c.in-Clear.is (space_cleared c.args.root.now c.in-Clear.field-0 c.args.totals c.args.limit c.requires.tree c.requires.few)

pub returns-in-Sweep : goal.returns-in-Sweep
returns-in-Sweep c = rw c.in-Sweep.is (space_swept c.args.root.now c.in-Sweep.field-0 c.args.totals c.args.limit c.requires.tree c.requires.few)
