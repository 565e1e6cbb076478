use Rattle.std.proofs.Common.{◌≡◌, ◌∙◌}
use Rattle.std.specs.Option.{option_copied}
use Rattle.rs_topic.specs.Rests.{levels_from}
use Rattle.rs_tree_bucket.specs.Spots.{found_at}
use Rattle.rs_tree.proofs.Trees.{found_bytes_at}
use Rattle.rs_tree.proofs.messages.TreeMessages.bytes_at.Goals as goal

pub returns : goal.returns
returns c =
    let is : option_copied c.find.result ≡ found_at (levels_from 0 c.args.topic.now) c.self.inside.root = rw c.as_bytes.ensures.bytes at c.find.ensures in
    rw (← c.self.view_is) (c.bytes_if_found.ensures ∙ found_bytes_at c.self.inside.root c.args.topic.now (option_copied c.find.result) c.self.invariant.placed is)
