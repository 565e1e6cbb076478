use Rattle.std.proofs.Common.{arith}
use Rattle.std.proofs.lemmas.List.{length-map}
use Rattle.rs_tree_branch.specs.Spots.{pair_of}
use Rattle.rs_tree.proofs.Trees.{pairs_gone}
use Rattle.rs_tree.proofs.messages.count_expired.Goals as goal

pub returns : goal.returns
returns c = omega (arith, pairs_gone c.args.now c.args.root.now, c.count_expired.ensures (omega (arith, c.requires, length-map c.args.root.now pair_of)))
