use Rattle.rs_tree_bucket.proofs.Chains.{one_longer}
use Rattle.rs_tree_bucket.proofs.chain.push_level.Goals as goal

pub returns : goal.returns
returns c = rw (c.in_ok-extend_from_slice.ensures.items, c.in_ok-push.ensures.items) (one_longer c.args.chain.now.items c.args.level.now c.requires)
