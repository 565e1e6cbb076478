use Rattle.std.proofs.Common.{arith}
use Rattle.rs_tree_bucket.proofs.KeyLemmas.{is_key}
use Rattle.rs_tree_bucket.proofs.key.Key.new.Goals as goal

pub returns : goal.returns
returns c = is_key c.args.bytes.now c.args.length c.requires.padded c.requires.short c.fits-bytes _ (omega arith)
