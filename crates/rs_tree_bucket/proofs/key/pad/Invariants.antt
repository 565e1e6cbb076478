use Rattle.std.proofs.Common.{◌≡◌, length, take}
use Rattle.rs_tree_bucket.specs.Keys.{padded}
use Rattle.rs_tree_bucket.proofs.key.pad.Given as goal

abbrev pub invariant-loop-i : goal.invariant-loop-i
invariant-loop-i l = (l.bytes ≡ padded 14 (take l.i l.level)) × (length l.bytes ≡ 14)
