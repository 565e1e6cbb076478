use Rattle.std.proofs.Common.{◌≡◌, ◌*◌, ◌<◌, ◌^◌, take}
use Rattle.rs_tree_bucket.specs.Keys.{spelt}
use Rattle.rs_tree_bucket.proofs.key.Key.of_level.Given as goal

abbrev pub invariant-loop-byte : goal.invariant-loop-byte
invariant-loop-byte l = (l.number ≡ spelt 0 (take l.byte-index l.level)) × (l.number < 2 ^ (8 * l.byte-index))
