use Rattle.std.proofs.Common.{◌≤◌, ap, arith, length, take}
use Rattle.rs_tree_bucket.proofs.KeyLemmas.{length_padded}
use Rattle.rs_tree_bucket.proofs.label.Label.as_slice.Goals as goal

pub split_at-requires : goal.split_at-requires
split_at-requires c =
    let text = rw c.in-Short.is at c.self.invariant in
    let fits : c.in-Short.length ≤ length c.in-Short.bytes = omega (arith, text.0, ap length text.1, length_padded 14 (take c.in-Short.length c.in-Short.bytes)) in
    rw c.as_slice.ensures fits
