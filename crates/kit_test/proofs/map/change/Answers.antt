use Rattle.std.proofs.Common.{arith}
use Rattle.rs_store.specs.Contents.{stays}
use Rattle.rs_store.proofs.Bytes.{bytes_filter_le}
use Rattle.kit_test.proofs.map.change.Goals as goal

pub bytes_of_all-requires : goal.bytes_of_all-requires
bytes_of_all-requires c = rw c.sweep.ensures (omega (arith, c.requires, bytes_filter_le (stays c.in-Sweep.moment) c.args.retained.now.entries))
