use Rattle.std.proofs.Common.{arith}
use Rattle.rs_store.specs.Contents.{is_gone}
use Rattle.rs_store.proofs.Maps.{filter_few}
use Rattle.kit_test.proofs.map.count_expired.Goals as goal

pub overflow_add-count : goal.overflow_add-count
overflow_add-count c = omega (arith, c.requires, c.loop-message.invariant, filter_few (is_gone c.args.now) c.args.retained.now.entries)
