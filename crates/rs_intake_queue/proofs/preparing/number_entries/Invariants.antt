use Rattle.std.proofs.Common.{◌≡◌, ◌+◌, ◌<◌, ◌++◌, ◌^◌, length}
use Rattle.rs_intake_queue.specs.Changes.{numbered}
use Rattle.rs_intake_queue.proofs.preparing.number_entries.Given as goal

abbrev pub invariant-loop-operation : goal.invariant-loop-operation
invariant-loop-operation l = (l.last ≡ l.serial + length l.entries.items)
    × (l.entries.items ++ numbered l.place l.last l.operation-iterator.rest.items ≡ numbered l.place l.serial l.fn.operations.items)
    × (l.last < 2 ^ 64)
