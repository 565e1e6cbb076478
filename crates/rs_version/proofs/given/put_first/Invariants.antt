use Rattle.std.proofs.Common.{◌≡◌, ◌++◌, length}
use Rattle.rs_version.specs.First.{first_of}
use Rattle.rs_version.specs.Writer.{shows}
use Rattle.rs_version.proofs.given.put_first.Given as goal

abbrev pub invariant-loop-found : goal.invariant-loop-found
invariant-loop-found g l = (l.writer ≡ shows (first_of l.yielded)) × (l.serial ≡ length l.yielded)
    × (l.yielded ++ l.found-iterator.rest.items ≡ l.fn.given.items)
