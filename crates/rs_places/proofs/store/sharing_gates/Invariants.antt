use Rattle.std.specs.Prelude.{◌≡◌, ◌++◌, map}
use Rattle.rs_places.specs.Gates.{handed_on}
use Rattle.rs_places.proofs.store.sharing_gates.Given as goal

abbrev pub invariant-loop-line : goal.invariant-loop-line
invariant-loop-line g l = l.gates.items ++ map (λ line. handed_on l.fn.known line) l.line-iterator.rest.items ≡ map (λ line. handed_on l.fn.known line) l.fn.lines.items
