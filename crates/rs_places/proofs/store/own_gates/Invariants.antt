use Rattle.std.specs.Prelude.{◌≡◌, ◌++◌}
use Rattle.rs_places.specs.Store.{gates_of}
use Rattle.rs_places.proofs.store.own_gates.Given as goal

abbrev pub invariant-loop-seat : goal.invariant-loop-seat
invariant-loop-seat g l = l.gates.items ++ gates_of l.seat-iterator.a.rest.items l.seat-iterator.b.rest.items ≡ gates_of l.fn.seats.items l.fn.lines.items
