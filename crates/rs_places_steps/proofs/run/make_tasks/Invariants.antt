use Rattle.std.specs.Prelude.{◌≡◌, ◌+◌, ◌≤◌, ◌++◌, map, length, vec_capacity}
use Rattle.rs_places_steps.specs.Places.{places_of}
use Rattle.rs_places_steps.specs.Begins.{place_of}
use Rattle.rs_places_steps.proofs.run.make_tasks.Given as goal

abbrev pub invariant-loop-turn : goal.invariant-loop-turn
invariant-loop-turn g l = record {
  made : map (λ end. place_of g.T.Turn.connections g.G.StoreGate.shared end.begun) l.ends.items
      ++ places_of (map g.T.Turn.connections l.turn-iterator.a.rest.items) l.turn-iterator.b.rest.items
      ≡ places_of (map g.T.Turn.connections l.fn.turns.items) l.fn.gates.items;
  fits : length l.tasks.items + length l.turn-iterator.b.rest.items ≤ vec_capacity l.tasks;
  fits_too : length l.ends.items + length l.turn-iterator.b.rest.items ≤ vec_capacity l.ends;
}
