use Rattle.std.specs.Prelude.{◌≡◌, ◌+◌, ◌≤◌, ◌++◌, map, length, vec_capacity}
use Rattle.std.specs.List.{AllZip}
use Rattle.rs_places_steps.specs.Places.{IsPlaceServed, left_at}
use Rattle.rs_places_steps.specs.Begins.{place_of}
use Rattle.rs_places_steps.proofs.run.take_ends.Given as goal

abbrev pub invariant-loop-coming : goal.invariant-loop-coming
invariant-loop-coming g l =
    AllZip (IsPlaceServed g.G.Name.StoreName.limit) (map (λ end. place_of g.T.Turn.connections g.G.StoreGate.shared end.begun) l.yielded)
    (map (λ end. left_at (g.T.Turn.connections end.turn) end.told (g.G.LineGate.closed end.line)) l.ends.items)
    × (l.yielded ++ l.coming-iterator.rest.items ≡ l.fn.comings.items)
    × (length l.ends.items + length l.coming-iterator.rest.items ≤ vec_capacity l.ends)
