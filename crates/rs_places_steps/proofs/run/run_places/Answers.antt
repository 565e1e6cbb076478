use Rattle.std.proofs.Common.{◌≡◌, List, map, subst, arith}
use Rattle.std.specs.List.{AllZip}
use Rattle.rs_places_steps.specs.Places.{IsPlaceServed, left_at}
use Rattle.rs_places_steps.specs.Visits.{Place}
use Rattle.rs_places_steps.proofs.run.run_places.Goals as goal

pub take_ends-requires-clause-empty : goal.take_ends-requires-clause-empty
take_ends-requires-clause-empty g c = c.in_ok-ends.ensures.items

pub take_ends-requires-clause-capacity : goal.take_ends-requires-clause-capacity
take_ends-requires-clause-capacity g c = omega (arith, c.in_ok-ends.ensures.capacity, c.len.ensures, c.in_ok-tasks.comings.ok.0)

pub returns : goal.returns
returns g c =
    let P : List Place → Type 0 = λ l. AllZip (IsPlaceServed g.G.Name.StoreName.limit) l (map (λ end. left_at (g.T.Turn.connections end.turn) end.told (g.G.LineGate.closed end.line)) c.take_ends.result.items) in
    subst P c.in_ok-tasks.ensures c.take_ends.ensures
