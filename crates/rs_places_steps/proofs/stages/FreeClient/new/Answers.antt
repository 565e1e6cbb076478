use Rattle.std.proofs.Common.{sym, subst}
use Rattle.rs_places_steps.specs.Visits.{Place, ServedSoFar, place_at}
use Rattle.rs_places_steps.proofs.Places.{same_place}
use Rattle.rs_places_steps.proofs.Visits.{served_none}
use Rattle.rs_places_steps.proofs.stages.FreeClient.new.Goals as goal

pub invariant_of-result : goal.invariant_of-result
invariant_of-result g c =
    let limit = g.G.Name.StoreName.limit in
    let now = place_at (g.T.Turn.connections c.args.turn) (g.G.StoreGate.shared c.args.gate) in
    let P : Place → Type 0 = λ begun. ServedSoFar limit begun 1 now in
    let is = same_place g.T.Turn.connections g.G.StoreGate.shared _ _ _ _ c.new-begun.ensures.turn c.new-begun.ensures.gate in
    subst P (sym is) (served_none limit now c.requires.free c.requires.pending)
