use Rattle.rs_places_steps.specs.Begins.{place_of}
use Rattle.rs_places_steps.specs.Steps.{counted_view}
use Rattle.rs_places_steps.proofs.Stepping.{served_by}
use Rattle.rs_places_steps.proofs.stages.Connected.end.Goals as goal

pub invariant_of-result : goal.invariant_of-result
invariant_of-result g c =
    served_by _ _ (counted_view g.G.Gate.stands g.G.Gate.mark g.G.Gate.pending) (place_of g.T.Turn.connections g.G.StoreGate.shared c.args.self.begun) c.args.self.number _ _ c.into_parts-gate.result.0 _ _ _ _ c.requires c.into_parts-gate.ensures
