use Rattle.std.proofs.Common.{refl}
use Rattle.rs_places_steps.specs.Begins.{place_of}
use Rattle.rs_places_steps.proofs.Stepping.{ended_known, given_back, handed_on}
use Rattle.rs_places_steps.proofs.stages.EndedClient.give_back.Goals as goal

pub end-requires : goal.end-requires
end-requires g c =
    let law = g.met.G.StoreGate in
    let now = handed_on g.G.Gate.stands g.G.Gate.mark g.G.Gate.pending g.G.StoreGate.shared g.G.Name.StoreName.limit g.G.Gate.most law.knows law.same_mark law.same_pending law.same_most
    (place_of g.T.Turn.connections g.G.StoreGate.shared c.self.inside.begun) c.self.inside.number (g.T.Turn.connections c.self.inside.turn) _ c.self.inside.gate
    _ (g.G.StoreGate.shared c.handed_on-gate.result.0) c.self.inside.result _ _ c.self.invariant refl c.handed_on-gate.ensures.known c.handed_on-gate.ensures.mark c.handed_on-gate.ensures.pending in
    ended_known _ _ _ _ _ _ _ _ _ c.self.invariant.next.so_far.pending now c.self.invariant.next.gives.out c.place-line.ensures c.told-told.ensures.told

pub invariant_of-result : goal.invariant_of-result
invariant_of-result g c =
    let law = g.met.G.StoreGate in
    let begun = place_of g.T.Turn.connections g.G.StoreGate.shared c.self.inside.begun in
    let handed = g.G.StoreGate.shared c.handed_on-gate.result.0 in
    let now = handed_on g.G.Gate.stands g.G.Gate.mark g.G.Gate.pending g.G.StoreGate.shared g.G.Name.StoreName.limit g.G.Gate.most law.knows law.same_mark law.same_pending law.same_most
    begun c.self.inside.number (g.T.Turn.connections c.self.inside.turn) _ c.self.inside.gate
    _ handed c.self.inside.result _ _ c.self.invariant refl c.handed_on-gate.ensures.known c.handed_on-gate.ensures.mark c.handed_on-gate.ensures.pending in
    given_back g.G.Name.StoreName.limit begun c.self.invariant.next.before c.self.inside.number c.saturating_add.result c.self.invariant.next.given _ (g.T.Turn.connections c.end.new.self) _ _ handed
    c.self.invariant.next.so_far c.self.invariant.next.gives now refl c.end.ensures c.saturating_add.ensures
