use Rattle.rs_places_steps.specs.Begins.{place_of}
use Rattle.rs_places_steps.proofs.Closing.{place_served}
use Rattle.rs_places_steps.proofs.Stepping.{begins, refused}
use Rattle.rs_places_steps.proofs.stages.FreeClient.next.Goals as goal

pub invariant_of-result : goal.invariant_of-result
invariant_of-result g c = place_served _ _ _ _ _ _ _ c.self.invariant c.in_default.ensures c.told-told.ensures.told c.close-line.ensures.place c.close-line.ensures.sent c.close-line.ensures.end c.close-line.ensures.line

pub invariant_of-result-in-Ok : goal.invariant_of-result-in-Ok
invariant_of-result-in-Ok g c =
    let connections = g.T.Turn.connections in
    let law = g.met.G.StoreGate in
    let given = c.in-Some.connection in
    let served = begins g.T.In.Read.remaining g.T.Out.Write.contents (g.T.Time.Clock.moments given.clock) g.G.Gate.stands g.G.Gate.mark g.G.Gate.pending g.G.StoreGate.shared g.G.Name.StoreName.limit g.G.Gate.most
    law.known law.same_mark law.same_pending (place_of connections g.G.StoreGate.shared c.self.inside.begun) c.self.inside.number c.place-place.result
    c.self.inside.gate (connections c.self.inside.turn) (connections c.next.new.self) given.input given.output c.new-input.result c.new-output.result c.new.result c.in-Ok.serving
    c.self.invariant c.in-Some.ensures c.new-input.ensures.inner c.new-output.ensures.inner c.new.ensures.gate c.place-place.ensures c.told-told-2.ensures.legal c.in-Ok.ensures.underway in
    (c.in-Ok.ensures.waits, c.new-input.ensures.failures, c.new-output.ensures.failures, served)

pub invariant_of-result-in-Err : goal.invariant_of-result-in-Err
invariant_of-result-in-Err g c =
    let connections = g.T.Turn.connections in
    let law = g.met.G.StoreGate in
    let given = c.in-Some.connection in
    refused g.T.In.Read.remaining g.T.Out.Write.contents (g.T.Time.Clock.moments given.clock) g.G.Gate.stands g.G.Gate.mark g.G.Gate.pending g.G.StoreGate.shared g.G.Name.StoreName.limit g.G.Gate.most
    law.known law.same_mark law.same_pending (place_of connections g.G.StoreGate.shared c.self.inside.begun) c.self.inside.number
    c.self.inside.gate (connections c.self.inside.turn) (connections c.next.new.self) given.input given.output c.new-input.result c.new-output.result c.new.result c.in-Err.gate
    c.self.invariant c.in-Some.ensures c.new-input.ensures.inner c.new-output.ensures.inner c.new.ensures.gate c.in-Err.ensures.refused c.told-told-2.ensures.legal c.new-input.ensures.failures c.new-output.ensures.failures

pub next-requires : goal.next-requires
next-requires g c = c.self.invariant.out
