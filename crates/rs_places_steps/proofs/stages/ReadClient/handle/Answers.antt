use Rattle.std.proofs.Common.{refl, ◌∙◌}
use Rattle.rs_places_steps.specs.Begins.{place_of}
use Rattle.rs_places_steps.proofs.Stepping.{ended_handled, was_handled}
use Rattle.rs_places_steps.proofs.stages.ReadClient.handle.Goals as goal

pub invariant_of-result : goal.invariant_of-result
invariant_of-result g c =
    let on = c.self.inside.on in
    let before = c.self.invariant in
    let served = was_handled _ _ _ (place_of g.T.Turn.connections g.G.StoreGate.shared on.begun) on.number (g.T.Turn.connections on.turn) _ _ _ _ _ on.serving c.handle.new.self before.3 c.in-None.ensures.handled in
    (c.in-None.ensures.waits refl, before.1, (c.in-None.ensures.cause 0).1 ∙ before.2, served)

pub end-requires : goal.end-requires
end-requires g c =
    let on = c.self.inside.on in
    let before = c.self.invariant in
    ended_handled _ _ _ (place_of g.T.Turn.connections g.G.StoreGate.shared on.begun) on.number (g.T.Turn.connections on.turn) _ _ _ _ _ on.serving c.handle.new.self c.in-Some.ended _ _ _
    before.3 c.in-Some.ensures.handled before.1 before.2 (c.in-Some.ensures.cause _)
