use Rattle.std.proofs.Common.{◌∙◌}
use Rattle.rs_places_steps.specs.Begins.{place_of}
use Rattle.rs_places_steps.proofs.Stepping.{ended_read, was_read}
use Rattle.rs_places_steps.proofs.stages.ServedClient.read.Goals as goal

pub invariant_of-result : goal.invariant_of-result
invariant_of-result g c =
    let on = c.self.inside.on in
    let before = c.self.invariant in
    let read = was_read _ _ _ (place_of g.T.Turn.connections g.G.StoreGate.shared on.begun) on.number (g.T.Turn.connections on.turn) _ _ _ _ _ on.serving c.read.new.self before.3 c.in-None.ensures.read in
    (c.in-None.ensures.waits, (c.in-None.ensures.cause 0).0 ∙ before.1, before.2, read)

pub end-requires : goal.end-requires
end-requires g c =
    let on = c.self.inside.on in
    let before = c.self.invariant in
    ended_read _ _ _ (place_of g.T.Turn.connections g.G.StoreGate.shared on.begun) on.number (g.T.Turn.connections on.turn) _ _ _ _ _ on.serving c.read.new.self c.in-Some.ended _ _ _
    before.3 c.in-Some.ensures.read before.1 before.2 (c.in-Some.ensures.cause _)
