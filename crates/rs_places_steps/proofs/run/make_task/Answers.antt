use Rattle.std.proofs.Common.{ap, ◌∙◌}
use Rattle.rs_places_steps.specs.Shared.{SharedValue}
use Rattle.rs_places_steps.specs.Visits.{place_at}
use Rattle.rs_places_steps.proofs.run.make_task.Goals as goal

pub returns : goal.returns
returns g c =
    c.in_ok-end.ensures.takes
    ∙ (ap (λ (turn : g.row.T.Denot). place_at (g.T.Turn.connections turn) (g.G.StoreGate.shared c.into_gate-gate.result)) c.into_turn-turn.ensures.turn
    ∙ ap (λ (gate : SharedValue). place_at (g.T.Turn.connections c.args.turn) gate) c.into_gate-gate.ensures.gate)
