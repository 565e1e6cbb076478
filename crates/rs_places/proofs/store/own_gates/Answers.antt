use Rattle.std.proofs.Common.{◌≡◌, ◌⊎◌, ⊎_elim, inl, inr, ◌∙◌, ap, sym, length}
use Rattle.rs_places_steps.specs.Shared.{SharedValue}
use Rattle.rs_places.proofs.Whole.{next_gate, no_gate}
use Rattle.rs_places.proofs.store.own_gates.Goals as goal

pub new-requires : goal.new-requires
new-requires g c = ap (λ (v : SharedValue). v.pending) c.new-gate.ensures.gate

pub loop-seat-preserved : goal.loop-seat-preserved
loop-seat-preserved g c =
    let steps = c.in-Some.ensures.steps in
    next_gate _ _ _ _ _ _ _ _ _ _ c.in-Ok.ensures.items c.loop-seat.invariant steps.0.0 steps.1.0 (c.new.ensures ∙ c.new-gate.ensures.gate)

pub returns : goal.returns
returns g c =
    let iterator = c.loop-seat.seat-iterator in
    let none : (length iterator.a.rest.items ≡ 0) ⊎ (length iterator.b.rest.items ≡ 0) =
    ⊎_elim (λ t. inl (sym iterator.a.rest.ok.0 ∙ t.1.0)) (λ t. inr (sym iterator.b.rest.ok.0 ∙ t.1.0)) c.in-None.ensures.steps in
    no_gate _ _ _ _ c.loop-seat.invariant none
