use Rattle.std.proofs.Common.{◌⊎◌, ⊎_elim, ◌≡◌, inl, inr, sym, ◌∙◌, ap, length, arith}
use Rattle.rs_places_steps.proofs.Each.{length_more}
use Rattle.rs_places_steps.proofs.Places.{next_place, no_places}
use Rattle.rs_places_steps.proofs.Making.{made_all, made_more}
use Rattle.rs_places_steps.proofs.run.make_tasks.Goals as goal

pub loop-turn-preserved : goal.loop-turn-preserved
loop-turn-preserved g c =
    let i = c.loop-turn.invariant in
    let steps = c.in-Some.ensures.steps in
    let first = next_place g.T.Turn.connections _ _ _ _ _ _ steps.0.0 steps.1.0 in
    record {
      made = made_more _ _ _ _ _ _ _ _ c.push_reserved-in-loop-turn.ensures.items c.in_ok-task.ensures first i.made;
      fits = omega (arith, i.fits, length_more _ _ _ c.push_reserved.ensures.items, c.push_reserved.ensures.capacity, ap length steps.1.0);
      fits_too = omega (arith, i.fits_too, length_more _ _ _ c.push_reserved-in-loop-turn.ensures.items, c.push_reserved-in-loop-turn.ensures.capacity, ap length steps.1.0);
    }

pub returns : goal.returns
returns g c =
    let iterator = c.loop-turn.turn-iterator in
    let none : (length iterator.a.rest.items ≡ 0) ⊎ (length iterator.b.rest.items ≡ 0) =
    ⊎_elim (λ t. inl (sym iterator.a.rest.ok.0 ∙ t.1.0)) (λ t. inr (sym iterator.b.rest.ok.0 ∙ t.1.0)) c.in-None.ensures.steps in
    made_all _ _ _ _ c.loop-turn.invariant.made (no_places g.T.Turn.connections _ _ none)
