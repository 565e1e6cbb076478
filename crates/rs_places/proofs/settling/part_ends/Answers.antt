use Rattle.std.proofs.Common.{length, map, sym, ap, ◌∙◌, arith}
use Rattle.rs_places_steps.proofs.Each.{first_of_all, length_more}
use Rattle.rs_places.proofs.Whole.{all_done, push_map}
use Rattle.rs_places.proofs.settling.part_ends.Goals as goal

pub push_reserved-requires : goal.push_reserved-requires
push_reserved-requires g c = omega (arith, c.loop-end.invariant.lines_fit, ap length c.in-Some.ensures.steps.0, c.loop-end.lines.ok.0)

pub push_reserved-requires-in-loop-end : goal.push_reserved-requires-in-loop-end
push_reserved-requires-in-loop-end g c = omega (arith, c.loop-end.invariant.turns_fit, ap length c.in-Some.ensures.steps.0, c.loop-end.turns.ok.0)

pub loop-end-preserved : goal.loop-end-preserved
loop-end-preserved g c =
    let i = c.loop-end.invariant in
    let first = c.in-Some.ensures.steps.0 in
    record {
      lines = push_map _ _ _ _ _ c.push_reserved.ensures.items i.lines;
      turns = push_map _ _ _ _ _ c.push_reserved-in-loop-end.ensures.items i.turns;
      all = first_of_all _ _ _ _ _ i.all first;
      lines_fit = omega (arith, i.lines_fit, length_more _ _ _ c.push_reserved.ensures.items, c.push_reserved.ensures.capacity, ap length first);
      turns_fit = omega (arith, i.turns_fit, length_more _ _ _ c.push_reserved-in-loop-end.ensures.items, c.push_reserved-in-loop-end.ensures.capacity, ap length first);
    }

pub returns : goal.returns
returns g c =
    let i = c.loop-end.invariant in
    let all = all_done _ _ _ i.all (sym c.loop-end.end-iterator.rest.ok.0 ∙ c.in-None.ensures.steps.0) in
    record { lines = i.lines ∙ ap (map (λ end. end.line)) all; turns = i.turns ∙ ap (map (λ end. end.turn)) all }
