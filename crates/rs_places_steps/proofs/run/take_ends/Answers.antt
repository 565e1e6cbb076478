use Rattle.std.proofs.Common.{◌≡◌, [], length, sym, ap, ◌∙◌, arith}
use Rattle.std.proofs.lemmas.List.{nil_from_length}
use Rattle.rs_places_steps.proofs.Each.{each_of_both, each_of_whole, first_of_all, length_more}
use Rattle.rs_places_steps.proofs.run.take_ends.Goals as goal

pub push_reserved-requires : goal.push_reserved-requires
push_reserved-requires g c = omega (arith, c.loop-coming.invariant.2, ap length c.in-Some.ensures.steps.0, c.loop-coming.ends.ok.0)

pub loop-coming-preserved : goal.loop-coming-preserved
loop-coming-preserved g c =
    let invariant = c.loop-coming.invariant in
    let first = c.in-Some.ensures.steps.0 in
    let pushed = c.push_reserved.ensures.items in (
      each_of_both _ _ _ _ _ _ _ _ pushed invariant.0 c.wait_end.ensures,
      first_of_all _ _ _ _ _ invariant.1 first,
      omega (arith, invariant.2, length_more _ _ _ pushed, c.push_reserved.ensures.capacity, ap length first),
    )

pub returns : goal.returns
returns g c =
    let invariant = c.loop-coming.invariant in
    let none : c.loop-coming.coming-iterator.rest.items ≡ [] = nil_from_length _ (sym c.loop-coming.coming-iterator.rest.ok.0 ∙ c.in-None.ensures.steps.0) in
    each_of_whole _ _ _ _ _ _ invariant.0 invariant.1 none
