use Rattle.std.proofs.Common.{◌∙◌, ap, sym}
use Rattle.std.proofs.lemmas.List.{length-map}
use Rattle.rs_places_steps.specs.Shared.{SharedValue}
use Rattle.rs_places.specs.Gates.{handed_on}
use Rattle.rs_places.proofs.Whole.{all_done, next_of_map}
use Rattle.rs_places.proofs.store.sharing_gates.Goals as goal

pub new-requires : goal.new-requires
new-requires g c = ap (λ (v : SharedValue). v.pending) c.sharing-gate.ensures.gate

pub loop-line-preserved : goal.loop-line-preserved
loop-line-preserved g c =
    let is = c.new.ensures ∙ (c.sharing-gate.ensures.gate ∙ ap (λ k. handed_on k c.in-Some.line) c.again.ensures.again) in
    next_of_map (λ line. handed_on c.args.known line) _ _ _ _ _ _ _ c.in-Ok.ensures.items c.loop-line.invariant c.in-Some.ensures.steps.0 is

pub returns : goal.returns
returns g c =
    let rest = c.loop-line.line-iterator.rest in
    all_done _ _ _ c.loop-line.invariant (length-map rest.items (λ line. handed_on c.args.known line) ∙ (sym rest.ok.0 ∙ c.in-None.ensures.steps.0))
