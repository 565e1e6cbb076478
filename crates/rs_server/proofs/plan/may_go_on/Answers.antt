use Rattle.std.proofs.Common.{◌≡◌, ◌<◌, ◌-◌, ◌∙◌, ℕ, ap, arith, length, get_or}
use Rattle.std.proofs.lemmas.Bool.Decides.{nat_tests}
use Rattle.rs_session.specs.Points.{Given}
use Rattle.rs_server.proofs.Planning.{all_with_last}
use Rattle.rs_server.proofs.plan.may_go_on.Goals as goal

pub returns : goal.returns
returns c = λ some front.
    let items = c.args.planned.now.items in
    let last : Given = c.index-last.result.now in
    let there : 0 < length items = grind (arith, nat_tests, c.is_empty.ensures, c.if-is_empty.false, c.args.planned.now.ok.0) in
    let index : c.len.result - 1 ≡ length items - 1 = omega (arith, c.len.ensures, c.args.planned.now.ok.0) in
    let is : last ≡ get_or items (length items - 1) last = c.index-last.ensures ∙ ap (λ (n : ℕ). get_or items n last) index in
    all_with_last items last there is (c.has_change.ensures some) front
