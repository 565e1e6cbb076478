use Rattle.std.proofs.Common.{◌≡◌, arith, length}
use Rattle.std.proofs.lemmas.Bool.Decides.{nat_tests}
use Rattle.std.proofs.lemmas.List.{nil_from_length}
use Rattle.rs_server.proofs.Planning.{but_last_first, next_few}
use Rattle.rs_server.proofs.plan.plan_first.Goals as goal

pub returns-in-Ok-clause-few : goal.returns-in-Ok-clause-few
returns-in-Ok-clause-few g c =
    let none : length c.args.planned.now.items ≡ 0 = grind (arith, nat_tests, c.is_empty.ensures, c.if-not-is_empty.false, c.args.planned.now.ok.0) in
    omega (arith, none, next_few c.args.planned.now.items c.plan_next.new.planned.items _ _ _ _ c.plan_next.ensures.plans)

pub returns-in-Ok-clause-only_last : goal.returns-in-Ok-clause-only_last
returns-in-Ok-clause-only_last g c = λ front.
    let none : length c.args.planned.now.items ≡ 0 = grind (arith, nat_tests, c.is_empty.ensures, c.if-not-is_empty.false, c.args.planned.now.ok.0) in
    but_last_first c.args.planned.now.items c.plan_next.new.planned.items _ _ _ _ c.plan_next.ensures.plans (nil_from_length _ none)

pub returns-in-Err-clause-few : goal.returns-in-Err-clause-few
returns-in-Err-clause-few g c =
    let none : length c.args.planned.now.items ≡ 0 = grind (arith, nat_tests, c.is_empty.ensures, c.if-not-is_empty.false, c.args.planned.now.ok.0) in
    omega (arith, none, next_few c.args.planned.now.items c.plan_next.new.planned.items _ _ _ _ c.plan_next.ensures.plans)

pub returns-in-Err-clause-only_last : goal.returns-in-Err-clause-only_last
returns-in-Err-clause-only_last g c = λ front.
    let none : length c.args.planned.now.items ≡ 0 = grind (arith, nat_tests, c.is_empty.ensures, c.if-not-is_empty.false, c.args.planned.now.ok.0) in
    but_last_first c.args.planned.now.items c.plan_next.new.planned.items _ _ _ _ c.plan_next.ensures.plans (nil_from_length _ none)
