use Rattle.std.proofs.Common.{◌∙◌, ap, arith, Bool, Ok, subst, sym}
use Rattle.std.specs.List.{All}
use Rattle.rs_session.specs.Pending.{HasChange}
use Rattle.rs_server.proofs.Planning.{all_more, but_last_all, but_last_next, next_few, plans_more, plans_none}
use Rattle.rs_server.proofs.plan.look_ahead.Goals as goal

pub next-init : goal.next-init
next-init g c = record {
  plans = plans_none _ _ _;
  few = omega (arith, c.len-count.ensures, c.args.planned.now.ok.0);
  rounds = omega (arith, c.len-count.ensures, c.args.planned.now.ok.0);
  changes = λ front. c.may_go_on.ensures c.if-not-may_go_on.false front;
}

pub returns-in_default : goal.returns-in_default
returns-in_default g c = record {
  plans = plans_more c.args.planned.now.items c.next.planned.items c.plan_next.new.planned.items _ c.next.buffered.items _ _ (g.C.Clock.moments c.next.clock) _ c.next.invariant.plans c.plan_next.ensures.plans;
  few = omega (arith, next_few c.next.planned.items c.plan_next.new.planned.items _ _ _ _ c.plan_next.ensures.plans, c.next.invariant.few, c.next-test.true);
  only_last = λ front. but_last_next c.next.planned.items c.plan_next.new.planned.items _ _ _ _ c.plan_next.ensures.plans (c.next.invariant.changes front);
}

pub returns-in_default-2 : goal.returns-in_default-2
returns-in_default-2 g c = record {
  plans = plans_more c.args.planned.now.items c.next.planned.items c.plan_next.new.planned.items _ c.next.buffered.items _ _ (g.C.Clock.moments c.next.clock) _ c.next.invariant.plans c.plan_next.ensures.plans;
  few = omega (arith, next_few c.next.planned.items c.plan_next.new.planned.items _ _ _ _ c.plan_next.ensures.plans, c.next.invariant.few, c.next-test.true);
  only_last = λ front. but_last_next c.next.planned.items c.plan_next.new.planned.items _ _ _ _ c.plan_next.ensures.plans (c.next.invariant.changes front);
}

pub next-preserved : goal.next-preserved
next-preserved g c =
    let (given, grown, has) = c.plan_next.ensures.change (c.in-Ok-true.is ∙ ap (λ (b : Bool). Ok b) c.in-Ok-true.field-0-test) in
    record {
      plans = plans_more c.args.planned.now.items c.next.planned.items c.plan_next.new.planned.items _ c.next.buffered.items _ _ (g.C.Clock.moments c.next.clock) _ c.next.invariant.plans c.plan_next.ensures.plans;
      few = omega (arith, next_few c.next.planned.items c.plan_next.new.planned.items _ _ _ _ c.plan_next.ensures.plans, c.next.invariant.few);
      rounds = omega (arith, c.next-test.true);
      changes = λ front. subst (All HasChange) (sym grown) (all_more c.next.planned.items given (c.next.invariant.changes front) has);
    }

pub returns : goal.returns
returns g c = record {
  plans = c.next.invariant.plans;
  few = omega (arith, c.next.invariant.few, c.next.invariant.rounds);
  only_last = λ front. but_last_all c.next.planned.items (c.next.invariant.changes front);
}
