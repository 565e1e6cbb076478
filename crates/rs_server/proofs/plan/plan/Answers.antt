use Rattle.std.proofs.Common.{◌∙◌, arith, subst, sym}
use Rattle.rs_packet.specs.Prefixes.{IsMore}
use Rattle.rs_session.specs.State.{gate_of}
use Rattle.rs_server.proofs.Planning.{expected_planned, none_planned, plans_join}
use Rattle.rs_server.proofs.plan.plan.Goals as goal

pub returns-clause-plans : goal.returns-clause-plans
returns-clause-plans g c =
    let start = c.args.planned.now.items in
    let one = c.plan_first.new.planned.items in
    let two = c.plan_batch.new.planned.items in
    let three = c.plan_batch-2.new.planned.items in
    plans_join start three c.look_ahead.new.planned.items _ c.plan_batch-2.new.buffered.items _ _ (g.C.Clock.moments c.plan_batch-2.new.clock) _
    (plans_join start two three _ c.plan_batch.new.buffered.items _ _ (g.C.Clock.moments c.plan_batch.new.clock) _
    (plans_join start one two _ c.plan_first.new.buffered.items _ _ (g.C.Clock.moments c.plan_first.new.clock) _ c.plan_first.ensures.plans c.plan_batch.ensures.plans)
    c.plan_batch-2.ensures.plans)
    c.look_ahead.ensures.plans

pub returns-clause-more : goal.returns-clause-more
returns-clause-more g c = λ none.
    let third = none_planned c.plan_batch-2.new.planned.items c.look_ahead.new.planned.items _ _ _ _ c.look_ahead.ensures.plans none in
    let second = none_planned c.plan_batch.new.planned.items c.plan_batch-2.new.planned.items _ _ _ _ c.plan_batch-2.ensures.plans third.0 in
    let first = none_planned c.plan_first.new.planned.items c.plan_batch.new.planned.items _ _ _ _ c.plan_batch.ensures.plans second.0 in
    subst IsMore (sym (third.1 ∙ second.1 ∙ first.1)) (c.in_ok-plan_first.ensures.more first.0)

pub returns-clause-few : goal.returns-clause-few
returns-clause-few g c = λ few. omega (arith, few, c.plan_first.ensures.few, c.plan_batch.ensures.few, c.plan_batch-2.ensures.few, c.look_ahead.ensures.few, c.most_expected-most.ensures)

pub returns-clause-only_last : goal.returns-clause-only_last
returns-clause-only_last g c = λ front. c.look_ahead.ensures.only_last (c.plan_batch-2.ensures.only_last (c.plan_batch.ensures.only_last (c.plan_first.ensures.only_last front)))

pub returns-clause-pending : goal.returns-clause-pending
returns-clause-pending g c = λ first.
    let before = expected_planned c.args.planned.now.items c.plan_first.new.planned.items _ _ _ _ (g.G.Gate.pending (gate_of c.args.session.now)) c.plan_first.ensures.plans first in
    expected_planned c.plan_batch-2.new.planned.items c.look_ahead.new.planned.items _ _ _ _ (g.G.Gate.pending (gate_of c.plan_batch-2.new.session)) c.look_ahead.ensures.plans
    (c.plan_batch-2.ensures.pending (c.plan_batch.ensures.pending before))
