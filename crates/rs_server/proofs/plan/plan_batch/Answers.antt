use Rattle.rs_session.specs.State.{gate_of}
use Rattle.rs_server.proofs.Planning.{expected_planned}
use Rattle.rs_server.proofs.plan.plan_batch.Goals as goal

pub returns-clause-pending : goal.returns-clause-pending
returns-clause-pending g c = λ first.
    c.announce.ensures.pending (expected_planned c.args.planned.now.items c.look_ahead.new.planned.items _ _ _ _ (g.G.Gate.pending (gate_of c.args.session.now)) c.look_ahead.ensures.plans first)
