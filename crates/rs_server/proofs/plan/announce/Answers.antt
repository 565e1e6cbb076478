use Rattle.std.proofs.Common.{ℕ, drop, subst}
use Rattle.rs_session.specs.Pending.{AreChanges}
use Rattle.rs_session.specs.State.{gate_of}
use Rattle.rs_server.proofs.Planning.{announced}
use Rattle.rs_server.proofs.plan.announce.Goals as goal

pub returns-clause-pending : goal.returns-clause-pending
returns-clause-pending g c =
    let pending = g.G.Gate.pending (gate_of c.args.session.now) in
    announced c.args.planned.now.items c.changes_of-changes.result.items pending _
    (subst (λ (n : ℕ). AreChanges (drop n c.args.planned.now.items) c.changes_of-changes.result.items) c.pending_count-pending.ensures c.changes_of-changes.ensures.changes)
    c.expect.ensures.pending
