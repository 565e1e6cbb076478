use Rattle.std.proofs.Common.{refl, sym, ap, subst, Some, None}
use Rattle.rs_packet.specs.declared.reply.Reply.{Reply}
use Rattle.rs_session.specs.State.{IsReplayed}
use Rattle.rs_session.specs.declared.open.Open.{Open}
use Rattle.rs_session.specs.declared.phase.Phase.{Phase}
use Rattle.rs_session.specs.declared.phase.Phase.TheVariants as phase
use Rattle.rs_session.proofs.session.next_waiting.Goals as goal

pub returns-in-Some-clause-given : goal.returns-in-Some-clause-given
returns-in-Some-clause-given c =
    let left : Open = record c.in-Open.open { window = c.next.new.self } in
    subst (λ (x : Phase). IsReplayed c.args.now x (Some c.reply.result) (phase.Open left)) (sym c.in-Open.is)
    (left, refl, record { publish = Some c.in-Some.publish; next = c.in-Some.ensures.step; reply = ap (λ (r : Reply). Some r) c.reply.ensures; rest = refl })

pub returns-in-None-clause-given : goal.returns-in-None-clause-given
returns-in-None-clause-given c =
    let left : Open = record c.in-Open.open { window = c.next.new.self } in
    subst (λ (x : Phase). IsReplayed c.args.now x None (phase.Open left)) (sym c.in-Open.is)
    (left, refl, record { publish = None; next = c.in-None.ensures.step; reply = refl; rest = refl })
