use Rattle.std.proofs.Common.{refl, ap}
use Rattle.rs_packet.specs.declared.packet.Packet.TheVariants as packet
use Rattle.rs_window.specs.State.{State}
use Rattle.rs_session.specs.declared.open.Open.{Open}
use Rattle.rs_session.specs.Points.{point_at}
use Rattle.rs_session.proofs.Rows.{acknowledged, not_acknowledged}
use Rattle.rs_session.proofs.open.Open.pubcomp.Goals as goal

pub returns-in-Ok : goal.returns-in-Ok
returns-in-Ok c = λ now mark list. acknowledged (packet.Pubcomp c.args.a) _ _ _ now (point_at c.args.self.now list mark) _ _ refl c.in-Ok.ensures.step refl refl

pub returns-in-Err : goal.returns-in-Err
returns-in-Err c = λ now mark list.
    not_acknowledged (packet.Pubcomp c.args.a) _ _ _ now (point_at c.args.self.now list mark) _ refl c.in-Err.ensures.step (ap (λ (w : State). let o : Open = record c.args.self.now { window = w } in o) c.in-Err.ensures.refused)
