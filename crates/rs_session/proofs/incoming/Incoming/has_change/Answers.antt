use Rattle.std.proofs.Common.{◌∙◌, subst, sym}
use Rattle.rs_session.specs.Pending.{HasChange}
use Rattle.rs_session.specs.Points.{given_at}
use Rattle.rs_session.proofs.Expecting.{has_change}
use Rattle.rs_session.proofs.incoming.Incoming.has_change.Goals as goal

pub returns : goal.returns
returns c = λ some. subst HasChange c.self.view_is (has_change (given_at c.self.inside.input c.self.inside.time) c.self.inside.change (sym c.is_some.ensures ∙ some) c.self.invariant)
