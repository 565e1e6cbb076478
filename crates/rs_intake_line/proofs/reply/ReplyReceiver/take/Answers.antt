use Rattle.std.proofs.Common.{ap}
use Rattle.rs_intake_line.specs.ReplyRule.{Heard}
use Rattle.rs_intake_line.proofs.Ahead.{take_end, take_gives}
use Rattle.rs_intake_line.proofs.reply.ReplyReceiver.take.Goals as goal

pub invariant_of-self : goal.invariant_of-self
invariant_of-self g c = (c.self.invariant.0, c.self.invariant.1, c.self.invariant.2, take_end _ _ _ c.next.result c.self.invariant.3 c.next.ensures)

pub returns : goal.returns
returns g c = take_gives _ _ _ _ _ c.next.result c.self.invariant.3 (ap (λ (v : Heard). v.heard) c.self.view_is) (ap (λ (v : Heard). v.came) c.self.view_is) c.next.ensures
