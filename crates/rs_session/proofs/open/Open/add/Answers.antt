use Rattle.std.proofs.Common.{refl}
use Rattle.rs_session.proofs.Rows.{taken_out}
use Rattle.rs_session.proofs.open.Open.add.Goals as goal

pub returns-clause-list : goal.returns-clause-list
returns-clause-list g c = λ seen s.
    let (list, stands, begins, same) = c.if-replay.ensures.list seen s in
    (list, stands, begins, taken_out c.args.self.now _ c.replay.new.self c.args.filter c.in-Ok.key c.args.subscription c.insert.new.self c.remove.new.self c.requires c.in-Ok.ensures c.in-Ok-insert.ensures.done refl same c.remove.ensures.removed)
