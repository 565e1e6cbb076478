use Rattle.rs_version.proofs.WriterState.{ready_added, ready_deferred}
use Rattle.rs_version.proofs.writer.VersionWriter.put.Goals as goal

pub returns-clause-published : goal.returns-clause-published
returns-clause-published g c = ready_added c.add.result g.N.StoreName.limit c.args.self.now c.make_space.new.self c.add.new.self c.args.entry c.in_default.ensures.ready c.add.ensures.published

pub returns-clause-refused : goal.returns-clause-refused
returns-clause-refused g c = ready_deferred c.add.result g.N.StoreName.limit c.args.self.now c.make_space.new.self c.add.new.self c.args.entry c.in_default.ensures.ready c.add.ensures.deferred
