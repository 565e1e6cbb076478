use Rattle.rs_version.proofs.Holding.{refused_of}
use Rattle.tests_store.proofs.queue.together.CountingStoreWriter.put.Goals as goal

pub returns-clause-refused : goal.returns-clause-refused
returns-clause-refused g c = refused_of c.put.result g.N.StoreName.limit c.args.self.now.writer c.put.new.self c.args.entry c.put.ensures.refused
