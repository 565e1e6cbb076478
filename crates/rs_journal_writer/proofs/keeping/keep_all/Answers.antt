use Rattle.rs_journal_writer.proofs.Storing.{may_store_old}
use Rattle.rs_journal_writer.proofs.keeping.keep_all.Goals as goal

pub returns-then-not-may_commit-clause-crash : goal.returns-then-not-may_commit-clause-crash
returns-then-not-may_commit-clause-crash g c = λ before stores. may_store_old c.args.journal.now before c.args.entries.now.items stores
