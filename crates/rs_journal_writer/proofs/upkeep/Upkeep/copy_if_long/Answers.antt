use Rattle.rs_journal_writer.proofs.Shortening.{may_kept}
use Rattle.rs_journal_writer.proofs.upkeep.Upkeep.copy_if_long.Goals as goal

pub returns-then-pages-self-clause-crash : goal.returns-then-pages-self-clause-crash
returns-then-pages-self-clause-crash g c = λ before stores. may_kept c.args.journal.now before stores
