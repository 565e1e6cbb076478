use Rattle.rs_journal_writer.proofs.Shortening.{may_kept}
use Rattle.rs_journal_writer.proofs.upkeep.Upkeep.shorten_if_long.Goals as goal

pub returns-then-not-is_long-clause-crash : goal.returns-then-not-is_long-clause-crash
returns-then-not-is_long-clause-crash g c = λ stores. may_kept c.args.journal.now c.args.writer.now.published stores
