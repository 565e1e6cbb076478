use Rattle.rs_journal_writer.proofs.Shortening.{may_kept}
use Rattle.rs_journal_writer.proofs.upkeep.Upkeep.copy.Goals as goal

pub returns-in-None-clause-crash : goal.returns-in-None-clause-crash
returns-in-None-clause-crash g c = λ before stores. may_kept c.copy_log.new.journal before (c.copy_log.ensures.sure before stores)
