use Rattle.rs_journal_writer.proofs.Shortening.{may_kept}
use Rattle.rs_journal_writer.proofs.upkeep.copy_synced.Goals as goal

pub returns-in-Ok-clause-sure : goal.returns-in-Ok-clause-sure
returns-in-Ok-clause-sure g c = λ _ before stores. c.copy_log.ensures.sure before (c.in-Ok.ensures.sure tt before stores)

pub returns-in-Ok-clause-crash : goal.returns-in-Ok-clause-crash
returns-in-Ok-clause-crash g c = λ before stores. may_kept c.copy_log.new.journal before (c.copy_log.ensures.sure before (c.in-Ok.ensures.sure tt before stores))
