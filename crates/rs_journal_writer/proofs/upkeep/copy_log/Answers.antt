use Rattle.rs_journal_writer.proofs.Shortening.{stores_kept}
use Rattle.rs_journal_writer.proofs.upkeep.copy_log.Goals as goal

pub returns-in-Ok-clause-sure : goal.returns-in-Ok-clause-sure
returns-in-Ok-clause-sure g c = λ before stores. stores_kept c.args.journal.now c.checkpoint.new.self before c.checkpoint.ensures.rests stores

pub returns-in-Err-clause-sure : goal.returns-in-Err-clause-sure
returns-in-Err-clause-sure g c = λ before stores. stores_kept c.args.journal.now c.checkpoint.new.self before c.checkpoint.ensures.rests stores
