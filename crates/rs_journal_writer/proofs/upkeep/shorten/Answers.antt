use Rattle.rs_journal_writer.proofs.Shortening.{may_kept}
use Rattle.rs_journal_writer.proofs.upkeep.shorten.Goals as goal

pub returns-in-Some-clause-sure : goal.returns-in-Some-clause-sure
returns-in-Some-clause-sure g c = λ sure stores. c.replace.ensures.sure sure c.args.writer.now.published (c.list_all.ensures.stores stores) (c.in-Some.ensures.lists stores)

pub returns-in-Some-clause-crash : goal.returns-in-Some-clause-crash
returns-in-Some-clause-crash g c = λ stores. c.replace.ensures.crash c.args.writer.now.published (c.list_all.ensures.stores stores) (c.in-Some.ensures.lists stores)

pub returns-in-None-clause-crash : goal.returns-in-None-clause-crash
returns-in-None-clause-crash g c = λ stores. may_kept c.list_all.new.journal c.args.writer.now.published (c.list_all.ensures.stores stores)
