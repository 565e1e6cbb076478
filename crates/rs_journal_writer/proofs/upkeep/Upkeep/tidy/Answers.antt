use Rattle.rs_journal_writer.proofs.upkeep.Upkeep.tidy.Goals as goal

pub returns-in-Ok-clause-sure : goal.returns-in-Ok-clause-sure
returns-in-Ok-clause-sure g c = λ sure stores. c.shorten_if_long.ensures.sure sure (c.in-Ok.ensures.sure tt c.args.writer.now.published stores)

pub returns-in-Ok-clause-crash : goal.returns-in-Ok-clause-crash
returns-in-Ok-clause-crash g c = λ stores. c.shorten_if_long.ensures.crash (c.in-Ok.ensures.sure tt c.args.writer.now.published stores)

pub returns-in-Err-Refused-clause-sure : goal.returns-in-Err-Refused-clause-sure
returns-in-Err-Refused-clause-sure g c = λ sure stores.
    c.shorten_if_long-in-Err-Refused.ensures.sure sure ((rw c.in-Err-Refused.field-0-is at c.in-Err-Refused.ensures.sure) tt c.args.writer.now.published stores)

pub returns-in-Err-Refused-clause-crash : goal.returns-in-Err-Refused-clause-crash
returns-in-Err-Refused-clause-crash g c = λ stores.
    c.shorten_if_long-in-Err-Refused.ensures.crash ((rw c.in-Err-Refused.field-0-is at c.in-Err-Refused.ensures.sure) tt c.args.writer.now.published stores)

pub returns-in-Err-Doubtful-clause-crash : goal.returns-in-Err-Doubtful-clause-crash
returns-in-Err-Doubtful-clause-crash g c = λ stores. c.in-Err-Doubtful.ensures.crash c.args.writer.now.published stores
