use Rattle.rs_intake.proofs.Done.{put_done, put_is}
use Rattle.rs_intake.proofs.ways_back.reply_to.Goals as goal

pub returns-clause-done : goal.returns-clause-done
returns-clause-done g c =
    let e = c.put-outcome.ensures in
    put_done _ (g.S.StoreWriter.written c.args.writer.now) (g.S.StoreWriter.written c.put-outcome.new.self) _ c.put-outcome.result c.requires.rises e.published e.entry e.number e.told e.refused

pub returns-clause-put : goal.returns-clause-put
returns-clause-put g c =
    let e = c.put-outcome.ensures in
    put_is _ (g.S.StoreWriter.written c.args.writer.now) (g.S.StoreWriter.written c.put-outcome.new.self) _ c.put-outcome.result e.published e.entry e.number e.told e.refused
