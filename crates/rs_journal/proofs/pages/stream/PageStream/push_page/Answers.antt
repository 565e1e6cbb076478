use Rattle.sqlite_wal.proofs.StateLemmas.{AddsNothing-trans}
use Rattle.rs_journal.specs.Streams.{may_leave}
use Rattle.rs_journal.proofs.StandsLemmas.{adds_none, closed_trans, stands_of, stands_on}
use Rattle.rs_journal.proofs.pages.stream.PageStream.push_page.Goals as goal

pub returns-in-Ok-clause-open : goal.returns-in-Ok-clause-open
returns-in-Ok-clause-open g c = c.in-Ok.ensures.open

pub returns-in-Ok-clause-crash : goal.returns-in-Ok-clause-crash
returns-in-Ok-clause-crash g c = adds_none c.args.self.now c.put_last.new.self c.put_last.ensures.goes_on

pub returns-in-Err-clause-refused : goal.returns-in-Err-clause-refused
returns-in-Err-clause-refused g c = λ standing seen holds.
    c.rollback.ensures.rests standing (stands_on c.args.self.now c.put_last.new.self standing c.put_last.ensures.goes_on (stands_of c.args.self.now standing seen holds))

pub returns-in-Err-clause-crash : goal.returns-in-Err-clause-crash
returns-in-Err-clause-crash g c =
    AddsNothing-trans 1024 (may_leave c.args.self.now) (may_leave c.put_last.new.self) (may_leave c.rollback.new.self) (adds_none c.args.self.now c.put_last.new.self c.put_last.ensures.goes_on)
    c.rollback.ensures.crash

pub returns-in-Ok-clause-closed : goal.returns-in-Ok-clause-closed
returns-in-Ok-clause-closed g c = c.put_last.ensures.closed

pub returns-in-Err-clause-closed : goal.returns-in-Err-clause-closed
returns-in-Err-clause-closed g c = λ shut.
    let mid = c.put_last.ensures.closed shut in closed_trans c.args.self.now c.put_last.new.self c.rollback.new.self mid (c.rollback.ensures.closed mid.closed)
