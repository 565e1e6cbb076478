use Rattle.sqlite_wal.proofs.StateLemmas.{AddsNothing-trans}
use Rattle.rs_journal.specs.Streams.{may_leave}
use Rattle.rs_journal.proofs.StandsLemmas.{closed_trans}
use Rattle.rs_journal.specs.Frames.{frames}
use Rattle.rs_journal.proofs.journal.Journal.push.Goals as goal

pub returns-in-Ok-clause-pushed : goal.returns-in-Ok-clause-pushed
returns-in-Ok-clause-pushed g c = c.in-Ok.ensures.pushed

pub returns-in-Err-clause-refused : goal.returns-in-Err-clause-refused
returns-in-Err-clause-refused g c = λ standing seen holds. c.rollback.ensures.rests (frames standing) (c.push_frame.ensures.stands standing seen holds)

pub returns-in-Ok-clause-open : goal.returns-in-Ok-clause-open
returns-in-Ok-clause-open g c = c.in-Ok.ensures.open

pub returns-in-Ok-clause-crash : goal.returns-in-Ok-clause-crash
returns-in-Ok-clause-crash g c = c.push_frame.ensures.crash

pub returns-in-Err-clause-crash : goal.returns-in-Err-clause-crash
returns-in-Err-clause-crash g c =
    AddsNothing-trans 1024 (may_leave c.args.self.now.stream) (may_leave c.push_frame.new.self.stream) (may_leave c.rollback.new.self) c.push_frame.ensures.crash c.rollback.ensures.crash

pub returns-in-Ok-clause-closed : goal.returns-in-Ok-clause-closed
returns-in-Ok-clause-closed g c = c.push_frame.ensures.closed

pub returns-in-Err-clause-closed : goal.returns-in-Err-clause-closed
returns-in-Err-clause-closed g c = λ shut.
    let mid = c.push_frame.ensures.closed shut in closed_trans c.args.self.now.stream c.push_frame.new.self.stream c.rollback.new.self mid (c.rollback.ensures.closed mid.closed)
