use Rattle.sqlite_wal.proofs.StateLemmas.{AddsNothing-trans}
use Rattle.rs_journal.specs.Streams.{may_leave}
use Rattle.rs_journal.proofs.StandsLemmas.{adds_none, closed_trans, stands_if_rests, stands_of, stands_on}
use Rattle.rs_journal.proofs.pages.stream.PageStream.begin_anew.Goals as goal

pub returns-in-Ok-clause-begun : goal.returns-in-Ok-clause-begun
returns-in-Ok-clause-begun g c = λ standing seen holds. c.in-Ok.ensures.begun standing (c.rollback.ensures.rests standing (stands_of _ standing seen holds))

pub returns-in-Ok-clause-open : goal.returns-in-Ok-clause-open
returns-in-Ok-clause-open g c = c.rollback.ensures.open.0 c.in-Ok.ensures.open

pub returns-in-Ok-clause-crash : goal.returns-in-Ok-clause-crash
returns-in-Ok-clause-crash g c =
    AddsNothing-trans 1024 (may_leave c.args.self.now) (may_leave c.rollback.new.self) (may_leave c.put_head.new.self) c.rollback.ensures.crash
    (adds_none c.rollback.new.self c.put_head.new.self c.put_head.ensures.goes_on)

pub returns-in-Err-clause-refused : goal.returns-in-Err-clause-refused
returns-in-Err-clause-refused g c = λ standing seen holds.
    let rests = c.rollback.ensures.rests standing (stands_of _ standing seen holds) in
    c.rollback-in-Err.ensures.rests standing (stands_on c.rollback.new.self c.put_head.new.self standing c.put_head.ensures.goes_on (stands_if_rests c.rollback.new.self standing rests))

pub returns-in-Err-clause-crash : goal.returns-in-Err-clause-crash
returns-in-Err-clause-crash g c =
    AddsNothing-trans 1024 (may_leave c.args.self.now) (may_leave c.put_head.new.self) (may_leave c.rollback-in-Err.new.self)
    (AddsNothing-trans 1024 (may_leave c.args.self.now) (may_leave c.rollback.new.self) (may_leave c.put_head.new.self) c.rollback.ensures.crash
    (adds_none c.rollback.new.self c.put_head.new.self c.put_head.ensures.goes_on))
    c.rollback-in-Err.ensures.crash

pub returns-in-Ok-clause-closed : goal.returns-in-Ok-clause-closed
returns-in-Ok-clause-closed g c = λ shut.
    let mid = c.rollback.ensures.closed shut in closed_trans c.args.self.now c.rollback.new.self c.put_head.new.self mid (c.put_head.ensures.closed mid.closed)

pub returns-in-Err-clause-closed : goal.returns-in-Err-clause-closed
returns-in-Err-clause-closed g c = λ shut.
    let mid = c.rollback.ensures.closed shut in
    let late = closed_trans c.args.self.now c.rollback.new.self c.put_head.new.self mid (c.put_head.ensures.closed mid.closed) in
    closed_trans c.args.self.now c.put_head.new.self c.rollback-in-Err.new.self late (c.rollback-in-Err.ensures.closed late.closed)
