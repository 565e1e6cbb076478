use Rattle.std.proofs.Common.{sym}
use Rattle.sqlite_wal.proofs.StateLemmas.{AddsNothing-trans}
use Rattle.rs_journal.specs.Streams.{may_leave}
use Rattle.rs_journal.proofs.StandsLemmas.{stands_of}
use Rattle.rs_journal.specs.Frames.{frames}
use Rattle.rs_journal.proofs.FrameLemmas.{none_wrong, one_list}
use Rattle.rs_journal.proofs.journal.Journal.read_again.Goals as goal

pub returns-in-Ok-clause-read : goal.returns-in-Ok-clause-read
returns-in-Ok-clause-read g c =
    let read = c.in-Ok.ensures.read in (
      read.0,
      read.1,
      λ standing seen holds fits clean.
          let rests = c.rollback.ensures.rests (frames standing) (stands_of _ (frames standing) (frames seen) holds) in
          one_list read.0 standing read.2 fits (sym (read.3 (frames standing) rests (c.is_open.ensures.0 c.if-not-is_open.false) clean)),
    )

pub returns-in-Ok-clause-rests : goal.returns-in-Ok-clause-rests
returns-in-Ok-clause-rests g c = λ standing seen holds. c.read_stream.ensures.rests (frames standing) (c.rollback.ensures.rests (frames standing) (stands_of _ (frames standing) (frames seen) holds))

pub returns-in-Err-clause-rests : goal.returns-in-Err-clause-rests
returns-in-Err-clause-rests g c = λ standing seen holds. c.read_stream.ensures.rests (frames standing) (c.rollback.ensures.rests (frames standing) (stands_of _ (frames standing) (frames seen) holds))

pub returns-in-Ok-clause-crash : goal.returns-in-Ok-clause-crash
returns-in-Ok-clause-crash g c =
    AddsNothing-trans 1024 (may_leave c.args.self.now.stream) (may_leave c.rollback.new.self) (may_leave c.read_stream.new.self.stream) c.rollback.ensures.crash c.read_stream.ensures.crash

pub returns-in-Err-clause-crash : goal.returns-in-Err-clause-crash
returns-in-Err-clause-crash g c =
    AddsNothing-trans 1024 (may_leave c.args.self.now.stream) (may_leave c.rollback.new.self) (may_leave c.read_stream.new.self.stream) c.rollback.ensures.crash c.read_stream.ensures.crash

pub returns-then-not-is_open-clause-rests : goal.returns-then-not-is_open-clause-rests
returns-then-not-is_open-clause-rests g c = λ standing seen holds. c.rollback.ensures.rests (frames standing) (stands_of _ (frames standing) (frames seen) holds)

pub returns-then-not-is_open-clause-closed : goal.returns-then-not-is_open-clause-closed
returns-then-not-is_open-clause-closed g c = c.rollback.ensures.closed

pub returns-then-not-is_open-clause-crash : goal.returns-then-not-is_open-clause-crash
returns-then-not-is_open-clause-crash g c = c.rollback.ensures.crash

pub returns-in-Err-clause-refused : goal.returns-in-Err-clause-refused
returns-in-Err-clause-refused g c = λ refusal clean standing seen holds.
    let rests = c.rollback.ensures.rests (frames standing) (stands_of _ (frames standing) (frames seen) holds) in
    none_wrong c.in-Err.fault standing (c.in-Err.ensures.refused (frames standing) rests (c.is_open.ensures.0 c.if-not-is_open.false) clean) refusal

pub returns-in-Err-clause-named : goal.returns-in-Err-clause-named
returns-in-Err-clause-named g c = λ clean standing seen holds.
    let rests = c.rollback.ensures.rests (frames standing) (stands_of _ (frames standing) (frames seen) holds) in
    c.in-Err.ensures.refused (frames standing) rests (c.is_open.ensures.0 c.if-not-is_open.false) clean
