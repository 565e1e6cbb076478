use Rattle.std.proofs.Common.{ℕ, refl, subst, sym}
use Rattle.rs_journal.proofs.StandsLemmas.{closed_trans, either_kept}
use Rattle.sqlite_disk.specs.Disk.{MoreFaults}
use Rattle.rs_journal.specs.Streams.{fault_count, may_leave}
use Rattle.rs_journal.proofs.pages.stream.PageStream.commit.Goals as goal

pub returns-in-Ok-clause-done : goal.returns-in-Ok-clause-done
returns-in-Ok-clause-done g c = c.in-Ok.ensures.done

pub returns-in-Ok-clause-crash : goal.returns-in-Ok-clause-crash
returns-in-Ok-clause-crash g c = c.commit_all.ensures.crash

pub returns-in-Err-clause-refused : goal.returns-in-Err-clause-refused
returns-in-Err-clause-refused g c = λ ready standing seen holds. c.rollback.ensures.rests standing (c.in-Err.ensures.stands (c.rollback.ensures.open.0 ready) standing seen holds)

pub returns-in-Err-clause-crash : goal.returns-in-Err-clause-crash
returns-in-Err-clause-crash g c = λ standing seen holds.
    either_kept 1024 (may_leave c.commit_all.new.self) (may_leave c.rollback.new.self) standing seen refl (c.commit_all.ensures.crash standing seen holds) c.rollback.ensures.crash

pub returns-in-Ok-clause-open : goal.returns-in-Ok-clause-open
returns-in-Ok-clause-open g c = c.in-Ok.ensures.open

pub returns-in-Ok-clause-closed : goal.returns-in-Ok-clause-closed
returns-in-Ok-clause-closed g c = c.commit_all.ensures.closed

pub returns-in-Err-clause-closed : goal.returns-in-Err-clause-closed
returns-in-Err-clause-closed g c = λ shut.
    let mid = c.commit_all.ensures.closed shut in closed_trans c.args.self.now c.commit_all.new.self c.rollback.new.self mid (c.rollback.ensures.closed mid.closed)

pub returns-in-Ok-clause-still : goal.returns-in-Ok-clause-still
returns-in-Ok-clause-still g c = c.in-Ok.ensures.still

pub returns-in-Ok-clause-closes : goal.returns-in-Ok-clause-closes
returns-in-Ok-clause-closes g c = c.commit_all.ensures.closes

pub returns-in-Err-clause-closes : goal.returns-in-Err-clause-closes
returns-in-Err-clause-closes g c = λ was shut.
    subst (λ (n : ℕ). MoreFaults (fault_count c.args.self.now) n) (sym c.rollback.ensures.faults) (c.commit_all.ensures.closes was (λ still. shut (c.rollback.ensures.open.1 still)))
