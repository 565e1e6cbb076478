use Rattle.std.proofs.Common.{ℕ, List, refl, inl}
use Rattle.sqlite_wal.proofs.StateLemmas.{StaysOrFails-trans, clean_of}
use Rattle.sqlite_pager.specs.Pager.{state}
use Rattle.rs_journal.specs.Streams.{IsOpen, Holds, Stands}
use Rattle.rs_journal.proofs.StandsLemmas.{closed_same, either_committed, failed_if_closed, leaves_of, on_err, rests_committed, stands_of, stands_on, stands_uncommitted}
use Rattle.rs_journal.proofs.pages.stream.PageStream.commit_all.Goals as goal

pub returns-in-Err-clause-stands : goal.returns-in-Err-clause-stands
returns-in-Err-clause-stands g c = λ ready standing seen holds. stands_on c.args.self.now c.flush.new.self standing c.flush.ensures.goes_on (stands_of c.args.self.now standing seen holds)

pub returns-in-Err-clause-crash : goal.returns-in-Err-clause-crash
returns-in-Err-clause-crash g c = λ standing seen holds left may. inl (leaves_of c.flush.new.self standing (stands_on c.args.self.now c.flush.new.self standing c.flush.ensures.goes_on (stands_of c.args.self.now standing seen holds)) left may)

pub returns-in-Err-commit-clause-stands : goal.returns-in-Err-commit-clause-stands
returns-in-Err-commit-clause-stands g c = λ ready standing seen holds.
    stands_uncommitted c.flush.new.self _ standing seen g.met.D.Disk.seen_may_stay ready (λ sound. c.commit.ensures.crash.stays.was_open sound) (λ sound. c.in-Err-commit.ensures.err sound) refl
    (c.in_default.ensures.holds standing seen holds)

pub returns-in-Err-commit-clause-crash : goal.returns-in-Err-commit-clause-crash
returns-in-Err-commit-clause-crash g c = λ standing seen holds.
    either_committed c.flush.new.self c.commit.new.self standing seen c.commit.ensures.crash c.in_default.ensures.empty (c.in_default.ensures.holds standing seen holds)

pub returns-clause-crash : goal.returns-clause-crash
returns-clause-crash g c = λ standing seen holds.
    either_committed c.flush.new.self c.commit.new.self standing seen c.commit.ensures.crash c.in_default.ensures.empty (c.in_default.ensures.holds standing seen holds)

pub returns-clause-done : goal.returns-clause-done
returns-clause-done g c = λ standing seen holds.
    let mid = c.flush.new.self in
    rests_committed mid _ standing seen g.met.D.Disk.seen_may_stay c.in_default-commit.ensures.ready (λ sound. c.commit.ensures.crash.stays.was_open sound)
    (λ sound. (c.in_default-commit.ensures.clean (clean_of (state c.commit.new.self) sound)).1)
    (λ sound. c.in_default-commit.ensures.durable (clean_of (state c.commit.new.self) sound))
    refl refl c.in_default.ensures.empty c.in_default.ensures.empty (c.in_default.ensures.holds standing seen holds)

pub returns-in_err-check_open-clause-stands : goal.returns-in_err-check_open-clause-stands
returns-in_err-check_open-clause-stands g c =
    let it = c.args.self.now in
    on_err c.from_residual.result (IsOpen it → (standing seen : List ℕ) → Holds it standing seen → Stands it standing) (λ ready standing seen holds. stands_of it standing seen holds)

pub returns-in_err-check_open-clause-crash : goal.returns-in_err-check_open-clause-crash
returns-in_err-check_open-clause-crash g c = λ standing seen holds left may. inl (leaves_of c.args.self.now standing (stands_of c.args.self.now standing seen holds) left may)

pub returns-in_err-check_open-clause-closed : goal.returns-in_err-check_open-clause-closed
returns-in_err-check_open-clause-closed g c = closed_same c.args.self.now _ refl

pub returns-in-Err-clause-closed : goal.returns-in-Err-clause-closed
returns-in-Err-clause-closed g c = λ shut. absurd (shut c.in_ok-check_open.ensures)

pub returns-in-Err-commit-clause-closed : goal.returns-in-Err-commit-clause-closed
returns-in-Err-commit-clause-closed g c = λ shut. absurd (shut c.in_ok-check_open.ensures)

pub returns-clause-closed : goal.returns-clause-closed
returns-clause-closed g c = λ shut. absurd (shut c.in_ok-check_open.ensures)

pub returns-clause-open : goal.returns-clause-open
returns-clause-open g c = c.in_ok-check_open.ensures

pub returns-clause-still : goal.returns-clause-still
returns-clause-still g c = c.in_default-commit.ensures.ready

pub returns-in_err-check_open-clause-closes : goal.returns-in_err-check_open-clause-closes
returns-in_err-check_open-clause-closes g c = λ was shut. absurd (shut was)

pub returns-in-Err-clause-closes : goal.returns-in-Err-clause-closes
returns-in-Err-clause-closes g c =
    failed_if_closed (state c.args.self.now.pager) (state c.flush.new.self.pager) c.flush.ensures.goes_on.keeps.stays

pub returns-in-Err-commit-clause-closes : goal.returns-in-Err-commit-clause-closes
returns-in-Err-commit-clause-closes g c =
    failed_if_closed (state c.args.self.now.pager) (state c.commit.new.self)
    (StaysOrFails-trans (state c.args.self.now.pager) (state c.flush.new.self.pager) (state c.commit.new.self) c.flush.ensures.goes_on.keeps.stays c.commit.ensures.crash.stays)

pub returns-clause-closes : goal.returns-clause-closes
returns-clause-closes g c = λ was shut. absurd (shut c.in_default-commit.ensures.ready)
