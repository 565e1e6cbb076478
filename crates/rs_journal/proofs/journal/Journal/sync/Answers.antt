use Rattle.std.proofs.Common.{inl, arith}
use Rattle.rs_journal.proofs.StandsLemmas.{leaves_of, stands_if_rests}
use Rattle.rs_journal.specs.Frames.{frames}
use Rattle.rs_journal.proofs.journal.Journal.sync.Goals as goal

pub returns-in-Err-clause-refused : goal.returns-in-Err-clause-refused
returns-in-Err-clause-refused g c = λ _ standing seen holds. c.in-Err.ensures.refused (frames standing) (frames seen) holds

pub returns-in-Err-clause-crash : goal.returns-in-Err-clause-crash
returns-in-Err-clause-crash g c = λ standing seen holds left may.
    let it = c.push_page.new.self in inl (leaves_of it (frames standing) (stands_if_rests it (frames standing) (c.in-Err.ensures.refused (frames standing) (frames seen) holds)) left may)

pub returns-in-Err-clause-closed : goal.returns-in-Err-clause-closed
returns-in-Err-clause-closed g c = c.push_page.ensures.closed

pub returns-in-Ok-clause-open : goal.returns-in-Ok-clause-open
returns-in-Ok-clause-open g c = c.in_default.ensures.open

pub returns-in-Ok-clause-closed : goal.returns-in-Ok-clause-closed
returns-in-Ok-clause-closed g c = λ shut. absurd (shut c.in_default.ensures.open)

pub returns-in-Ok-clause-done : goal.returns-in-Ok-clause-done
returns-in-Ok-clause-done g c = λ standing seen holds. c.in-Ok.ensures.done standing seen (c.in_default.ensures.holds (frames standing) (frames seen) holds)

pub returns-in-Ok-clause-writes : goal.returns-in-Ok-clause-writes
returns-in-Ok-clause-writes g c = omega (arith, c.in_default.ensures.more, c.in-Ok.ensures.pages)

pub returns-in-Ok-clause-still : goal.returns-in-Ok-clause-still
returns-in-Ok-clause-still g c = c.in-Ok.ensures.still

pub returns-in-Ok-clause-crash : goal.returns-in-Ok-clause-crash
returns-in-Ok-clause-crash g c = λ standing seen holds. c.commit.ensures.crash standing seen (c.in_default.ensures.holds (frames standing) (frames seen) holds)

pub returns-in-Err-commit-clause-closed : goal.returns-in-Err-commit-clause-closed
returns-in-Err-commit-clause-closed g c = λ shut. absurd (shut c.in_default.ensures.open)

pub returns-in-Err-commit-clause-doubtful : goal.returns-in-Err-commit-clause-doubtful
returns-in-Err-commit-clause-doubtful g c = λ doubtful. (c.in_default.ensures.open, (c.in-Err-commit.ensures.doubtful doubtful).1)

pub returns-in-Err-commit-clause-refused : goal.returns-in-Err-commit-clause-refused
returns-in-Err-commit-clause-refused g c = λ refused standing seen holds. c.in-Err-commit.ensures.refused refused standing seen (c.in_default.ensures.holds (frames standing) (frames seen) holds)

pub returns-in-Err-commit-clause-crash : goal.returns-in-Err-commit-clause-crash
returns-in-Err-commit-clause-crash g c = λ standing seen holds. c.commit.ensures.crash standing seen (c.in_default.ensures.holds (frames standing) (frames seen) holds)
