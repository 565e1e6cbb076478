use Rattle.std.proofs.Common.{inl}
use Rattle.rs_journal.proofs.StandsLemmas.{leaves_of, stands_if_rests, stands_of}
use Rattle.rs_journal.specs.Frames.{frames}
use Rattle.rs_journal.proofs.journal.Journal.commit.Goals as goal

pub returns-in-Ok-clause-done : goal.returns-in-Ok-clause-done
returns-in-Ok-clause-done g c = λ standing seen holds. c.in-Ok.ensures.done (frames standing) (frames seen) holds

pub returns-in-Ok-clause-crash : goal.returns-in-Ok-clause-crash
returns-in-Ok-clause-crash g c = λ standing seen holds. c.commit.ensures.crash (frames standing) (frames seen) holds

pub returns-then-is_open-clause-refused : goal.returns-then-is_open-clause-refused
returns-then-is_open-clause-refused g c = λ _ standing seen holds. c.in-Err.ensures.refused (c.is_open-in-Err.ensures.0 c.if-is_open.true) (frames standing) (frames seen) holds

pub returns-then-is_open-clause-crash : goal.returns-then-is_open-clause-crash
returns-then-is_open-clause-crash g c = λ standing seen holds. c.commit.ensures.crash (frames standing) (frames seen) holds

pub returns-else-is_open-clause-crash : goal.returns-else-is_open-clause-crash
returns-else-is_open-clause-crash g c = λ standing seen holds. c.commit.ensures.crash (frames standing) (frames seen) holds

pub returns-in-Ok-clause-open : goal.returns-in-Ok-clause-open
returns-in-Ok-clause-open g c = c.in-Ok.ensures.open

pub returns-in-Ok-clause-closed : goal.returns-in-Ok-clause-closed
returns-in-Ok-clause-closed g c = c.commit.ensures.closed

pub returns-then-is_open-clause-closed : goal.returns-then-is_open-clause-closed
returns-then-is_open-clause-closed g c = c.commit.ensures.closed

pub returns-else-is_open-clause-closed : goal.returns-else-is_open-clause-closed
returns-else-is_open-clause-closed g c = c.commit.ensures.closed

pub returns-else-is_open-clause-doubtful : goal.returns-else-is_open-clause-doubtful
returns-else-is_open-clause-doubtful g c = λ _. (c.is_open.ensures.0 c.if-not-is_open.false, λ ready. absurd (cc (c.if-is_open.false, c.is_open-in-Err.ensures.1 ready)))

pub returns-in-Ok-clause-answer : goal.returns-in-Ok-clause-answer
returns-in-Ok-clause-answer g c = λ shut. absurd (shut c.in-Ok.ensures.open)

pub returns-then-is_open-clause-answer : goal.returns-then-is_open-clause-answer
returns-then-is_open-clause-answer g c = λ shut. absurd (shut (c.is_open.ensures.0 c.if-not-is_open.false))

pub returns-else-is_open-clause-answer : goal.returns-else-is_open-clause-answer
returns-else-is_open-clause-answer g c = λ shut. absurd (shut (c.is_open.ensures.0 c.if-not-is_open.false))

pub returns-then-not-is_open-clause-refused : goal.returns-then-not-is_open-clause-refused
returns-then-not-is_open-clause-refused g c = λ _ standing seen holds. c.rollback.ensures.rests (frames standing) (stands_of _ (frames standing) (frames seen) holds)

pub returns-then-not-is_open-clause-closed : goal.returns-then-not-is_open-clause-closed
returns-then-not-is_open-clause-closed g c = c.rollback.ensures.closed

pub returns-then-not-is_open-clause-crash : goal.returns-then-not-is_open-clause-crash
returns-then-not-is_open-clause-crash g c = λ standing seen holds left may.
    let it = c.rollback.new.self in
    inl (leaves_of it (frames standing) (stands_if_rests it (frames standing) (c.rollback.ensures.rests (frames standing) (stands_of _ (frames standing) (frames seen) holds))) left may)

pub returns-in-Ok-clause-still : goal.returns-in-Ok-clause-still
returns-in-Ok-clause-still g c = c.in-Ok.ensures.still

pub returns-in-Ok-clause-closes : goal.returns-in-Ok-clause-closes
returns-in-Ok-clause-closes g c = c.commit.ensures.closes

pub returns-then-is_open-clause-closes : goal.returns-then-is_open-clause-closes
returns-then-is_open-clause-closes g c = c.commit.ensures.closes

pub returns-else-is_open-clause-closes : goal.returns-else-is_open-clause-closes
returns-else-is_open-clause-closes g c = c.commit.ensures.closes

pub returns-then-not-is_open-clause-closes : goal.returns-then-not-is_open-clause-closes
returns-then-not-is_open-clause-closes g c = λ was shut. absurd (cc (c.if-not-is_open.true, c.is_open.ensures.1 was))

pub returns-then-is_open-clause-left_open : goal.returns-then-is_open-clause-left_open
returns-then-is_open-clause-left_open g c = λ _ was. c.is_open-in-Err.ensures.0 c.if-is_open.true

pub returns-then-not-is_open-clause-left_open : goal.returns-then-not-is_open-clause-left_open
returns-then-not-is_open-clause-left_open g c = λ _ was. absurd (cc (c.if-not-is_open.true, c.is_open.ensures.1 was))
