use Rattle.rs_journal.specs.Frames.{frames}
use Rattle.rs_journal.proofs.journal.Journal.checkpoint.Goals as goal

pub returns-clause-holds : goal.returns-clause-holds
returns-clause-holds g c = λ standing seen holds. c.checkpoint.ensures.holds (frames standing) (frames seen) holds

pub returns-clause-rests : goal.returns-clause-rests
returns-clause-rests g c = λ standing rests. c.checkpoint.ensures.rests (frames standing) rests

pub returns-clause-crash : goal.returns-clause-crash
returns-clause-crash g c = c.checkpoint.ensures.crash

pub returns-clause-copied : goal.returns-clause-copied
returns-clause-copied g c = c.checkpoint.ensures.copied

pub returns-clause-open : goal.returns-clause-open
returns-clause-open g c = c.checkpoint.ensures.open

pub returns-clause-closed : goal.returns-clause-closed
returns-clause-closed g c = c.checkpoint.ensures.closed
