use Rattle.std.proofs.Common.{ℕ, List, sym, subst}
use Rattle.rs_journal.specs.Streams.{Holds}
use Rattle.rs_journal.specs.Frames.{frames}
use Rattle.rs_journal.proofs.FrameLemmas.{frames_none}
use Rattle.rs_journal.proofs.journal.Journal.begin_anew.Goals as goal

pub returns-in-Ok-clause-begun : goal.returns-in-Ok-clause-begun
returns-in-Ok-clause-begun g c = λ standing seen holds. subst (λ (s : List ℕ). Holds c.begin_anew.new.self (frames standing) s) (sym frames_none) (c.in-Ok.ensures.begun (frames standing) (frames seen) holds)

pub returns-in-Err-clause-refused : goal.returns-in-Err-clause-refused
returns-in-Err-clause-refused g c = λ standing seen holds. c.in-Err.ensures.refused (frames standing) (frames seen) holds

pub returns-in-Ok-clause-open : goal.returns-in-Ok-clause-open
returns-in-Ok-clause-open g c = c.in-Ok.ensures.open

pub returns-in-Ok-clause-crash : goal.returns-in-Ok-clause-crash
returns-in-Ok-clause-crash g c = c.begin_anew.ensures.crash

pub returns-in-Err-clause-crash : goal.returns-in-Err-clause-crash
returns-in-Err-clause-crash g c = c.begin_anew.ensures.crash

pub returns-in-Ok-clause-closed : goal.returns-in-Ok-clause-closed
returns-in-Ok-clause-closed g c = c.begin_anew.ensures.closed

pub returns-in-Err-clause-closed : goal.returns-in-Err-clause-closed
returns-in-Err-clause-closed g c = c.begin_anew.ensures.closed
