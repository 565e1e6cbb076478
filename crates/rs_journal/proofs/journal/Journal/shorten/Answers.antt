use Rattle.std.proofs.Common.{inl, []}
use Rattle.rs_journal.proofs.StandsLemmas.{leaves_of, stands_if_rests}
use Rattle.rs_journal.specs.Frames.{frames}
use Rattle.rs_journal.specs.Retaining.{sets_of}
use Rattle.rs_journal.proofs.RetainedLemmas.{same_retained}
use Rattle.rs_journal.proofs.journal.Journal.shorten.Goals as goal

pub returns-in-Err-clause-crash : goal.returns-in-Err-clause-crash
returns-in-Err-clause-crash g c = λ standing seen holds left may.
    let it = c.begin_anew.new.self.stream in inl (leaves_of it (frames standing) (stands_if_rests it (frames standing) (c.in-Err.ensures.refused standing seen holds)) left may)

pub returns-in-Err-clause-same : goal.returns-in-Err-clause-same
returns-in-Err-clause-same g c = λ standing seen holds retains left may.
    let it = c.begin_anew.new.self.stream in (standing, leaves_of it (frames standing) (stands_if_rests it (frames standing) (c.in-Err.ensures.refused standing seen holds)) left may, retains)

pub returns-in-Err-push_sets-clause-refused : goal.returns-in-Err-push_sets-clause-refused
returns-in-Err-push_sets-clause-refused g c = λ _ standing seen holds.
    c.rollback.ensures.rests (frames standing) (c.push_sets.ensures.stands standing [] (c.in_default.ensures.begun standing seen holds))

pub returns-in-Err-push_sets-clause-crash : goal.returns-in-Err-push_sets-clause-crash
returns-in-Err-push_sets-clause-crash g c = λ standing seen holds left may.
    let it = c.rollback.new.self in
    inl (leaves_of it (frames standing) (stands_if_rests it (frames standing) (c.rollback.ensures.rests (frames standing) (c.push_sets.ensures.stands standing [] (c.in_default.ensures.begun standing seen holds)))) left may)

pub returns-in-Err-push_sets-clause-same : goal.returns-in-Err-push_sets-clause-same
returns-in-Err-push_sets-clause-same g c = λ standing seen holds retains left may.
    let it = c.rollback.new.self in (
      standing,
      leaves_of it (frames standing) (stands_if_rests it (frames standing) (c.rollback.ensures.rests (frames standing) (c.push_sets.ensures.stands standing [] (c.in_default.ensures.begun standing seen holds)))) left may,
      retains,
    )

pub returns-in-Ok-clause-done : goal.returns-in-Ok-clause-done
returns-in-Ok-clause-done g c = λ standing seen holds.
    c.in-Ok.ensures.done standing (sets_of c.args.retained.now) (c.in_default-push_sets.ensures.pushed standing [] (c.in_default.ensures.begun standing seen holds))

pub returns-in-Ok-clause-crash : goal.returns-in-Ok-clause-crash
returns-in-Ok-clause-crash g c = λ standing seen holds.
    c.commit.ensures.crash standing (sets_of c.args.retained.now) (c.in_default-push_sets.ensures.pushed standing [] (c.in_default.ensures.begun standing seen holds))

pub returns-in-Ok-clause-same : goal.returns-in-Ok-clause-same
returns-in-Ok-clause-same g c = λ standing seen holds retains left may.
    same_retained c.args.retained.now standing left c.in_default-push_sets.ensures.leave retains
    (c.commit.ensures.crash standing (sets_of c.args.retained.now) (c.in_default-push_sets.ensures.pushed standing [] (c.in_default.ensures.begun standing seen holds)) left may)

pub returns-in-Err-commit-clause-refused : goal.returns-in-Err-commit-clause-refused
returns-in-Err-commit-clause-refused g c = λ refused standing seen holds.
    c.in-Err-commit.ensures.refused refused standing (sets_of c.args.retained.now) (c.in_default-push_sets.ensures.pushed standing [] (c.in_default.ensures.begun standing seen holds))

pub returns-in-Err-commit-clause-crash : goal.returns-in-Err-commit-clause-crash
returns-in-Err-commit-clause-crash g c = λ standing seen holds.
    c.commit.ensures.crash standing (sets_of c.args.retained.now) (c.in_default-push_sets.ensures.pushed standing [] (c.in_default.ensures.begun standing seen holds))

pub returns-in-Err-commit-clause-same : goal.returns-in-Err-commit-clause-same
returns-in-Err-commit-clause-same g c = λ standing seen holds retains left may.
    same_retained c.args.retained.now standing left c.in_default-push_sets.ensures.leave retains
    (c.commit.ensures.crash standing (sets_of c.args.retained.now) (c.in_default-push_sets.ensures.pushed standing [] (c.in_default.ensures.begun standing seen holds)) left may)

pub returns-in-Err-clause-closed : goal.returns-in-Err-clause-closed
returns-in-Err-clause-closed g c = c.begin_anew.ensures.closed

pub returns-in-Err-push_sets-clause-closed : goal.returns-in-Err-push_sets-clause-closed
returns-in-Err-push_sets-clause-closed g c = λ shut. absurd (shut c.in_default.ensures.open)

pub returns-in-Ok-clause-closed : goal.returns-in-Ok-clause-closed
returns-in-Ok-clause-closed g c = λ shut. absurd (shut c.in_default.ensures.open)

pub returns-in-Err-commit-clause-closed : goal.returns-in-Err-commit-clause-closed
returns-in-Err-commit-clause-closed g c = λ shut. absurd (shut c.in_default.ensures.open)

pub returns-in-Err-commit-clause-doubtful : goal.returns-in-Err-commit-clause-doubtful
returns-in-Err-commit-clause-doubtful g c = λ doubtful. (c.in_default.ensures.open, (c.in-Err-commit.ensures.doubtful doubtful).1)
