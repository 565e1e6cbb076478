use Rattle.rs_program_pipe.proofs.reader.HexReader.fill.Goals as goal
use Rattle.rs_program_pipe.proofs.reader.HexReader.fill.Goals.{then-not-more-via-then-not-more, then-not-more-via-else-not-more+then-not-has_given_all}

pub returns-then-not-more-clause-end : goal.returns-then-not-more-clause-end
returns-then-not-more-clause-end g c = λ empty.
    elim c.then-not-more.branch [
      | then-not-more-via-then-not-more w ↦ c.lines.invariant.end w.if-not-more.true empty
      | then-not-more-via-else-not-more+then-not-has_given_all w ↦ absurd (w.has_given_all.ensures.some w.if-not-has_given_all.true empty)
    ]
