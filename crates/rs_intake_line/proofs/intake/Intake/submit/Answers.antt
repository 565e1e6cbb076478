use Rattle.std.proofs.lemmas.Result.{err_from_is_err_and}
use Rattle.rs_intake_line.proofs.Faults.{ok_not_err, refused_as}
use Rattle.rs_intake_line.proofs.intake.Intake.submit.Goals as goal

pub returns-in_err-entry-clause-other : goal.returns-in_err-entry-clause-other
returns-in_err-entry-clause-other g c = λ other.
    let o = c.send.ensures.other other in
    let p = err_from_is_err_and c.from_residual.result c.from_residual.ensures.1 in
    (refused_as _ _ _ _ _ c.in_err-entry.was o.0 p.1 p.2, o.1, o.2)

pub returns-in-Some-clause-other : goal.returns-in-Some-clause-other
returns-in-Some-clause-other g c = λ other. absurd (ok_not_err _ _ _ c.in_ok-entry.was (c.send.ensures.other other).0)

pub returns-clause-other : goal.returns-clause-other
returns-clause-other g c = λ other. absurd (ok_not_err _ _ _ c.in_ok-entry.was (c.send.ensures.other other).0)
