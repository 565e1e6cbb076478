use Rattle.rs_intake.proofs.Jobs.{gathered_more, parts_again}
use Rattle.rs_intake.proofs.together.Gathered.add.Goals as goal

pub invariant_of-self-in_default : goal.invariant_of-self-in_default
invariant_of-self-in_default g c =
    let p = c.in_default.ensures.pushed in
    parts_again _ _ _ _ c.in-Put.changes c.push-back.ensures.changes c.self.invariant p.0 p.1

pub returns-in_default-clause-jobs : goal.returns-in_default-clause-jobs
returns-in_default-clause-jobs g c =
    let i = c.self.inside in
    let p = c.in_default.ensures.pushed in
    gathered_more i.parts.items c.push-back.new.parts.items i.entries.items c.push-back.new.entries.items i.last c.args.self.now c.args.job c.in-Put.changes c.self.view_is c.requires.open c.in-Put.is c.self.invariant p.0 p.1
