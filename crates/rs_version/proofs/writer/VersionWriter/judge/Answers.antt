use Rattle.std.proofs.Common.{◌≡◌, None, ap, ◌∙◌}
use Rattle.rs_version.specs.Copies.{shown}
use Rattle.rs_version.proofs.WriterState.{unlisted, calm_of, judged_writing}
use Rattle.rs_version.proofs.writer.VersionWriter.judge.Goals as goal

pub judge_on-requires : goal.judge_on-requires
judge_on-requires g c =
    let none : c.self.inside.held ≡ None = unlisted _ (ap (λ w. w.held) c.self.view_is ∙ c.requires) in
    rw c.catalogue.ensures (calm_of _ _ _ _ _ _ _ c.self.invariant none)

pub invariant_of-self : goal.invariant_of-self
invariant_of-self g c =
    let none : c.self.inside.held ≡ None = unlisted _ (ap (λ w. w.held) c.self.view_is ∙ c.requires) in
    judged_writing _ _ _ _ _ _ c.judge_on.new.calm _ c.self.invariant none (rw (← c.catalogue.ensures) c.judge_on.ensures.calm)

pub returns-clause-judged : goal.returns-clause-judged
returns-clause-judged g c =
    let log = (shown c.self.inside.copies).prefix.log in
    rw (← ap (λ w. w.published) c.self.view_is, ← c.self.invariant.limit_is, ← c.catalogue.ensures) (c.judge_on.ensures.stands log (rw c.catalogue.ensures c.self.invariant.sound))
