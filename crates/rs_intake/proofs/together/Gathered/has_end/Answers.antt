use Rattle.std.proofs.Common.{◌∙◌}
use Rattle.rs_intake.proofs.Jobs.{gathered_ends}
use Rattle.rs_intake.proofs.together.Gathered.has_end.Goals as goal

pub returns : goal.returns
returns g c =
    let i = c.self.inside in
    gathered_ends i.parts.items i.entries.items i.last _ c.self.view_is ∙ c.is_end.ensures
