use Rattle.std.proofs.Common.{◌∙◌, arith}
use Rattle.rs_intake.proofs.Jobs.{gathered_len}
use Rattle.rs_intake.proofs.together.Gathered.len.Goals as goal

pub overflow_add-result : goal.overflow_add-result
overflow_add-result g c =
    let e = c.self.inside.entries in
    let number = c.len.ensures in
    let small = e.small.0 in
    let few = e.small.1 in
    let more = c.changes_in.ensures.few in
    omega (arith, number, small, few, more)

pub returns : goal.returns
returns g c =
    let i = c.self.inside in
    gathered_len i.parts.items i.entries.items i.last _ c.len.result c.changes_in.result c.self.view_is c.self.invariant (c.len.ensures ∙ i.entries.ok.0) c.changes_in.ensures.number
