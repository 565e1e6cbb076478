use Rattle.std.proofs.Common.{◌≡◌, ◌∙◌, true, ap, not, arith}
use Rattle.std.proofs.lemmas.Bool.Decides.{nat_tests}
use Rattle.std.specs.Prelude.{is_none}
use Rattle.rs_intake.proofs.Jobs.{gathered_open}
use Rattle.rs_intake.proofs.together.Gathered.has_room.Goals as goal

pub returns-then-is_none-clause-few : goal.returns-then-is_none-clause-few
returns-then-is_none-clause-few g c = λ few.
    let i = c.self.inside in
    let none : is_none i.last ≡ true = ap not c.if-is_none.ensures in
    let all = gathered_open i.parts.items i.entries.items i.last c.args.self.now c.len.result c.self.view_is c.self.invariant none (c.len.ensures ∙ i.entries.ok.0) in
    grind (arith, nat_tests, few, all)
