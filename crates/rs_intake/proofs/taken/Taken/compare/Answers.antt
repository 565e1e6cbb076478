use Rattle.std.proofs.Common.{◌≡◌, ℕ, subst, sym, ap, ◌∙◌}
use Rattle.crossbeam_channel.specs.Claims.{view}
use Rattle.rs_intake_queue.specs.declared.rule.PassView.{PassView}
use Rattle.rs_intake_queue.specs.QueueRule.{Balances, IsOutside}
use Rattle.rs_intake.proofs.taken.Taken.compare.Goals as goal

pub returns-clause-balance : goal.returns-clause-balance
returns-clause-balance g c =
    let t = c.compare.ensures.balance in
    let same = c.compare.ensures.same in
    let B : PassView → Type 0 = λ v. Balances v t.0 in
    let b : Balances (view c.compare.new.pass) t.0 = subst B (sym same) t.1 in
    let made : (view c.compare.new.pass).made ≡ g.N.LineName.places = ap (λ v. v.made) same ∙ c.self.invariant.0.made in
    (t.0, ((λ place out. b.0 place (let O : ℕ → Type 0 = λ n. IsOutside n place in subst O (sym made) out)), b.1, b.2))
