use Rattle.std.proofs.Common.{◌≡◌, ◌+◌, ◌++◌, length, sym, ap, subst, ◌∙◌}
use Rattle.rs_intake_queue.specs.Changes.{AreNext}
use Rattle.rs_intake_line.specs.Lines.{Line}
use Rattle.rs_intake_line.proofs.Ahead.{seat_handed_on}
use Rattle.rs_intake_line.proofs.line.SeatLine.hand_on.Goals as goal

pub invariant_of-self : goal.invariant_of-self
invariant_of-self g c =
    let S : Line → Type 0 = λ v. c.last_serial-self-inside.result ≡ v.serial + length v.ahead in
    seat_handed_on _ _ _ _ _ _ (subst S (sym c.self.view_is) c.last_serial-self-inside.ensures) c.empty.ensures c.self.invariant

pub returns-clause-heard : goal.returns-clause-heard
returns-clause-heard g c =
    let more = c.drop_next.ensures.heard.0 in
    (more, c.drop_next.ensures.heard.1 ∙ ap (λ (v : Line). v.heard ++ v.came ++ more) c.self.view_is)

pub returns-clause-next : goal.returns-clause-next
returns-clause-next g c = let S : Line → Type 0 = λ v. AreNext v.place v.serial v.ahead in subst S c.self.view_is c.self.invariant.next
