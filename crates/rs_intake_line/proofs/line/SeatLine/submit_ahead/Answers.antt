use Rattle.std.proofs.Common.{◌≡◌, ◌∷◌, ◌++◌, [], List, sym, ap, subst, ◌∙◌}
use Rattle.rs_message.specs.declared.entry.Entry.{Entry}
use Rattle.rs_intake_queue.specs.Changes.{AreNext}
use Rattle.rs_intake_line.specs.Lines.{Line}
use Rattle.rs_intake_line.proofs.Ahead.{front_takes, popped, seat_submits}
use Rattle.rs_intake_line.proofs.line.SeatLine.submit_ahead.Goals as goal

pub invariant_of-self : goal.invariant_of-self
invariant_of-self g c =
    let e = c.args.entry.now in
    let first : c.self.inside.ahead ≡ e ∷ c.requires.0 = ap (λ (v : Line). v.ahead) c.self.view_is ∙ c.requires.1 in
    let left : c.pop.new.self ≡ c.requires.0 = popped _ _ _ e c.pop.result first c.pop.ensures in
    let N : List Entry → Type 0 = λ l. AreNext c.self.inside.line.place c.self.inside.serial l in
    let next = (subst N first c.self.invariant.next).0 in
    seat_submits _ _ _ _ _ _ e (c.serial-self-inside.ensures.value ∙ ap (λ o. o.serial) next) (first ∙ ap (λ (l : List Entry). e ∷ l) (sym left)) c.self.invariant

pub returns-clause-sent : goal.returns-clause-sent
returns-clause-sent g c =
    let e = c.args.entry.now in
    let first : c.self.inside.ahead ≡ e ∷ c.requires.0 = ap (λ (v : Line). v.ahead) c.self.view_is ∙ c.requires.1 in
    let left : c.pop.new.self ≡ c.requires.0 = popped _ _ _ e c.pop.result first c.pop.ensures in
    front_takes _ _ _ e c.self.invariant.end (first ∙ ap (λ (l : List Entry). e ∷ l) (sym left)) ∙ ap (λ (v : Line). v.sent ++ e ∷ []) c.self.view_is
