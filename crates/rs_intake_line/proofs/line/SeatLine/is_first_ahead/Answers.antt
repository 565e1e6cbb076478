use Rattle.std.proofs.Common.{◌≡◌, ◌+◌, ◌∷◌, List, sym, ap, subst, ◌∙◌}
use Rattle.rs_message.specs.declared.entry.Entry.{Entry}
use Rattle.rs_intake_queue.specs.Changes.{AreNext}
use Rattle.rs_intake_line.specs.Lines.{Line}
use Rattle.rs_intake_line.proofs.line.SeatLine.is_first_ahead.Goals as goal

pub returns : goal.returns
returns g c =
    let first = c.in_ok-first.first.now in
    let split = c.in_ok-first.ensures in
    let whole : c.args.self.now.ahead ≡ first ∷ split.0 = sym (ap (λ (v : Line). v.ahead) c.self.view_is) ∙ split.1 in
    let N : List Entry → Type 0 = λ l. AreNext c.self.inside.line.place c.self.inside.serial l in
    let O : Line → Type 0 = λ v. first.origin ≡ record { place = v.place; serial = v.serial + 1 } in
    (first, split.0, whole, subst O c.self.view_is (subst N split.1 c.self.invariant.next).0, c.is_same.ensures)
