use Rattle.std.proofs.Common.{◌≡◌, ◌+◌, ◌<◌, ◌≤◌, ◌^◌, ⊎_elim, [], sym, ap, ◌∙◌, arith}
use Rattle.std.proofs.lemmas.Bool.{cases_lt}
use Rattle.std.proofs.lemmas.List.{nil_from_length}
use Rattle.rs_message.specs.declared.entry.Entry.{Entry}
use Rattle.rs_intake_line.specs.Lines.{Line}
use Rattle.rs_intake_line.proofs.Ahead.{after_first, after_none, none_other, not_other}
use Rattle.rs_intake_line.proofs.line.SeatLine.send.Goals as goal

pub returns-in_default-clause-ahead : goal.returns-in_default-clause-ahead
returns-in_default-clause-ahead g c =
    let fits = c.self.invariant.fits in
    let full : 2 ^ 64 ≤ c.self.inside.serial + 1 = ⊎_elim (λ (t : c.self.inside.serial + 1 < 2 ^ 64). absurd (c.in_default.ensures t)) (λ t. t) (cases_lt (c.self.inside.serial + 1) (2 ^ 64)) in
    let none : c.self.inside.ahead ≡ [] = nil_from_length c.self.inside.ahead (omega (arith, fits, full)) in
    let empty = sym (ap (λ (v : Line). v.ahead) c.self.view_is) ∙ none in
    after_none _ _ c.args.operation empty empty

pub returns-in_default-clause-other : goal.returns-in_default-clause-other
returns-in_default-clause-other g c = λ other.
    let fits = c.self.invariant.fits in
    let full : 2 ^ 64 ≤ c.self.inside.serial + 1 = ⊎_elim (λ (t : c.self.inside.serial + 1 < 2 ^ 64). absurd (c.in_default.ensures t)) (λ t. t) (cases_lt (c.self.inside.serial + 1) (2 ^ 64)) in
    let none : c.self.inside.ahead ≡ [] = nil_from_length c.self.inside.ahead (omega (arith, fits, full)) in
    absurd (none_other _ c.args.operation (sym (ap (λ (v : Line). v.ahead) c.self.view_is) ∙ none) other)

pub returns-in-Some-true-clause-ahead : goal.returns-in-Some-true-clause-ahead
returns-in-Some-true-clause-ahead g c =
    let e : Entry = record { origin = c.in-Some-of_line.origin; operation = c.args.operation } in
    after_first _ _ e c.submit_ahead.ensures.ahead

pub returns-in-Some-true-clause-other : goal.returns-in-Some-true-clause-other
returns-in-Some-true-clause-other g c = λ other.
    let e : Entry = record { origin = c.in-Some-of_line.origin; operation = c.args.operation } in
    absurd (not_other _ _ e c.submit_ahead.ensures.ahead other)

pub returns-in-None-clause-other : goal.returns-in-None-clause-other
returns-in-None-clause-other g c = λ other. absurd (none_other _ c.args.operation c.in-None.ensures other)
