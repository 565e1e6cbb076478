use Rattle.std.proofs.Common.{◌≡◌, ◌⊎◌, ◌++◌, [], refl, sym, ap, subst, ◌∙◌, append-nil}
use Rattle.rs_places_steps.specs.Shared.{SharedValue, operations_of}
use Rattle.rs_places.proofs.Submitting.{announces, same_mark}
use Rattle.rs_places.proofs.shared_gate.SharedGateGate.expect.Goals as goal

pub returns-clause-list : goal.returns-clause-list
returns-clause-list g c = λ seen knows.
    let known = ap (λ (v : SharedValue). v.known) c.self.view_is ∙ knows.known in
    (seen, record { known = known; legal = knows.legal }, ([], sym (append-nil seen)), refl)

pub returns-clause-mark : goal.returns-clause-mark
returns-clause-mark g c =
    let e = c.expect.ensures in
    same_mark c.self.inside.line c.expect.new.self e.place.0 e.place.1 e.same.0 ∙ ap (λ (v : SharedValue). v.mark) c.self.view_is

pub returns-clause-pending : goal.returns-clause-pending
returns-clause-pending g c =
    let old = c.self.inside.line in
    let new = operations_of c.expect.new.self.ahead in
    let P : SharedValue → Type 0 = λ v. (new ≡ v.pending ++ c.args.changes.items) ⊎ (new ≡ v.pending) in
    subst P c.self.view_is (announces old.place _ c.args.changes.items old.ahead _ c.expect.ensures.ahead)
