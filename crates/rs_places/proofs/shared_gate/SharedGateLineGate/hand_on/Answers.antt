use Rattle.std.proofs.Common.{◌≡◌, List, refl, ap, subst}
use Rattle.rs_message.specs.declared.entry.Entry.{Entry}
use Rattle.rs_places_steps.specs.Shared.{HandsOn, SharedValue, operations_of}
use Rattle.rs_places.specs.Gates.{mark_of}
use Rattle.rs_places.proofs.shared_gate.SharedGateLineGate.hand_on.Goals as goal

pub returns-clause-mark : goal.returns-clause-mark
returns-clause-mark g c =
    let line = c.self.inside.line in
    let new = c.hand_on.new.self in
    let h = c.hand_on.ensures in
    let P : SharedValue → Type 0 = λ v. (tail : List Entry) × HandsOn v.mark tail (mark_of new) × (operations_of tail ≡ v.pending) in
    subst P c.self.view_is (line.ahead, record { place = h.place; next = h.next; serial = h.serial; sent = h.sent }, refl)

pub returns-clause-pending : goal.returns-clause-pending
returns-clause-pending g c = ap operations_of c.hand_on.ensures.none
