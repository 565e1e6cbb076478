use Rattle.std.proofs.Common.{◌≡◌, List, Some, refl, subst}
use Rattle.rs_message.specs.declared.entry.Entry.{Entry}
use Rattle.rs_session.specs.Gate.{Sends}
use Rattle.rs_places_steps.specs.Shared.{SharedValue, operations_of}
use Rattle.rs_places.proofs.shared_gate.SharedGateLineGate.close.Goals as goal

pub returns-clause-sent : goal.returns-clause-sent
returns-clause-sent g c =
    let line = c.self.inside.line in
    let P : SharedValue → Type 0 = λ v. (tail : List Entry) × Sends v.mark.sent tail (Some c.close.result.sent) × (operations_of tail ≡ v.pending) in
    subst P c.self.view_is (line.ahead, c.close.ensures.sent, refl)
