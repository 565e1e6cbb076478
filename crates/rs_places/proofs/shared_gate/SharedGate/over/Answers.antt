use Rattle.rs_places.proofs.Submitting.{handed_on_is}
use Rattle.rs_places.proofs.shared_gate.SharedGate.over.Goals as goal

pub returns-clause-gate : goal.returns-clause-gate
returns-clause-gate g c =
    let h = c.hand_on.ensures in
    handed_on_is c.args.known c.args.line c.hand_on.new.self h.place h.serial h.sent h.none
