use Rattle.std.proofs.Common.{length, sym, ap, ◌∙◌}
use Rattle.std.proofs.lemmas.List.{length-map}
use Rattle.rs_message.specs.declared.entry.Entry.{Entry}
use Rattle.rs_places_steps.specs.Shared.{SharedValue}
use Rattle.rs_places.proofs.shared_gate.SharedGateGate.pending_count.Goals as goal

pub returns : goal.returns
returns g c = c.ahead_count.ensures ∙ (sym (length-map c.self.inside.line.ahead (λ (e : Entry). e.operation)) ∙ ap (λ (v : SharedValue). length v.pending) c.self.view_is)
