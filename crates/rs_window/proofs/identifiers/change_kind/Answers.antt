use Rattle.std.proofs.Common.{sym}
use Rattle.slab.proofs.SlabLemmas.{Updates-with_value}
use Rattle.rs_window.proofs.IdentifierLemmas.{used_slot, not_free, kinds_inserted}
use Rattle.rs_window.proofs.identifiers.change_kind.Goals as goal

pub returns-in-Some-clause-kinds : goal.returns-in-Some-clause-kinds
returns-in-Some-clause-kinds c =
    kinds_inserted _ _ c.slot_of.result c.args.id c.args.kind (sym c.slot_of.ensures) (Updates-with_value c.args.identifiers.now c.slot_of.result c.args.kind (used_slot c.args.identifiers.now c.slot_of.result c.args.id c.slot_of.ensures c.requires.used))

pub returns-in_default-clause-kinds : goal.returns-in_default-clause-kinds
returns-in_default-clause-kinds c = absurd (not_free c.args.identifiers.now c.slot_of.result c.args.id c.slot_of.ensures c.requires.used (sym c.in_default.ensures.value))
