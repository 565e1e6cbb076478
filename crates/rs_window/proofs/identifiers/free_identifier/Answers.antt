use Rattle.std.proofs.Common.{IsSome, sym, subst}
use Rattle.rs_window.proofs.IdentifierLemmas.{used_slot, on_some, kinds_removed}
use Rattle.rs_window.proofs.identifiers.free_identifier.Goals as goal

pub returns-clause-kinds : goal.returns-clause-kinds
returns-clause-kinds c = kinds_removed _ _ c.slot_of.result c.args.id (sym c.slot_of.ensures) c.try_remove-kind.ensures.updates

pub returns-clause-len : goal.returns-clause-len
returns-clause-len c = on_some _ _ c.try_remove-kind.ensures.len (subst IsSome (sym c.try_remove-kind.ensures.value) (used_slot c.args.identifiers.now c.slot_of.result c.args.id c.slot_of.ensures c.requires.used))
