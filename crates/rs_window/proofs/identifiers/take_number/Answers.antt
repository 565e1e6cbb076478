use Rattle.std.proofs.Common.{◌≡◌, ℕ, ◌+◌, ◌-◌, refl, arith, ◌∙◌}
use Rattle.rs_window.proofs.IdentifierLemmas.{get_kinds, kinds_inserted}
use Rattle.rs_window.proofs.identifiers.take_number.Goals as goal

add_sub : (n : ℕ) → n + 1 - 1 ≡ n
add_sub n = omega arith

pub returns-clause-was_free : goal.returns-clause-was_free
returns-clause-was_free c = get_kinds c.args.identifiers.now (c.insert_reserved-key.result + 1) (omega arith) ∙ rw add_sub c.insert_reserved-key.ensures.was_vacant

pub returns-clause-kinds : goal.returns-clause-kinds
returns-clause-kinds c = kinds_inserted _ _ c.insert_reserved-key.result (c.insert_reserved-key.result + 1) c.args.kind refl c.insert_reserved-key.ensures.updates
