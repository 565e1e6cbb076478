-- What `add` makes of the lists that a content stands for.
use Rattle.std.specs.Prelude.{◌⊎◌, ℕ, List}
use Rattle.rs_message.specs.declared.entry.Entry.{Entry}
use Rattle.rs_store.specs.History.{IsLegal, MayNotCome, NeedsSweepAfter, cleaned, extended}
use Rattle.rs_store.specs.declared.fault.Refusal.{Refusal}
use Rattle.rs_store.specs.declared.fault.Refusal.TheVariants.{Full, Stale, NoMemory}

-- the entry follows, after a Sweep if that makes space for it; P holds of the list then
abbrev pub Adds : ℕ → List Entry → Entry → (List Entry → Type 0) → Type 0
Adds limit history e P = (IsLegal limit (extended history e) × P (extended history e))
    ⊎ ((s : NeedsSweepAfter limit history e) × P (extended (cleaned s.message.received history) e))

-- why it does not; P holds of what is left
abbrev pub NotAdds : ℕ → List Entry → Entry → Refusal → (List Entry → Type 0) → Type 0
NotAdds limit history e Stale P = MayNotCome limit history e Stale × P history
NotAdds limit history e Full P = MayNotCome limit history e Full × P history
NotAdds limit history e NoMemory P = (IsLegal limit (extended history e) × P history)
    ⊎ ((s : NeedsSweepAfter limit history e) × (P history ⊎ P (cleaned s.message.received history)))
