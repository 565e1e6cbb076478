-- Which Sweeps a list of entries has.
use Rattle.std.specs.Prelude.{◌≡◌, ℕ, true, List, ◌∷◌, ◌++◌}
use Rattle.rs_message.specs.Messages.{is_sweep}
use Rattle.rs_message.specs.declared.entry.Entry.{Entry}
use Rattle.rs_store.specs.History.{NeedsSweepAfter, sweep_after}

-- each Sweep of the list is the one that a Set needed there; P holds of the Set
abbrev pub AreNeeded : ℕ → (Entry → Type 0) → List Entry → Type 0
AreNeeded limit P list = (front rest : List Entry) (e : Entry) → list ≡ front ++ e ∷ rest → is_sweep e.operation ≡ true
    → (setting : Entry) × P setting × (s : NeedsSweepAfter limit front setting) × (e ≡ sweep_after s.message.received front)
