-- The Sweeps among the entries that the writer keeps.
use Rattle.std.specs.Prelude.{ℕ, ◌≡◌, ◌⊎◌, not, List, Contains}
use Rattle.std.specs.List.{filter}
use Rattle.rs_message.specs.Messages.{is_sweep}
use Rattle.rs_message.specs.declared.entry.Entry.{Entry}
use Rattle.rs_store.specs.History.{NeedsSweepAfter, SerialsRise, cleaned}
use Rattle.rs_store.specs.Needed.{AreNeeded}
use Rattle.rs_intake_queue.specs.Parts.{IsPart}

-- the entries that are no Sweep
abbrev pub without_sweeps : List Entry → List Entry
without_sweeps entries = filter (λ e. not (is_sweep e.operation)) entries

-- each Sweep of the list is the one that one of these entries needed there
pub record AreForEntries (limit : ℕ) (entries list : List Entry) : Type 0 where
  pub needed : AreNeeded limit (Contains entries) list

-- the list is the history, or has the Sweep that comes before the entry behind it
abbrev pub IsSweptAtMost : ℕ → List Entry → Entry → List Entry → Type 0
IsSweptAtMost limit history e list = (list ≡ history)
    ⊎ ((s : NeedsSweepAfter limit history e) × (list ≡ cleaned s.message.received history))

-- the list is kept from these entries: without its Sweeps it is a part of them, each of its Sweeps is for one of them, and serials rise
pub record IsKeptFrom (limit : ℕ) (entries kept : List Entry) : Type 0 where
  pub part : IsPart (without_sweeps kept) entries
  pub sweeps : AreForEntries limit entries kept
  pub rises : SerialsRise kept
