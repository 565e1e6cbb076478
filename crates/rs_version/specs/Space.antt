-- When entries may come behind a list, whatever they are.
use Rattle.std.specs.Prelude.{ℕ, ◌<◌, ◌≤◌, ◌++◌, List, length}
use Rattle.std.specs.List.{AllByRecursion}
use Rattle.rs_message.specs.declared.entry.Entry.{Entry}
use Rattle.rs_message.specs.declared.entry.TheConstants.{MAX_LINES}
use Rattle.rs_store.specs.History.{IsLegal, SerialsRise}

-- the entries have origins that there may be
abbrev pub HaveOrigins : List Entry → Type 0
HaveOrigins entries = AllByRecursion (λ (e : Entry). (0 < e.origin.serial) × (e.origin.place ≤ MAX_LINES)) entries

-- so many entries may come behind the list, whatever they are, if their serials rise
abbrev pub HasSpaceFor : ℕ → List Entry → ℕ → Type 0
HasSpaceFor limit list count = (entries : List Entry) → length entries ≤ count → HaveOrigins entries → SerialsRise (list ++ entries)
    → IsLegal limit (list ++ entries)
