-- The entries that wait to be submitted.
use Rattle.std.specs.Prelude.{List, [], ◌∷◌, Some, None}
use Rattle.rs_message.specs.declared.entry.Entry.{Entry}
use Rattle.rs_intake_line.specs.declared.announced.Waiting.{Waiting}
use Rattle.rs_intake_line.specs.declared.announced.Waiting.TheVariants.{One, Many}

-- the entries as a list
abbrev pub listed : Waiting → List Entry
listed (One (Some entry)) = entry ∷ []
listed (One None) = []
listed (Many entries) = entries.items
