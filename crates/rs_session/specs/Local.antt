-- What a gate with a catalogue of its own stands for.
use Rattle.std.specs.Prelude.{◌≡◌, ◌+◌, ◌-◌, ◌^◌, ◌⊎◌, slice_index, None}
use Rattle.rs_message.specs.declared.entry.Entry.{Entry}
use Rattle.rs_message.specs.declared.entry.Operation.{Operation}
use Rattle.rs_store.specs.declared.content.Content.{Content}
use Rattle.rs_store.specs.Contents.{HasSpace, NeedsSweep, swept}
use Rattle.rs_message.specs.declared.fault.SubmitFault.{SubmitFault}
use Rattle.rs_message.specs.declared.fault.SubmitFault.TheVariants.{Full, NoMemory, Open, Strange, Closed}
use Rattle.rs_session.specs.declared.local.LocalGate.{LocalGate}
use Rattle.rs_session.specs.Gate.{Mark}

abbrev pub catalogue_of : {C M : Type 0} → LocalGate C M → C
catalogue_of gate = gate.catalogue

-- it serves as place 1, and keeps no list of what it sent
abbrev pub local_mark : Content → Mark
local_mark c = record { place = 1; serial = slice_index c.serials 1; sent = None }

-- the next entry of place 1
abbrev pub next_entry : Content → Operation → Entry
next_entry c operation = record { origin = record { place = 1; serial = slice_index c.serials 1 + 1 }; operation = operation }

-- no serial is left, or the store has no space for the entry, nor would a Sweep make any
abbrev pub IsFull : Content → Operation → Type 0
IsFull c operation = (slice_index c.serials 1 ≡ 2 ^ 64 - 1)
    ⊎ ((HasSpace c (next_entry c operation) → ⊥) × (NeedsSweep c (next_entry c operation) → ⊥))

-- what a refused submit leaves: what was there, or the Sweep that was to make space if memory was refused after it
abbrev pub IsLeft : Content → Operation → SubmitFault → Content → Type 0
IsLeft c operation Full new = new ≡ c
IsLeft c operation NoMemory new = (new ≡ c) ⊎ ((s : NeedsSweep c (next_entry c operation)) × (new ≡ swept s.message.received c))
IsLeft c operation Open new = ⊥
IsLeft c operation Strange new = ⊥
IsLeft c operation Closed new = ⊥
