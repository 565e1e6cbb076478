-- What contracts see of a gate that knows a list, over a line.
use Rattle.std.specs.Prelude.{◌≢◌, ◌+◌, ◌++◌, ◌∷◌, List, [], length, Some}
use Rattle.rs_message.specs.declared.entry.Entry.{Entry}
use Rattle.rs_message.specs.declared.entry.Operation.{Operation}
use Rattle.rs_intake_line.specs.Lines.{Line}
use Rattle.rs_session.specs.Gate.{Mark}
use Rattle.rs_places_steps.specs.Shared.{SharedValue, operations_of}

-- the mark of a line, without what is ahead of it
abbrev pub mark_of : Line → Mark
mark_of line = record { place = line.place; serial = line.serial; sent = Some line.sent }

abbrev pub gate_of : List Entry → Line → SharedValue
gate_of known line = record { known = known; mark = mark_of line; pending = operations_of line.ahead }

-- a gate with this list and this line, which is handed on: what was ahead of the line counts as submitted
abbrev pub handed_on : List Entry → Line → SharedValue
handed_on known line = record {
  known = known;
  mark = record { place = line.place; serial = line.serial + length line.ahead; sent = Some (line.sent ++ line.ahead) };
  pending = [];
}

-- the first of these changes is another than this one
abbrev pub IsOtherPending : List Operation → Operation → Type 0
IsOtherPending [] operation = ⊥
IsOtherPending (first ∷ rest) operation = first ≢ operation
