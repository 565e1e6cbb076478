-- A connection that was served and has ended, as it is handed back.
use Rattle.std.specs.Prelude.{◌≡◌, ℕ, List, [], ◌∷◌, Option, Some, Result}
use Rattle.rs_message.specs.declared.entry.Entry.{Entry}
use Rattle.rs_session.specs.Gate.{Sends}
use Rattle.rs_server.specs.Conversation.{assigned_of, start}
use Rattle.rs_server.specs.declared.connection.Served.{Served}
use Rattle.rs_server.specs.declared.writing.ServeFault.{ServeFault}
use Rattle.rs_places_steps.specs.Shared.{SharedValue}
use Rattle.rs_places_steps.specs.Turns.{Ending, IsOut, Streams}
use Rattle.rs_places_steps.specs.Visits.{IsConnectionServed, Visit}
use Rattle.rs_places_steps.specs.Within.{ArePublications, IsWithin}

-- an ending over these streams: what its reader has left, what its writer holds, and the times that its clock will tell
abbrev pub ending_of : Option (List ℕ) → Option (List ℕ) → Option (ℕ → ℕ) → ℕ → ℕ → Result Served ServeFault → Ending
ending_of unread written moments read_failures write_failures result = record {
  streams = record { unread = unread; written = written; moments = moments };
  read_failures = read_failures;
  write_failures = write_failures;
  result = result;
}

-- What is known of a connection of this place and this number that has ended so: it is the one that is out, if that is told. It was served
-- under that number, from what a gate of the place knew, and its gate knew this list last.
pub record HasEnded (limit place number : ℕ) (out : Option (Option Streams)) (ending : Ending) (told : List Entry) : Type 0 where
  -- what the gate knew before, and the connection, with its streams as they were then
  pub before : SharedValue
  pub visit : Visit
  pub at_place : place ≡ before.mark.place
  pub own : IsOut (Some visit.given) out
  pub ends : ending ≡ visit.ending
  -- it was served over these streams and at their times
  pub served : IsConnectionServed limit number before visit
  -- All lists that its filters were answered from are prefixes of that list, and each retained publication that its client was told is
  -- stored stands there once.
  pub knew : told ≡ visit.gate.known
  pub within : IsWithin told (start (assigned_of before.mark.place number) before.known before.mark) visit
  -- The gate expected nothing before. What it sent meanwhile are the client's retained publications, in order, each at most once
  pub none_pending : before.pending ≡ []
  pub publications : (entries : List Entry) × Sends before.mark.sent entries visit.gate.mark.sent × ArePublications number before (visit ∷ []) entries
