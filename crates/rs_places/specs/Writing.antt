-- What the writer's thread did.
use Rattle.std.specs.Prelude.{◌≡◌, ℕ, ◌-◌, ◌^◌, ◌≤◌, List, [], length}
use Rattle.rs_message.specs.declared.entry.Entry.{Entry}
use Rattle.rs_version.specs.Writer.{Written, kept_of}
use Rattle.rs_intake_line.specs.Done.{IsWritten, Told}
use Rattle.rs_intake_line.specs.Lines.{Received}
use Rattle.rs_intake.specs.Causes.{IsCause}
use Rattle.rs_intake.specs.Settling.{AreOfPlaces}
use Rattle.rs_intake.specs.declared.cause.Cause.{Cause}

-- The list that it keeps came of the first list by the outcomes of what it took, and each line was told those of its own entries; these are of
-- its lines alone; why it ended; it holds so many entries at most, and is ready for none.
pub record HasWritten (limit places most_held : ℕ) (first : List Entry) (w : Written) (ready : List Entry) (received : Received) (ways : List Told) (cause : Cause) : Type 0 where
  pub written : IsWritten limit places first received.entries (kept_of w) ways
  pub placed : AreOfPlaces places received.entries
  pub ended : IsCause places (2 ^ 64 - 1) received cause
  pub few : length w.held ≤ most_held
  pub idle : ready ≡ []
