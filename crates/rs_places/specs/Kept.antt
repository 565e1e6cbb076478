-- A whole run of a store whose writer keeps what it publishes.
use Rattle.std.specs.Prelude.{ℕ, List, Option}
use Rattle.rs_message.specs.declared.entry.Entry.{Entry}
use Rattle.rs_intake.specs.declared.cause.Cause.{Cause}
use Rattle.rs_journal_writer.specs.Keeping.{Survives}
use Rattle.rs_journal_writer.specs.declared.kept_writer.TheConstants.{MAX_HELD}
use Rattle.rs_places.specs.Store.{IsStoreRun}
use Rattle.rs_places_steps.specs.Turns.{Connections}
use Rattle.sqlite_wal.specs.Recovery.{Image}

-- A store that began with this list was run, and its journal is one of which a crash may leave these images. Each of them keeps operations
-- after which just that is retained which is retained after what the run published, and perhaps after some of what the writer held at the
-- end, from the first on.
pub record IsKeptRun (limit places : ℕ) (first : List Entry) (before after : List Connections) (leaves : Image → Type 0) (version : ℕ)
    (changes : Option ℕ) (cause : Cause) : Type 0 where
  pub run : IsStoreRun MAX_HELD limit places first before after version changes cause
  pub kept : (image : Image) → leaves image → Survives run.writer.published run.writer.held image
