-- What a crash leaves of the journal of a writer.
use Rattle.std.specs.Prelude.{List, ◌++◌}
use Rattle.std.specs.List.{All}
use mathlib.Core.List.{IsPrefix}
use Rattle.rs_message.specs.declared.entry.Entry.{Entry}
use Rattle.rs_message.specs.declared.entry.Operation.{Operation}
use Rattle.rs_store.specs.History.{AreRetained}
use Rattle.rs_version.specs.Writer.{Written}
use Rattle.rs_journal.specs.Journals.{Keeps}
use Rattle.rs_journal_record.specs.Records.{IsOperation}
use Rattle.rs_journal.specs.Retaining.{retained_after}
use Rattle.sqlite_wal.specs.Recovery.{Image}

-- what contracts see of a writer that keeps what it publishes: what it has written, and what it was made ready for
pub record KeptValue : Type 0 where
  pub written : Written
  pub ready : List Entry

-- what may be kept behind what is published
abbrev pub behind_of : KeptValue → List Entry
behind_of k = k.written.held ++ k.ready

-- The image keeps operations, each of a form that a journal reads, after which just that is retained which is retained after what is published, and some of what comes behind it,
-- from the first on
pub record Survives (published behind : List Entry) (image : Image) : Type 0 where
  pub front : List Entry
  pub begins : IsPrefix front behind
  pub operations : List Operation
  pub formed : All IsOperation operations
  pub keeps : Keeps image operations
  pub retained : AreRetained (published ++ front) (retained_after operations)

-- so it is of each image that a crash may leave
abbrev pub IsSafe : (Image → Type 0) → KeptValue → Type 0
IsSafe leaves k = (image : Image) → leaves image → Survives k.written.published (behind_of k) image

-- each image that a crash may leave survives, and what it keeps begins with this list
abbrev pub Covers : (Image → Type 0) → KeptValue → List Entry → Type 0
Covers leaves k told = (image : Image) → leaves image → (s : Survives k.written.published (behind_of k) image) × IsPrefix told (k.written.published ++ s.front)
