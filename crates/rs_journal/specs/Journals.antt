-- Which operations stand in a journal, and what a crash may leave of it.
use Rattle.std.specs.Prelude.{ℕ, List, Contains}
use Rattle.sqlite_disk.specs.declared.Disk.{Ghosts}
use Rattle.sqlite_wal.specs.Recovery.{Image}
use Rattle.rs_message.specs.declared.entry.Operation.{Operation}
use Rattle.rs_journal.specs.Images.{IsUnmade as IsUnmadeStream, Keeps as HasStream, StandsFor as StandsForStream}
use Rattle.rs_journal.specs.Streams as stream
use Rattle.rs_journal.specs.declared.journal.Journal.{Journal}
use Rattle.rs_journal.specs.Frames.{frames}

-- the two files keep these operations
abbrev pub Keeps : Image → List Operation → Type 0
Keeps image operations = HasStream image (frames operations)

-- nothing has been made of the files yet
abbrev pub IsUnmade : Image → Type 0
IsUnmade image = IsUnmadeStream image

-- the same, or nothing has been made of the files yet and there are none
abbrev pub StandsFor : Image → List Operation → Type 0
StandsFor image operations = StandsForStream image (frames operations)

-- each of these outcomes of a crash stands for one of these lists of operations
abbrev pub EachStandsForOne : (Image → Type 0) → List (List Operation) → Type 0
EachStandsForOne outcomes lists = (image : Image) → outcomes image → (operations : List Operation) × Contains lists operations × StandsFor image operations

module _ {D : Type 0} {g : Ghosts D} where
  -- what a crash may leave of the two files
  abbrev pub may_leave : Journal D g → Image → Type 0
  may_leave it = stream.may_leave it.stream

  -- the log and the file of pages
  abbrev pub files_of : Journal D g → D × D
  files_of it = stream.files_of it.stream

  -- No wrong answer of the files has been taken as true. Of others nothing is said.
  abbrev pub IsClean : Journal D g → Type 0
  IsClean it = stream.IsClean it.stream

  -- nothing has failed since its opening that asks for a new one
  abbrev pub IsOpen : Journal D g → Type 0
  IsOpen it = stream.IsOpen it.stream

  -- how many pages its operations take
  abbrev pub page_count : Journal D g → ℕ
  page_count it = stream.page_count it.stream

  -- how many pages the log has
  abbrev pub log_len : Journal D g → ℕ
  log_len it = stream.log_len it.stream

  -- some of the pages in the log are not committed
  abbrev pub HasSpilled : Journal D g → Type 0
  HasSpilled it = stream.HasSpilled it.stream

  -- These operations stand, and a crash leaves them and nothing else. The transaction under way has made those of them.
  abbrev pub Holds : Journal D g → List Operation → List Operation → Type 0
  Holds it standing seen = stream.Holds it.stream (frames standing) (frames seen)

  -- These operations stand, and no transaction is under way.
  abbrev pub Rests : Journal D g → List Operation → Type 0
  Rests it standing = stream.Rests it.stream (frames standing)

  -- each new outcome of a crash stands for what an old one stands for
  abbrev pub AddsNoOutcome : Journal D g → Journal D g → Type 0
  AddsNoOutcome old new = stream.AddsNoOutcome old.stream new.stream

  -- a call of the files failed on the way
  abbrev pub HasFailed : Journal D g → Journal D g → Type 0
  HasFailed old new = stream.HasFailed old.stream new.stream

  -- it stays closed, no crash leaves more, and the files are not touched
  abbrev pub StaysClosed : Journal D g → Journal D g → Type 0
  StaysClosed old new = stream.StaysClosed old.stream new.stream
