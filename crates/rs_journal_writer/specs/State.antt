-- What holds of the parts of a writer that keeps what it publishes.
use Rattle.std.specs.Prelude.{◌≡◌, ◌⊎◌, ◌≤◌, ◌++◌, ◌+◌, ◌-◌, ℕ, Bool, true, false, List, [], IfErr, Result, length, map, take, drop}
use Rattle.std.specs.List.{All}
use mathlib.Core.List.{IsPrefix}
use Rattle.rs_message.specs.Values.{MessageValue}
use Rattle.rs_message.specs.declared.entry.Entry.{Entry}
use Rattle.rs_message.specs.declared.entry.Operation.{Operation}
use Rattle.rs_message.specs.declared.entry.Operation.TheVariants.{Set}
use Rattle.rs_message.specs.declared.found.Found.{Found}
use Rattle.rs_store.specs.Contents.{found_of}
use Rattle.rs_journal_record.specs.Records.{IsOperation}
use Rattle.rs_store.specs.History.{AreRetained, IsLegal}
use Rattle.rs_version.specs.Writer.{Written, kept_of}
use Rattle.rs_journal.specs.declared.journal.Journal.{Journal}
use Rattle.rs_journal.specs.Journals.{IsClean, Keeps, Rests, may_leave}
use Rattle.rs_journal.specs.Writing.{IsRefused}
use Rattle.rs_journal.specs.declared.fault.WriteFault.{WriteFault}
use Rattle.rs_journal.specs.Retaining.{retained_after}
use Rattle.rs_journal_writer.specs.declared.kept_writer.TheConstants.{MAX_HELD}
use Rattle.sqlite_disk.specs.declared.Disk.{Ghosts}
use Rattle.sqlite_wal.specs.Recovery.{Image}

-- after these operations just that is retained which is retained after these entries
abbrev pub RetainSame : List Operation → List Entry → Type 0
RetainSame operations entries = AreRetained entries (retained_after operations)

-- the image keeps such operations, each of a form that a journal reads
pub record HasImage (image : Image) (entries : List Entry) : Type 0 where
  pub operations : List Operation
  pub formed : All IsOperation operations
  pub keeps : Keeps image operations
  pub same : RetainSame operations entries

-- such operations stand in the journal, each of a form that a journal reads, and no transaction is under way
pub record Stores {D : Type 0} {g : Ghosts D} (journal : Journal D g) (entries : List Entry) : Type 0 where
  pub standing : List Operation
  pub formed : All IsOperation standing
  pub rests : Rests journal standing
  pub same : RetainSame standing entries

-- each image that a crash may leave keeps those of the entries, or those of all
abbrev pub MayStore : {D : Type 0} {g : Ghosts D} → Journal D g → List Entry → List Entry → Type 0
MayStore journal entries more = (left : Image) → may_leave journal left → HasImage left entries ⊎ HasImage left (entries ++ more)

-- the call did what it was to do, or left what stood
abbrev pub IsSure : {A : Type 0} → Result A WriteFault → Type 0
IsSure r = IfErr r IsRefused

-- a Set of each of these messages
abbrev pub sets_for : List Found → List Operation
sets_for found = map (λ f. Set f) found

-- they are the messages that are retained after these entries, if no wrong answer of the files was taken as true
abbrev pub Lists : {D : Type 0} {g : Ghosts D} → Journal D g → List Entry → List Found → Type 0
Lists journal entries found = IsClean journal → (retained : List (List ℕ × MessageValue)) × AreRetained entries retained × (found ≡ map found_of retained)

-- Entries went from the list to the writer, from the first on, or from the writer to what is published
pub record Moves (w : Written) (waiting : List Entry) (w' : Written) (waiting' : List Entry) : Type 0 where
  pub whole : kept_of w' ++ waiting' ≡ kept_of w ++ waiting
  pub more : IsPrefix w.published w'.published

-- of the entries that wait, all but the last so many are held
abbrev pub held_in : Written → List Entry → ℕ → List Entry
held_in w waiting ready = w.held ++ take (length waiting - ready) waiting

-- the last so many are to be put next
abbrev pub ready_in : List Entry → ℕ → List Entry
ready_in waiting ready = drop (length waiting - ready) waiting

abbrev pub written_in : Written → List Entry → ℕ → Written
written_in w waiting ready = record { published = w.published; held = held_in w waiting ready }

-- the journal has all entries; or, if a commit is in doubt, all, or those that are published
abbrev pub AreStored : {D : Type 0} {g : Ghosts D} → Bool → Journal D g → Written → List Entry → Type 0
AreStored false journal w waiting = Stores journal (kept_of w ++ waiting)
AreStored true journal w waiting = (w.held ≡ []) × MayStore journal w.published waiting

-- what holds of a writer's parts: the writer of versions, the journal, the entries that wait, how many of them are to be put next, and
-- whether a commit is in doubt
pub record IsKeeping {D : Type 0} {g : Ghosts D} (limit own_limit : ℕ) (w : Written) (journal : Journal D g) (waiting : List Entry)
    (ready : ℕ) (in_doubt : Bool) : Type 0 where
  pub limit_is : own_limit ≡ limit
  pub legal : IsLegal limit (kept_of w ++ waiting)
  pub few : length w.held + length waiting ≤ MAX_HELD
  pub counted : ready ≤ length waiting
  pub stored : AreStored in_doubt journal w waiting
