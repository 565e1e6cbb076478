-- What stands in a stream, and what a crash may leave of it.
use Rattle.std.specs.Prelude.{◌≡◌, ℕ, ◌+◌, List, [], ◌++◌, IsTrue}
use Rattle.sqlite_disk.specs.declared.Disk.{Ghosts}
use Rattle.sqlite_disk.specs.Disk.{MoreFaults}
use Rattle.sqlite_wal.specs.Recovery.{Image, AddsNothing}
use Rattle.sqlite_wal.specs.State.{Keeps as KeepsState}
use Rattle.sqlite_pager.specs.Pager.{files, state, visible, log_frames, image as pages_image, HasSpilled as HasSpilledPages}
use Rattle.rs_journal.specs.declared.pages.stream.PageStream.{PageStream}
use Rattle.rs_journal.specs.Pages.{HasStream, joined, page_size, part_in}
use Rattle.rs_journal.specs.Images.{Keeps}

module _ {D : Type 0} {g : Ghosts D} where
  -- what a crash may leave of the two files
  abbrev pub may_leave : PageStream D g → Image → Type 0
  may_leave it = (state it.pager).may_leave

  -- what reads of the two files return
  abbrev pub image : PageStream D g → Image
  image it = pages_image it.pager

  -- the log and the file of pages
  abbrev pub files_of : PageStream D g → D × D
  files_of it = files it.pager

  -- No wrong answer of the files has been taken as true. Of others nothing is said.
  abbrev pub IsClean : PageStream D g → Type 0
  IsClean it = IsTrue (state it.pager).is_clean

  -- nothing has failed since its opening that asks for a new one
  abbrev pub IsOpen : PageStream D g → Type 0
  IsOpen it = IsTrue (state it.pager).is_ready

  -- its pages were found, no wrong answer has been taken as true, and nothing has failed since
  abbrev pub IsSound : PageStream D g → Type 0
  IsSound it = IsTrue (state it.pager).is_open

  -- how many pages it has
  abbrev pub page_count : PageStream D g → ℕ
  page_count it = it.seen.count

  -- how many pages the log has
  abbrev pub log_len : PageStream D g → ℕ
  log_len it = log_frames it.pager

  -- some of the pages in the log are not committed
  abbrev pub HasSpilled : PageStream D g → Type 0
  HasSpilled it = HasSpilledPages it.pager

  -- what a page of the stream that is seen has of it
  abbrev pub part_at : PageStream D g → ℕ → List ℕ
  part_at it index = part_in (visible it.pager (index + 2))

  -- what its first so many pages have
  abbrev pub front : PageStream D g → ℕ → List ℕ
  front it n = joined (visible it.pager) n

  -- no wrong answer was taken before that is not taken now, and each page has the same part
  pub record SameParts (old new : PageStream D g) : Type 0 where
    pub clean : IsClean new → IsClean old
    pub pages : page_count new ≡ page_count old
    pub parts : (n : ℕ) → front new n ≡ front old n
    pub open_same : IsOpen old → IsOpen new

  -- nothing was committed on the way
  pub record GoesOn (old new : PageStream D g) : Type 0 where
    pub keeps : KeepsState (state old.pager) (state new.pager)
    pub standing : new.standing ≡ old.standing

  -- how many calls of the files have failed
  abbrev pub fault_count : PageStream D g → ℕ
  fault_count it = (state it.pager).faults

  -- a call of the files failed on the way
  abbrev pub HasFailed : PageStream D g → PageStream D g → Type 0
  HasFailed old new = MoreFaults (fault_count old) (fault_count new)

  -- each new outcome of a crash stands for what an old one stands for
  abbrev pub AddsNoOutcome : PageStream D g → PageStream D g → Type 0
  AddsNoOutcome old new = AddsNothing page_size (may_leave old) (may_leave new)

  -- it stays closed, and the files are not touched
  pub record StaysClosed (old new : PageStream D g) : Type 0 where
    pub closed : ¬ IsOpen new
    pub files : files_of new ≡ files_of old
    pub outcomes : AddsNoOutcome old new

-- This stream stands: it is what was committed, and a crash leaves it and nothing else.
pub record HasCommitted {D : Type 0} {g : Ghosts D} (it : PageStream D g) (standing : List ℕ) : Type 0 where
  pub committed : IsSound it → HasStream (state it.pager).committed it.standing.first it.standing.count standing
  pub leaves : (left : Image) → may_leave it left → Keeps left standing

unfoldable pub Stands : {D : Type 0} {g : Ghosts D} → PageStream D g → List ℕ → Type 0
Stands it standing = HasCommitted it standing

-- This stream stands, and the transaction under way has made that of it.
pub record Shows {D : Type 0} {g : Ghosts D} (it : PageStream D g) (standing seen : List ℕ) : Type 0 where
  pub stands : Stands it standing
  pub shows : IsSound it → (paged : List ℕ) × HasStream (visible it.pager) it.seen.first it.seen.count paged × (paged ++ it.tail.items ≡ seen)

unfoldable pub Holds : {D : Type 0} {g : Ghosts D} → PageStream D g → List ℕ → List ℕ → Type 0
Holds it standing seen = Shows it standing seen

-- This stream stands, and no transaction is under way.
pub record IsIdle {D : Type 0} {g : Ghosts D} (it : PageStream D g) (standing : List ℕ) : Type 0 where
  pub stands : Stands it standing
  pub same : IsSound it → visible it.pager ≡ (state it.pager).committed
  pub extent : it.seen ≡ it.standing
  pub empty : it.tail.items ≡ []

unfoldable pub Rests : {D : Type 0} {g : Ghosts D} → PageStream D g → List ℕ → Type 0
Rests it standing = IsIdle it standing
