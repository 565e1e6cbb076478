-- Why files are refused.
use Rattle.std.specs.Prelude.{◌≡◌, ◌≢◌, ◌⊎◌, ℕ, ◌<◌, Bool, IsTrue, List, [], ◌∷◌, length, take, slice_index, Some}
use Rattle.sqlite_wal.specs.Format.{part}
use Rattle.sqlite_wal.specs.Recovery.{Pages, Image, Recovers, IsUnreadable}
use Rattle.sqlite_wal.specs.declared.error.Error.{Error}
use Rattle.sqlite_wal.specs.declared.error.Error.TheVariants.{Io, OutOfMemory, Closed, NoSuchPage, Full, Corrupt, Exists}
use Rattle.rs_journal.specs.declared.pages.fault.OpenFault.{OpenFault}
use Rattle.rs_journal.specs.declared.pages.fault.OpenFault.TheVariants.{Foreign, Version, Damaged, LoneLog, ForeignLog, NoMemory, Disk}
use Rattle.rs_journal.specs.Pages.{page_size, name, IsHead, HasHead, HasStream}
use Rattle.rs_journal.specs.Images.{IsUnmade}

-- what the error of a pager means when files are opened
abbrev pub fault_of : Error → OpenFault
fault_of (Io e) = Disk (Io e)
fault_of OutOfMemory = NoMemory
fault_of Closed = Disk Closed
fault_of NoSuchPage = Disk NoSuchPage
fault_of Full = Disk Full
fault_of Corrupt = Foreign
fault_of Exists = Disk Exists

-- the files were read, and stand for nothing
abbrev pub IsRefusal : OpenFault → Type 0
IsRefusal Foreign = Unit {0}
IsRefusal (Version n) = Unit {0}
IsRefusal Damaged = Unit {0}
IsRefusal LoneLog = ⊥
IsRefusal ForeignLog = ⊥
IsRefusal NoMemory = ⊥
IsRefusal (Disk e) = ⊥

-- memory was refused, or a call of the files failed
abbrev pub IsHindrance : OpenFault → Type 0
IsHindrance Foreign = ⊥
IsHindrance (Version n) = ⊥
IsHindrance Damaged = ⊥
IsHindrance LoneLog = ⊥
IsHindrance ForeignLog = ⊥
IsHindrance NoMemory = Unit {0}
IsHindrance (Disk e) = Unit {0}

-- what is wrong with a page 1 that is refused with this fault
abbrev pub IsWrongHead : OpenFault → List ℕ → Type 0
IsWrongHead Foreign page = take 7 page ≢ name
IsWrongHead (Version n) page = (take 7 page ≡ name) × (slice_index page 7 ≡ n) × (n ≢ 1)
IsWrongHead Damaged page = (take 7 page ≡ name) × (slice_index page 7 ≡ 1) × ((first : ℕ) → ¬ IsHead page first)
IsWrongHead LoneLog page = ⊥
IsWrongHead ForeignLog page = ⊥
IsWrongHead NoMemory page = ⊥
IsWrongHead (Disk e) page = ⊥

-- What is wrong with pages that are refused with this fault: their page 1 has another name or version, or they have no stream.
abbrev pub AreWrong : OpenFault → Pages → List ℕ → Type 0
AreWrong Foreign pages page = take 7 page ≢ name
AreWrong (Version n) pages page = (take 7 page ≡ name) × (slice_index page 7 ≡ n) × (n ≢ 1)
AreWrong Damaged pages page = (take 7 page ≡ name) × (slice_index page 7 ≡ 1) × ((first count : ℕ) (stream : List ℕ) → ¬ HasStream pages first count stream)
AreWrong LoneLog pages page = ⊥
AreWrong ForeignLog pages page = ⊥
AreWrong NoMemory pages page = ⊥
AreWrong (Disk e) pages page = ⊥

-- the files recover to pages that are wrong in this way
pub record RecoverWrong (fault : OpenFault) (image : Image) : Type 0 where
  pub pages : Pages
  pub recovers : Recovers page_size image pages
  pub page : List ℕ
  pub there : pages 1 ≡ Some page
  pub wrong : AreWrong fault pages page

-- The file of pages has nothing, and the log has more than a making leaves in one: its head, and one byte more.
pub record IsLoneLog (image : Image) : Type 0 where
  pub empty : length image.db ≡ 0
  pub long : 41 < length image.log

-- the second to fourth bytes of each log
abbrev pub log_name : List ℕ
log_name = 0x7f ∷ 0x06 ∷ 0x82 ∷ []

-- a log as long has others
pub record IsForeignLog (log : List ℕ) : Type 0 where
  pub long : 41 < length log
  pub other : part log 1 3 ≢ log_name

-- something was made of the files, and they recover to pages of which the first is none of this form
pub record HasOtherHead (image : Image) : Type 0 where
  pub begun : ¬ IsUnmade image
  pub pages : Pages
  pub recovers : Recovers page_size image pages
  pub other : (first : ℕ) → ¬ HasHead (pages 1) first

-- Files that an opening leaves as they are. The last kind is one only where a crash leaves each byte of a torn write old or new.
abbrev pub AreSpared : Bool → Image → Type 0
AreSpared names_stay image =
    IsLoneLog image ⊎ (HasOtherHead image ⊎ ((¬ IsUnmade image × IsUnreadable page_size image) ⊎ (IsTrue names_stay × IsForeignLog image.log)))

-- they recover to no whole pages, or to such that are wrong in this way
abbrev pub IsOtherFile : OpenFault → Image → Type 0
IsOtherFile fault image = ((fault ≡ Foreign) × IsUnreadable page_size image) ⊎ RecoverWrong fault image

-- what two files have that are refused with this fault, where it names one
abbrev pub Explains : OpenFault → Image → Type 0
Explains Foreign image = IsUnreadable page_size image ⊎ RecoverWrong Foreign image
Explains (Version n) image = RecoverWrong (Version n) image
Explains Damaged image = RecoverWrong Damaged image
Explains LoneLog image = IsLoneLog image
Explains ForeignLog image = IsForeignLog image.log
Explains NoMemory image = Unit {0}
Explains (Disk e) image = Unit {0}
