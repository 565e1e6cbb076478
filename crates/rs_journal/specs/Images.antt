-- The stream that two files stand for.
use Rattle.std.specs.Prelude.{◌≡◌, ◌⊎◌, ℕ, List, [], Contains}
use Rattle.sqlite_disk.specs.declared.Disk.{Ghosts}
use Rattle.sqlite_wal.specs.Files.{outcomes}
use Rattle.sqlite_wal.specs.Reads.{AreClean}
use Rattle.sqlite_wal.specs.Recovery.{Pages, Image, Recovers, AreWhole, IsBlank}
use Rattle.rs_journal.specs.Pages.{page_size, head_form, HasStream}

-- they recover to pages that have this stream
pub record Keeps (image : Image) (stream : List ℕ) : Type 0 where
  pub pages : Pages
  pub first : ℕ
  pub count : ℕ
  pub recovers : Recovers page_size image pages
  pub whole : AreWhole page_size pages
  pub has : HasStream pages first count stream

-- nothing has been made of the files yet
abbrev pub IsUnmade : Image → Type 0
IsUnmade image = IsBlank (head_form 1) image

-- The files stand for this stream: they have it, or nothing has been made of them yet, and it is empty.
abbrev pub StandsFor : Image → List ℕ → Type 0
StandsFor image stream = (IsUnmade image × (stream ≡ [])) ⊎ Keeps image stream

-- each of these outcomes of a crash stands for this stream
abbrev pub AllStandFor : (Image → Type 0) → List ℕ → Type 0
AllStandFor outcomes stream = (image : Image) → outcomes image → StandsFor image stream

-- each of them stands for one of these streams
abbrev pub EachStandsForOne : (Image → Type 0) → List (List ℕ) → Type 0
EachStandsForOne outcomes streams = (image : Image) → outcomes image → (stream : List ℕ) × Contains streams stream × StandsFor image stream

-- what a crash may leave of two files, as long as no wrong answer of them has been taken as true
abbrev pub outcomes_of : {D : Type 0} → Ghosts D → D → D → Image → Type 0
outcomes_of g log db image = AreClean g log db × outcomes g log db image

-- the files have the bytes that they had, and a crash leaves nothing else
pub record AreKept (seen : Image) (outcomes : Image → Type 0) (seen_now : Image) (outcomes_now : Image → Type 0) : Type 0 where
  pub same : seen_now ≡ seen
  pub leaves : (left : Image) → outcomes_now left → outcomes left
