-- The changes of one job, and those of one line.
use Rattle.std.specs.Prelude.{ℕ, ◌≡◌, ◌+◌, ◌<◌, ◌≤◌, false, List, [], ◌∷◌, length}
use Rattle.std.specs.List.{AllByRecursion}
use Rattle.rs_message.specs.Messages.{is_sweep}
use Rattle.rs_message.specs.declared.entry.Entry.{Entry}
use Rattle.rs_message.specs.declared.entry.Operation.{Operation}
use Rattle.rs_store.specs.History.{SerialsRise}
use Rattle.rs_intake_queue.specs.declared.job.TheConstants.{MAX_CHANGES}
use Rattle.rs_intake_queue.specs.declared.job.Entries.{Entries}
use Rattle.rs_intake_queue.specs.declared.job.Entries.TheVariants.{One, Many}

-- the entries as a list
abbrev pub listed : Entries → List Entry
listed (One entry) = entry ∷ []
listed (Many entries) = entries.items

-- all entries are of this place
abbrev pub AreOf : ℕ → List Entry → Type 0
AreOf place entries = AllByRecursion (λ e. e.origin.place ≡ place) entries

-- none is a Sweep
abbrev pub ArePlain : List Entry → Type 0
ArePlain entries = AllByRecursion (λ e. is_sweep e.operation ≡ false) entries

-- the place of the first, or 0
abbrev pub place_of_all : List Entry → ℕ
place_of_all [] = 0
place_of_all (e ∷ entries) = e.origin.place

-- the entries may be those of one job: they are not too many, of one place, which is not the writer's, and none is a Sweep
pub record AreOfOneJob (entries : List Entry) : Type 0 where
  pub some : 0 < length entries
  pub few : length entries ≤ MAX_CHANGES
  pub above : 0 < place_of_all entries
  pub place : AreOf (place_of_all entries) entries
  pub plain : ArePlain entries

-- the entry of this place and serial that does this
abbrev pub entry_at : ℕ → ℕ → Operation → Entry
entry_at place serial operation = record { origin = record { place = place; serial = serial }; operation = operation }

-- the entries of this place that do this one after the other, under the serials behind this one
abbrev pub numbered : ℕ → ℕ → List Operation → List Entry
numbered place serial [] = []
numbered place serial (o ∷ os) = entry_at place (serial + 1) o ∷ numbered place (serial + 1) os

-- the entries are of this place, and their serials are those behind this one, one after the other
abbrev pub AreNext : ℕ → ℕ → List Entry → Type 0
AreNext place serial [] = Unit {0}
AreNext place serial (e ∷ es) = (e.origin ≡ record { place = place; serial = serial + 1 }) × AreNext place (serial + 1) es

-- the entries that a line of this place sent: all are of the place, and their serials strictly rise
pub record AreOfLine (place : ℕ) (sent : List Entry) : Type 0 where
  pub of_place : AreOf place sent
  pub rise : SerialsRise sent
