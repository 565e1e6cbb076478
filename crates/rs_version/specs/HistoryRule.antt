-- The rule of the book of a history, and what a step on its word tells.
use Rattle.std.specs.Prelude.{ℕ, ◌≡◌, ◌+◌, ◌<◌, ◌≤◌, true, false, List, [], ◌∷◌, ◌++◌, length}
use Rattle.logbook.specs.Pages.{Cell, Step, View, Book, Named, Nib, cell, nib, may_make, may_write}
use Rattle.rs_message.specs.declared.entry.Entry.{Entry}
use Rattle.rs_message.specs.declared.entry.Operation.TheVariants.{Sweep}

-- The first word counts the rights that were made. A history has two words at first, and each right has a further one.
-- That of the right to add the entry with a number, from 0, has the key number + 2. A right that was not used is to add a later entry than
-- those that the history has.
pub record AreRights (cells : List Cell) (log : List Entry) : Type 0 where
  pub count : (cell cells 0).0 + 2 ≡ length cells
  pub made : length log + 2 ≤ length cells
  pub unused : (key : ℕ) → key < length cells → (cell cells key).1 ≡ false → length log + 2 ≤ key

abbrev pub word_of : Book → Named
word_of b = record { tracked = true; key = 0; book = b }

-- the right to add the entry with this number, from 0
abbrev pub right_of : ℕ → Nib
right_of number = nib may_write (number + 2) 0

-- what a step asks for that adds no entry
abbrev pub no_entry : Entry
no_entry = record { origin = record { place = 0; serial = 0 }; operation = Sweep 0 }

-- if the number was the one expected, the right to add the entry with this number was made
abbrev pub MakesNext : Step Entry → View Entry ℕ → ℕ → View Entry ℕ → Type 0
MakesNext s v found w = found ≡ s.old → w.1.0 ≡ nib may_make (s.old + 2) 0

-- the entry was added to all that had been seen
abbrev pub AddsOne : Step Entry → View Entry ℕ → ℕ → View Entry ℕ → Type 0
AddsOne s v found w = w.0 ≡ v.0 ++ s.ask ∷ []

-- the right is there as before, and the history has no entry that it or a later one is to add
abbrev pub SeesAll : Step Entry → View Entry ℕ → ℕ → View Entry ℕ → Type 0
SeesAll s v found w = (w.1.0 ≡ v.1.0) × (length w.0 + 2 ≤ v.1.0.key)
