-- What a reader of lines will still give.
use Rattle.std.specs.Prelude.{◌≡◌, ℕ, List, [], ◌++◌, Option, None, Some, ⊤, option_map}
use Rattle.rs_program_pipe.specs.Lines.{lines_of, bytes_of_text, not_hex_from}

-- the bytes, and the number of the line that stops the reader after them
pub record Coming : Type 0 where
  pub bytes : List ℕ
  pub stop : Option ℕ

-- The bytes that wait come first, and then those of the text, whose first line has this number. Once a
-- line stopped the reader, nothing of the text comes.
abbrev pub coming : Option ℕ → List ℕ → ℕ → List ℕ → Coming
coming None bytes n text = record { bytes = bytes ++ bytes_of_text text; stop = not_hex_from n (lines_of text) }
coming (Some line) bytes n text = record { bytes = bytes; stop = Some line }

-- these bytes are given, and the others stay
pub record Gives (old new : Coming) (bs : List ℕ) : Type 0 where
  pub bytes : old.bytes ≡ bs ++ new.bytes
  pub stop : new.stop ≡ old.stop

-- no byte is left, and no line stops the reader
pub record IsOver (a : Coming) : Type 0 where
  pub bytes : a.bytes ≡ []
  pub stop : a.stop ≡ None

-- ---- if the text of the input is known

abbrev pub Outlook : Type 0
Outlook = Option Coming

abbrev pub KeepsOutlook : Outlook → Outlook → Type 0
KeepsOutlook None new = ⊤
KeepsOutlook (Some a) new = new ≡ Some a

abbrev pub IsAllOver : Outlook → Type 0
IsAllOver None = ⊤
IsAllOver (Some a) = IsOver a

abbrev pub bytes_coming : Outlook → Option (List ℕ)
bytes_coming o = option_map (λ a. a.bytes) o

abbrev pub stop_coming : Outlook → Option (Option ℕ)
stop_coming o = option_map (λ a. a.stop) o

-- a known stop stays
abbrev pub KeepsStop : Option (Option ℕ) → Option (Option ℕ) → Type 0
KeepsStop None new = ⊤
KeepsStop (Some stop) new = new ≡ Some stop
