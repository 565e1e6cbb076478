-- A text as lines of hex digits.
use Rattle.std.specs.Prelude.{◌≡◌, ℕ, ◌+◌, ◌-◌, ◌^◌, ◌==◌, min, Bool, if◌then◌else◌, List, [], ◌∷◌, ◌++◌, length, Option, Some, None, false, option_map, option_and_then}
use Rattle.std.specs.List.{list_any}
use Rattle.rs_program_pipe.specs.Digits.{bytes_of_line}

abbrev pub is_line_feed : ℕ → Bool
is_line_feed b = b == 10

abbrev pub has_line_feed : List ℕ → Bool
has_line_feed text = list_any is_line_feed text

-- The first line of the text ends at this index, and a line feed follows.
pub record IsLineEnd (text : List ℕ) (end : ℕ) : Type 0 where
  pub line : List ℕ
  pub rest : List ℕ
  pub split : text ≡ line ++ 10 ∷ rest
  pub clean : has_line_feed line ≡ false
  pub ends : length line ≡ end

-- this byte, and then the first line
abbrev pub with_byte : ℕ → List (List ℕ) → List (List ℕ)
with_byte b [] = []
with_byte b (line ∷ lines) = (b ∷ line) ∷ lines

-- The lines of a text, which line feeds separate. The last one may be empty.
unfoldable pub lines_of : List ℕ → List (List ℕ)
lines_of [] = [] ∷ []
lines_of (b ∷ text) = if is_line_feed b then [] ∷ lines_of text else with_byte b (lines_of text)

-- ---- up to the first line that is not hex

-- the bytes of a line and of those after it; none if the line is not hex
abbrev pub bytes_before : Option (List ℕ) → List ℕ → List ℕ
bytes_before None others = []
bytes_before (Some bytes) others = bytes ++ others

-- the bytes of the lines before the first that is not hex
unfoldable pub bytes_of_lines : List (List ℕ) → List ℕ
bytes_of_lines [] = []
bytes_of_lines (line ∷ lines) = bytes_before (bytes_of_line line) (bytes_of_lines lines)

-- the number of the line after this one; the greatest u64 stands for itself and more
abbrev pub next_line : ℕ → ℕ
next_line n = min (n + 1) (2 ^ 64 - 1)

-- this line if it is not hex, else what is found after it
abbrev pub first_not_hex : Option (List ℕ) → ℕ → Option ℕ → Option ℕ
first_not_hex None n behind = Some n
first_not_hex (Some bytes) n behind = behind

-- the number of the first line that is not hex, if the first of these lines has this number
unfoldable pub not_hex_from : ℕ → List (List ℕ) → Option ℕ
not_hex_from n [] = None
not_hex_from n (line ∷ lines) = first_not_hex (bytes_of_line line) n (not_hex_from (next_line n) lines)

-- the bytes that the lines of a text stand for, up to the first line that is not hex
abbrev pub bytes_of_text : List ℕ → List ℕ
bytes_of_text text = bytes_of_lines (lines_of text)

-- the first line of a text, counted from 1, that is not hex
abbrev pub line_not_hex : List ℕ → Option ℕ
line_not_hex text = not_hex_from 1 (lines_of text)

-- ---- all lines

-- the bytes of a line and of those after it, if all are hex
abbrev pub bytes_then : Option (List ℕ) → Option (List ℕ) → Option (List ℕ)
bytes_then None others = None
bytes_then (Some bytes) None = None
bytes_then (Some bytes) (Some others) = Some (bytes ++ others)

unfoldable pub all_bytes_of : List (List ℕ) → Option (List ℕ)
all_bytes_of [] = Some []
all_bytes_of (line ∷ lines) = bytes_then (bytes_of_line line) (all_bytes_of lines)

-- the bytes of a text, if all of its lines are hex
abbrev pub bytes_of_whole : List ℕ → Option (List ℕ)
bytes_of_whole text = all_bytes_of (lines_of text)

-- ---- known text

-- what known text stands for, up to the first line that is not hex
abbrev pub read_bytes : Option (List ℕ) → Option (List ℕ)
read_bytes known = option_map bytes_of_text known

-- what known text stands for, if all of its lines are hex
abbrev pub written_bytes : Option (List ℕ) → Option (List ℕ)
written_bytes known = option_and_then bytes_of_whole known
