-- Hex digits, and the bytes that they stand for.
use Rattle.std.specs.Prelude.{ℕ, ◌+◌, ◌*◌, ◌==◌, not, List, [], ◌∷◌, filter, Option, Some, None}
use Rattle.hex.specs.Hex.{hex_digit_value}

-- spaces are ignored
abbrev pub without_spaces : List ℕ → List ℕ
without_spaces line = filter (λ b. not (b == 32)) line

-- the byte of two digits and then the others, if each is there
abbrev pub byte_before : Option ℕ → Option ℕ → Option (List ℕ) → Option (List ℕ)
byte_before None low others = None
byte_before (Some high) None others = None
byte_before (Some high) (Some low) None = None
byte_before (Some high) (Some low) (Some others) = Some ((high * 16 + low) ∷ others)

-- the bytes of digits in either case: two digits a byte, the high four bits first
abbrev pub bytes_of_digits : List ℕ → Option (List ℕ)
bytes_of_digits [] = Some []
bytes_of_digits (digit ∷ []) = None
bytes_of_digits (high ∷ low ∷ digits) = byte_before (hex_digit_value high) (hex_digit_value low) (bytes_of_digits digits)

-- the bytes of a line, if it is an even number of hex digits
abbrev pub bytes_of_line : List ℕ → Option (List ℕ)
bytes_of_line line = bytes_of_digits (without_spaces line)
