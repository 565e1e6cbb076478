-- The bits of a byte.
use Rattle.std.specs.Prelude.{ℕ, Bool, ◌||◌, ◌==◌}

-- one bit of a byte, by its value
abbrev pub is_bit : ℕ → Bool
is_bit m = (m == 1) || ((m == 2) || ((m == 4) || ((m == 8) || ((m == 16) || ((m == 32) || ((m == 64) || (m == 128)))))))
