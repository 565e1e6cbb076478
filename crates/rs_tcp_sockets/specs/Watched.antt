-- The numbers under which clients are watched.
use Rattle.std.specs.Prelude.{◌+◌, ◌*◌, ◌^◌, ℕ}

-- the number of a client at its turn
abbrev pub number_of : ℕ → ℕ → ℕ
number_of client turn = turn * 2 ^ 16 + client
