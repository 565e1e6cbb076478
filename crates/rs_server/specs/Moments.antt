-- What a clock of given times tells.
use Rattle.std.specs.Prelude.{ℕ}
use Rattle.rs_server.specs.Clock.{moment_at}
use Rattle.rs_server.specs.declared.clock.Moments.{Moments}

-- the times that are told from now on, by their index
abbrev pub told_by : Moments → ℕ → ℕ
told_by moments = moment_at moments.first moments.rest.items
