-- What was read of the system's clock.
use Rattle.std.specs.Prelude.{ℕ}
use Rattle.rs_tcp_sockets.specs.declared.clock.SystemClock.{SystemClock}

-- the last moment, in seconds
abbrev pub last_of : SystemClock → ℕ
last_of clock = clock.last
