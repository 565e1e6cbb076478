-- What the system is asked to wait, and the descriptor by which a stop is told.
use Rattle.std.specs.Prelude.{◌-◌, ◌^◌, min, ℤ, pos, negsuc, Option, Some, None}
use Rattle.std.specs.Int.{div_ceil}
use Rattle.std.specs.Duration.{as_nanos}
use Rattle.std.specs.declared.time.Duration.{Duration}
use Rattle.rs_tcp_sockets.specs.Descriptors.{number_of}
use Rattle.rs_tcp_sockets.specs.declared.epoll.StopSignal.{StopSignal}

-- a limit in whole milliseconds, rounded up, as far as it fits, or -1 for none
abbrev pub millis_of : Option Duration → ℤ
millis_of (Some limit) = pos (min (div_ceil (as_nanos limit) 1000000) (2 ^ 31 - 1))
millis_of None = negsuc 0

-- the number of its descriptor
abbrev pub signal_number_of : StopSignal → ℤ
signal_number_of signal = number_of signal.counter
