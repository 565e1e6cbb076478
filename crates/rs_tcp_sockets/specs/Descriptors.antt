-- What a descriptor shows.
use Rattle.std.specs.Prelude.{ℤ}
use Rattle.rs_tcp_sockets.specs.declared.descriptors.Descriptor.{Descriptor}

-- the number that the system gave it
abbrev pub number_of : Descriptor → ℤ
number_of it = it.fd
