-- The numbers of the faults of a packet. The order of the faults of a property is in Reading.antt.
use Rattle.std.specs.Prelude.{ℕ}
use Rattle.rs_packet_field.specs.declared.fault.PacketFault.{PacketFault}
use Rattle.rs_packet_field.specs.declared.fault.PacketFault.TheVariants.{Malformed, Protocol, TooLarge, Version, NoMemory}

abbrev pub fault_code : PacketFault → ℕ
fault_code Malformed = 10
fault_code Protocol = 11
fault_code TooLarge = 12
fault_code Version = 13
fault_code NoMemory = 14
