-- What the first bytes of a packet say of it, whatever follows them.
use Rattle.std.specs.Prelude.{◌≡◌, ℕ, List, Ok, Err}
use Rattle.rs_packet_field.specs.declared.fault.PacketFault.{PacketFault}
use Rattle.rs_packet_field.specs.declared.fault.PacketFault.TheVariants.{Malformed, Protocol, TooLarge, Version, NoMemory}
use Rattle.rs_packet.specs.declared.packet.Decoded.TheVariants.{More}
use Rattle.rs_packet.specs.PacketReading.{answer}

-- they are less than a packet, and no fault
abbrev pub IsMore : List ℕ → Type 0
IsMore bytes = answer bytes ≡ Ok More

-- they may be answered with this fault; memory may be refused at any bytes
abbrev pub IsFaulty : List ℕ → PacketFault → Type 0
IsFaulty bytes NoMemory = Unit {0}
IsFaulty bytes Malformed = answer bytes ≡ Err Malformed
IsFaulty bytes Protocol = answer bytes ≡ Err Protocol
IsFaulty bytes TooLarge = answer bytes ≡ Err TooLarge
IsFaulty bytes Version = answer bytes ≡ Err Version
