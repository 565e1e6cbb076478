-- The faults of a packet, and their numbers, for the layers above. Their order is in PacketReading.antt.
pub use Rattle.rs_packet_field.specs.declared.fault.PacketFault.{PacketFault}
pub use Rattle.rs_packet_field.specs.declared.fault.PacketFault.TheVariants.{Malformed, Protocol, TooLarge, Version, NoMemory}
pub use Rattle.rs_packet_field.specs.Faults.{fault_code}
