-- A message without properties.
pub use Rattle.rs_packet_property.specs.Values.{no_properties}
