-- What the layers above need of the fields of packets: sections 1.5 and 2.2.2.
pub use Rattle.rs_packet_property.specs.Values.{PropertiesValue, no_properties}
pub use Rattle.rs_packet_property.specs.Equality.{properties_eq, properties_eq_equiv}
unfoldable pub use Rattle.rs_packet_property.specs.Forms.{low_first}
pub use Rattle.rs_packet_property.specs.Forms.{varint, varint_end, counted}
pub use Rattle.rs_packet_property.specs.Properties.{properties}
pub use Rattle.rs_packet_property.specs.Carried.{replayed}
