-- The values of properties that are shared by count.
use Rattle.std.specs.Prelude.{Option, Some, None}
use Rattle.std.specs.declared.alloc.Global.{Global}
use Rattle.std.specs.declared.sync.Arc.{Arc}
use Rattle.rs_packet_property.specs.Values.{PropertiesValue, no_properties}
use Rattle.rs_packet_property.specs.declared.carried.PropertyFields.{PropertyFields}

abbrev pub properties_of : Option (Arc PropertyFields Global) → PropertiesValue
properties_of None = no_properties
properties_of (Some shared) = shared.value
