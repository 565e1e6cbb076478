use Rattle.std.proofs.Common.{◌≡◌, take, length}
use Rattle.std.specs.Prelude.{map}
use Rattle.std.specs.List.{All, flat_map}
use Rattle.rs_packet_property.specs.Properties.{property_bytes, IsShort}
use Rattle.rs_packet_property.specs.Carried.{user_property}
use Rattle.rs_packet_field.proofs.properties.user_len.Given as goal

abbrev pub invariant-loop-pair : goal.invariant-loop-pair
invariant-loop-pair l = (l.len ≡ length (flat_map property_bytes (map user_property (take l.pair-index l.user)))) × All (λ pair. IsShort pair.0 × IsShort pair.1) (take l.pair-index l.user)
