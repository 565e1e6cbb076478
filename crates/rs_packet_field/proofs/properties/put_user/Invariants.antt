use Rattle.std.proofs.Common.{◌≡◌, ◌++◌, take}
use Rattle.std.specs.Prelude.{map}
use Rattle.std.specs.List.{flat_map}
use Rattle.rs_packet_property.specs.Properties.{property_bytes}
use Rattle.rs_packet_property.specs.Carried.{user_property}
use Rattle.rs_packet_field.proofs.properties.put_user.Given as goal

abbrev pub invariant-loop-pair : goal.invariant-loop-pair
invariant-loop-pair l = l.out.items ≡ l.fn.out.items ++ flat_map property_bytes (map user_property (take l.pair-index l.user))
