use Rattle.std.proofs.Common.{length}
use Rattle.rs_packet_property.specs.Properties.{nothing, none_yet}
use Rattle.rs_packet_field.specs.Reading.{collect_on, properties_in}
use Rattle.rs_packet_field.proofs.PropertyLoop.{IsOnTheWay}
use Rattle.rs_packet_field.proofs.properties.values_in.Given as goal

abbrev pub invariant-next : goal.invariant-next
invariant-next l = IsOnTheWay l.owner l.values l.seen l.rest (collect_on nothing (properties_in (length l.fn.section) l.owner none_yet l.fn.section))

abbrev pub decreases-next : goal.decreases-next
decreases-next l = length l.rest
