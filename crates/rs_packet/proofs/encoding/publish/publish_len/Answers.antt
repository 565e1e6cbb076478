use Rattle.std.proofs.Common.{arith, length}
use Rattle.std.specs.List.{flat_map}
use Rattle.std.proofs.Common.{refl}
use Rattle.rs_packet_property.specs.Properties.{property_bytes}
use Rattle.rs_packet_property.specs.Carried.{replayed}
use Rattle.rs_message.specs.Sizes.{level}
use Rattle.rs_packet.proofs.Lengths.{remaining_parts, length_publish}
use Rattle.rs_packet.proofs.encoding.publish.publish_len.Goals as goal

pub properties_len-section-requires : goal.properties_len-section-requires
properties_len-section-requires c =
    omega (arith, c.requires, remaining_parts c.args.topic.now c.args.qos c.args.expiry c.args.subscription c.args.properties.now c.args.payload (length (flat_map property_bytes (replayed c.args.expiry c.args.subscription c.args.properties.now))) (level c.args.qos) refl refl)

pub around_len-len-requires-clause-section_fits : goal.around_len-len-requires-clause-section_fits
around_len-len-requires-clause-section_fits c =
    omega (arith, c.requires, remaining_parts c.args.topic.now c.args.qos c.args.expiry c.args.subscription c.args.properties.now c.args.payload c.properties_len-section.result c.level.result c.properties_len-section.ensures.value c.level.ensures.value)

pub around_len-len-requires-clause-payload_fits : goal.around_len-len-requires-clause-payload_fits
around_len-len-requires-clause-payload_fits c =
    omega (arith, c.requires, remaining_parts c.args.topic.now c.args.qos c.args.expiry c.args.subscription c.args.properties.now c.args.payload c.properties_len-section.result c.level.result c.properties_len-section.ensures.value c.level.ensures.value)

pub varint_len-requires : goal.varint_len-requires
varint_len-requires c =
    omega (
      arith,
      c.requires,
      remaining_parts c.args.topic.now c.args.qos c.args.expiry c.args.subscription c.args.properties.now c.args.payload c.properties_len-section.result c.level.result c.properties_len-section.ensures.value c.level.ensures.value,
      c.around_len-len.ensures.value,
    )

pub overflow_add-result-2 : goal.overflow_add-result-2
overflow_add-result-2 c =
    omega (
      arith,
      c.requires,
      remaining_parts c.args.topic.now c.args.qos c.args.expiry c.args.subscription c.args.properties.now c.args.payload c.properties_len-section.result c.level.result c.properties_len-section.ensures.value c.level.ensures.value,
      c.around_len-len.ensures.value,
      c.varint_len.ensures.small,
    )

pub returns-clause-value : goal.returns-clause-value
returns-clause-value c id bytes fits len =
    length_publish c.args.topic.now c.args.qos id c.args.subscription c.args.expiry c.args.properties.now bytes c.properties_len-section.result c.level.result c.args.payload c.around_len-len.result c.varint_len.result fits
    c.properties_len-section.ensures.value c.level.ensures.value len c.around_len-len.ensures.value c.varint_len.ensures.value

pub returns-clause-small : goal.returns-clause-small
returns-clause-small c =
    omega (
      arith,
      c.requires,
      remaining_parts c.args.topic.now c.args.qos c.args.expiry c.args.subscription c.args.properties.now c.args.payload c.properties_len-section.result c.level.result c.properties_len-section.ensures.value c.level.ensures.value,
      c.around_len-len.ensures.value,
      c.varint_len.ensures.small,
    )
