use Rattle.std.proofs.Common.{ap, arith, length}
use Rattle.rs_packet_property.specs.Values.{PropertiesValue}
use Rattle.rs_journal_record.proofs.Sizes.{few_users}
use Rattle.rs_journal_record.proofs.message.put_message.Goals as goal

pub put_properties-requires : goal.put_properties-requires
put_properties-requires c = record { few = omega (arith, few_users c.args.message.now c.payload-payload.ensures.is_message, ap (λ (p : PropertiesValue). length p.user) c.properties.ensures) }
