use Rattle.std.proofs.Common.{length, ap, arith}
use Rattle.rs_packet.proofs.Lengths.{message_publish}
use Rattle.tests_wire.proofs.packets.sending.fitting_len.Goals as goal

pub publish_len-requires : goal.publish_len-requires
publish_len-requires c =
    message_publish c.args.topic.now c.args.qos c.args.expiry c.args.subscription c.args.properties.now c.args.payload (omega (arith, c.as_bytes-topic.ensures.short, ap length c.as_bytes-topic.ensures.bytes)) c.requires
