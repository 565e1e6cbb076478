use Rattle.std.proofs.Common.{ℕ, ◌<◌, ◌^◌, Option, length, ap, ◌∙◌, arith}
use Rattle.rs_packet.specs.Replies.{publish_remaining}
use Rattle.rs_packet.proofs.Lengths.{message_publish, remaining_is}
use Rattle.rs_packet.proofs.reply.PublishReply.new.Goals as goal

pub invariant_of-result : goal.invariant_of-result
invariant_of-result c = record {
  id_fits = c.requires.id_fits;
  subscription_fits = c.in_range-subscription.ensures.fits;
  small =
      let same = ap (λ (s : Option ℕ). publish_remaining c.args.found.topic c.args.qos c.args.expiry s c.args.found.message.properties (length c.args.found.message.payload)) c.in_range-subscription.ensures.same in
      let short : length c.args.found.topic < 2 ^ 16 = omega (arith, c.as_bytes-topic.ensures.short, ap length (c.as_bytes-topic.ensures.bytes ∙ c.topic.ensures)) in
      let fits = message_publish c.args.found.topic c.args.qos c.args.expiry c.args.subscription c.args.found.message.properties (length c.args.found.message.payload) short c.requires.message_fits in
      omega (arith, fits, remaining_is c.args.found.topic c.args.qos c.args.id c.in_range-subscription.result c.args.expiry c.args.found.message.properties c.args.found.message.payload c.requires.id_fits, same);
}
