use Rattle.std.proofs.Common.{◌≡◌, ◌<◌, ◌^◌, ℕ, length, nat_lt, ap, ◌∙◌, List, arith}
use Rattle.rs_message.specs.Messages.{IsMessage}
use Rattle.rs_window.proofs.WaitingLemmas.{len_known, packet_fits}
use Rattle.rs_window.proofs.waiting.is_too_long.Goals as goal

pub returns : goal.returns
returns c =
    let m = c.args.waiting.now.found.message in
    let properties : c.properties.result.now ≡ m.properties = rw c.message-message.ensures at c.properties.ensures in
    let payload : c.payload.result.now ≡ m.payload = rw c.message-message.ensures at c.payload.ensures.value in
    ap (λ (n : ℕ). nat_lt c.args.packet_maximum n)
    (len_known c.args.waiting.now c.args.expiry c.publish_len-len.result c.len.result c.lesser_of.result c.properties.result.now
    c.lesser_of.ensures properties (c.len.ensures.value ∙ ap (λ (bytes : List ℕ). length bytes) payload) (rw c.topic-topic.ensures at c.publish_len-len.ensures.value))

pub publish_len-len-requires : goal.publish_len-len-requires
publish_len-len-requires c =
    let m = c.args.waiting.now.found.message in
    let topic = c.args.waiting.now.found.topic in
    let properties : c.properties.result.now ≡ m.properties = rw c.message-message.ensures at c.properties.ensures in
    let payload : c.payload.result.now ≡ m.payload = rw c.message-message.ensures at c.payload.ensures.value in
    let is_message : IsMessage m = rw c.message-message.ensures at c.payload.ensures.is_message in
    let is : c.as_bytes-topic.result.now ≡ topic = rw c.topic-topic.ensures at c.as_bytes-topic.ensures.bytes in
    let short : length topic < 2 ^ 16 = omega (arith, c.as_bytes-topic.ensures.short, ap (λ (bytes : List ℕ). length bytes) is) in
    rw c.topic-topic.ensures (packet_fits topic c.lesser_of.result c.args.expiry m.expiry c.args.waiting.now.subscription c.properties.result.now m.properties c.len.result (length m.payload)
    short c.requires properties (c.len.ensures.value ∙ ap (λ (bytes : List ℕ). length bytes) payload) is_message.fits)
