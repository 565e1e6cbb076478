-- What the types of packets and replies keep.
use Rattle.std.specs.Prelude.{ℕ, ◌<◌, ◌≤◌, length, IfSome}
use Rattle.rs_packet_property.specs.Bounds.{MaximaFit}
use Rattle.rs_packet.specs.Values.{PublishValue, ConnectValue, PublishReplyValue, SubscribeValue, UnsubscribeValue, CodesValue}
use Rattle.rs_packet_property.specs.Properties.{IsSubscriptionId, varint_end}
use Rattle.rs_message.specs.declared.limits.TheConstants.{MAX_PACKET_SIZE}
use Rattle.rs_packet.specs.Grammar.{IdFits}
use Rattle.rs_packet.specs.Replies.{publish_reply_body, codes_body}
use Rattle.rs_message.specs.Sizes.{message_size}

abbrev pub IsConnect : ConnectValue → Type 0
IsConnect connect = MaximaFit connect.receive_maximum connect.packet_maximum

-- 3.3.2.2: there is an identifier if QoS is 1 or 2; the payload and the properties that a message carries are no longer than a packet
pub record IsPublish (publish : PublishValue) : Type 0 where
  pub id_fits : IdFits publish.qos publish.id
  pub message_fits : message_size publish.expiry publish.properties publish.payload ≤ MAX_PACKET_SIZE

-- 3.8.3: one filter at least, and no more than a packet has bytes
pub record FewFilters (n : ℕ) : Type 0 where
  pub some : 0 < n
  pub few : n ≤ MAX_PACKET_SIZE

-- 3.8.2.1.2, 3.8.3
pub record IsSubscribe (subscribe : SubscribeValue) : Type 0 where
  pub subscription_fits : IfSome subscribe.subscription IsSubscriptionId
  pub filters_fit : FewFilters (length subscribe.filters)

abbrev pub IsUnsubscribe : UnsubscribeValue → Type 0
IsUnsubscribe unsubscribe = FewFilters (length unsubscribe.filters)

-- 3.3.2.2, 3.3.2.3.8, 2.1.4: a PUBLISH whose length has a form
pub record IsPublishReply (published : PublishReplyValue) : Type 0 where
  pub id_fits : IdFits published.qos published.id
  pub subscription_fits : IfSome published.subscription IsSubscriptionId
  pub small : length (publish_reply_body published) < varint_end

-- 2.1.4
abbrev pub AreCodes : CodesValue → Type 0
AreCodes codes = length (codes_body codes) < varint_end
