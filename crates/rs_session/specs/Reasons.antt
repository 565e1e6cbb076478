-- The bytes of the Reason Codes: section 2.4 of OASIS MQTT Version 5.0.
use Rattle.std.specs.Prelude.{ℕ}
use Rattle.rs_session.specs.declared.reason.ReasonCode.{ReasonCode}
use Rattle.rs_session.specs.declared.reason.ReasonCode.TheVariants.{Success, NoSubscriptionExisted, MalformedPacket, ProtocolError, ImplementationSpecificError, UnsupportedProtocolVersion, BadAuthenticationMethod, TopicFilterInvalid, TopicNameInvalid, PacketIdentifierNotFound, ReceiveMaximumExceeded, TopicAliasInvalid, PacketTooLarge, QuotaExceeded, SharedSubscriptionsNotSupported}

abbrev pub reason_value : ReasonCode → ℕ
reason_value Success = 0x00
reason_value NoSubscriptionExisted = 0x11
reason_value MalformedPacket = 0x81
reason_value ProtocolError = 0x82
reason_value ImplementationSpecificError = 0x83
reason_value UnsupportedProtocolVersion = 0x84
reason_value BadAuthenticationMethod = 0x8C
reason_value TopicFilterInvalid = 0x8F
reason_value TopicNameInvalid = 0x90
reason_value PacketIdentifierNotFound = 0x92
reason_value ReceiveMaximumExceeded = 0x93
reason_value TopicAliasInvalid = 0x94
reason_value PacketTooLarge = 0x95
reason_value QuotaExceeded = 0x97
reason_value SharedSubscriptionsNotSupported = 0x9E
