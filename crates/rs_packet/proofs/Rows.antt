-- Packets by their bytes, worked out.
use Rattle.std.proofs.Common.{◌≡◌, [], ◌∷◌, Ok, Err, Some, None, true, false, refl}
use Rattle.std.specs.Str.{is_utf8, chars}
use lib.Utf8.{encode}
use Rattle.rs_packet_field.specs.declared.fault.PacketFault.TheVariants.{Malformed, Protocol, TooLarge, Version}
use Rattle.rs_message.specs.declared.qos.Qos.TheVariants.{AtMostOnce}
use Rattle.rs_packet.specs.declared.packet.RetainHandling.TheVariants.{Always}
use Rattle.rs_packet.specs.declared.packet.Packet.TheVariants as packet
use Rattle.rs_packet.specs.declared.packet.Decoded.TheVariants.{Whole, More}
use Rattle.rs_packet.specs.declared.reply.Reply.TheVariants as reply
use Rattle.rs_topic.specs.Topics.{name_of, filter_of, levels}
use Rattle.rs_packet_property.specs.Properties.{low_first, collected}
use Rattle.rs_packet_field.specs.Reading.{digits_at, varint_at, binary_at, text_at, value_at, property_at, properties_in, properties_at, values_at}
use Rattle.rs_packet_property.specs.Properties.{identifier_of}
use Rattle.rs_packet.specs.PacketReading.{kind_of, id_at, publish_at, options_of, asked_at, all_in, subscribe_at, packet_at, answer, connect_at, version_at, flags_of, client_at}
use Rattle.rs_packet.specs.Replies.{reply_bytes}

-- no byte, and the front of a packet
no_byte : answer [] ≡ Ok More
unfolding answer
no_byte = refl

-- a length of five bytes
long_length : answer (0x30 ∷ 0xFF ∷ 0xFF ∷ 0xFF ∷ 0xFF ∷ 0x7F ∷ []) ≡ Err Malformed
unfolding answer kind_of digits_at
long_length = refl

-- a length with more bytes than it needs
padded_length : answer (0xC0 ∷ 0x80 ∷ 0x00 ∷ []) ≡ Err Malformed
unfolding answer kind_of digits_at
padded_length = refl

-- no client sends a SUBACK
from_a_server : answer (0x90 ∷ []) ≡ Err Protocol
unfolding answer kind_of
from_a_server = refl

-- flags of SUBSCRIBE that are not 2
wrong_flags : answer (0x80 ∷ []) ≡ Err Malformed
unfolding answer kind_of
wrong_flags = refl

-- a packet of 262,145 bytes
too_large : answer (0x31 ∷ 0xFD ∷ 0xFF ∷ 0x0F ∷ []) ≡ Err TooLarge
unfolding answer kind_of digits_at
too_large = refl

-- the topic a/b with the payload x, retained, and a byte of the next packet
publish_row : answer (0x31 ∷ 7 ∷ 0 ∷ 3 ∷ 97 ∷ 47 ∷ 98 ∷ 0 ∷ 120 ∷ 0xC0 ∷ []) ≡ Ok (Whole (packet.Publish (record {
  duplicate = false;
  qos = AtMostOnce;
  retain = true;
  topic = Ok (97 ∷ 47 ∷ 98 ∷ []);
  id = None;
  expiry = None;
  alias = None;
  properties = record { format = None; content_type = None; response_topic = None; correlation = None; user = [] };
  payload = 120 ∷ [];
})) 9)
unfolding answer kind_of digits_at packet_at publish_at values_at text_at binary_at varint_at properties_at properties_in collected name_of is_utf8 chars encode
publish_row = refl

-- an identifier of 0
id_zero : answer (0x33 ∷ 7 ∷ 0 ∷ 1 ∷ 97 ∷ 0 ∷ 0 ∷ 0 ∷ 49 ∷ []) ≡ Err Protocol
unfolding answer kind_of digits_at packet_at publish_at values_at text_at binary_at id_at is_utf8 chars encode
id_zero = refl

-- an interval twice
twice : answer (0x31 ∷ 15 ∷ 0 ∷ 1 ∷ 97 ∷ 10 ∷ 2 ∷ 0 ∷ 0 ∷ 0 ∷ 10 ∷ 2 ∷ 0 ∷ 0 ∷ 0 ∷ 10 ∷ 120 ∷ []) ≡ Err Protocol
unfolding answer kind_of digits_at packet_at publish_at values_at text_at binary_at varint_at properties_at properties_in property_at identifier_of value_at collected is_utf8 chars encode
twice = refl

-- a format of 2; a subscription identifier in a PUBLISH
bad_format : answer (0x31 ∷ 7 ∷ 0 ∷ 1 ∷ 97 ∷ 2 ∷ 1 ∷ 2 ∷ 120 ∷ []) ≡ Err Protocol
unfolding answer kind_of digits_at packet_at publish_at values_at text_at binary_at varint_at properties_at properties_in property_at identifier_of value_at collected is_utf8 chars encode
bad_format = refl

misplaced_row : answer (0x31 ∷ 7 ∷ 0 ∷ 1 ∷ 97 ∷ 2 ∷ 11 ∷ 1 ∷ 120 ∷ []) ≡ Err Protocol
unfolding answer kind_of digits_at packet_at publish_at values_at text_at binary_at varint_at properties_at properties_in property_at identifier_of value_at collected is_utf8 chars encode
misplaced_row = refl

-- no filter; the options 03, 30 and 40
no_filter : answer (0x82 ∷ 3 ∷ 0 ∷ 1 ∷ 0 ∷ []) ≡ Err Protocol
unfolding answer kind_of digits_at packet_at subscribe_at values_at id_at varint_at properties_at properties_in collected
no_filter = refl

bad_options : (answer (0x82 ∷ 7 ∷ 0 ∷ 1 ∷ 0 ∷ 0 ∷ 1 ∷ 97 ∷ 0x03 ∷ []) ≡ Err Protocol) × (answer (0x82 ∷ 7 ∷ 0 ∷ 1 ∷ 0 ∷ 0 ∷ 1 ∷ 97 ∷ 0x30 ∷ []) ≡ Err Protocol) × (answer (0x82 ∷ 7 ∷ 0 ∷ 1 ∷ 0 ∷ 0 ∷ 1 ∷ 97 ∷ 0x40 ∷ []) ≡ Err Malformed)
unfolding answer kind_of digits_at packet_at subscribe_at values_at id_at varint_at properties_at properties_in collected text_at binary_at all_in asked_at options_of is_utf8 chars encode
bad_options = (refl, refl, refl)

-- the filter a/#
subscribe_row : answer (0x82 ∷ 9 ∷ 0 ∷ 1 ∷ 0 ∷ 0 ∷ 3 ∷ 97 ∷ 47 ∷ 35 ∷ 0 ∷ []) ≡ Ok (Whole (packet.Subscribe (record {
  id = 1;
  subscription = None;
  filters = (Ok (97 ∷ 47 ∷ 35 ∷ []), record { qos = AtMostOnce; no_local = false; retain_as_published = false; retain_handling = Always }) ∷ [];
})) 11)
unfolding answer kind_of digits_at packet_at subscribe_at values_at id_at varint_at properties_at properties_in collected text_at binary_at all_in asked_at options_of filter_of is_utf8 chars encode
subscribe_row = refl

-- the codes 8F 8F 8F 9E; an interval of 1
suback_row : reply_bytes (reply.Suback (record { id = 7; codes = 0x8F ∷ 0x8F ∷ 0x8F ∷ 0x9E ∷ [] })) ≡ 0x90 ∷ 7 ∷ 0 ∷ 7 ∷ 0 ∷ 0x8F ∷ 0x8F ∷ 0x8F ∷ 0x9E ∷ []
unfolding low_first
suback_row = refl

replayed_row : reply_bytes (reply.Publish (record {
  topic = 97 ∷ 47 ∷ 98 ∷ [];
  qos = AtMostOnce;
  id = None;
  subscription = None;
  expiry = Some 1;
  properties = record { format = None; content_type = None; response_topic = None; correlation = None; user = [] };
  payload = 120 ∷ [];
}))
    ≡ 0x31 ∷ 0x0C ∷ 0 ∷ 3 ∷ 97 ∷ 47 ∷ 98 ∷ 5 ∷ 2 ∷ 0 ∷ 0 ∷ 0 ∷ 1 ∷ 120 ∷ []
unfolding low_first
replayed_row = refl

-- what accepts a client: with no more to tell, with an identifier assigned, with an expiry taken back
accepted_rows : (reply_bytes (reply.ConnackAccepted (record { session_expiry_zero = false; assigned_client = None })) ≡ 0x20 ∷ 0x0D ∷ 0x00 ∷ 0x00 ∷ 0x0A ∷ 0x21 ∷ 0x00 ∷ 0x10 ∷ 0x27 ∷ 0x00 ∷ 0x04 ∷ 0x00 ∷ 0x00 ∷ 0x2A ∷ 0x00 ∷ [])
    × (reply_bytes (reply.ConnackAccepted (record { session_expiry_zero = false; assigned_client = Some (0x72 ∷ 0x73 ∷ 0x31 ∷ 0x2D ∷ 0x31 ∷ []) })) ≡ 0x20 ∷ 0x15 ∷ 0x00 ∷ 0x00 ∷ 0x12 ∷ 0x12 ∷ 0x00 ∷ 0x05 ∷ 0x72 ∷ 0x73 ∷ 0x31 ∷ 0x2D ∷ 0x31 ∷ 0x21 ∷ 0x00 ∷ 0x10 ∷ 0x27 ∷ 0x00 ∷ 0x04 ∷ 0x00 ∷ 0x00 ∷ 0x2A ∷ 0x00 ∷ [])
    × (reply_bytes (reply.ConnackAccepted (record { session_expiry_zero = true; assigned_client = None })) ≡ 0x20 ∷ 0x12 ∷ 0x00 ∷ 0x00 ∷ 0x0F ∷ 0x11 ∷ 0x00 ∷ 0x00 ∷ 0x00 ∷ 0x00 ∷ 0x21 ∷ 0x00 ∷ 0x10 ∷ 0x27 ∷ 0x00 ∷ 0x04 ∷ 0x00 ∷ 0x00 ∷ 0x2A ∷ 0x00 ∷ [])
unfolding low_first
accepted_rows = (refl, refl, refl)

-- the levels of "/", and of "a//b"
level_rows : (levels (47 ∷ []) ≡ [] ∷ [] ∷ []) × (levels (97 ∷ 47 ∷ 47 ∷ 98 ∷ []) ≡ (97 ∷ []) ∷ [] ∷ (98 ∷ []) ∷ [])
level_rows = (refl, refl)

-- the CONNECT of the client "a", and one of MQTT 3.1.1
connect_row : connect_at (0 ∷ 4 ∷ 77 ∷ 81 ∷ 84 ∷ 84 ∷ 5 ∷ 2 ∷ 0 ∷ 60 ∷ 0 ∷ 0 ∷ 1 ∷ 97 ∷ []) ≡ Ok (record {
  clean_start = true;
  will = false;
  keep_alive = 60;
  session_expiry = None;
  method = None;
  receive_maximum = None;
  packet_maximum = None;
  client = Some (97 ∷ []);
})
unfolding connect_at version_at flags_of client_at values_at varint_at digits_at properties_at properties_in collected text_at binary_at is_utf8 chars encode
connect_row = refl

older_row : connect_at (0 ∷ 4 ∷ 77 ∷ 81 ∷ 84 ∷ 84 ∷ 4 ∷ 2 ∷ 0 ∷ 60 ∷ 0 ∷ 1 ∷ 97 ∷ []) ≡ Err Version
unfolding connect_at version_at text_at binary_at is_utf8 chars encode
older_row = refl

will_row : connect_at (0 ∷ 4 ∷ 77 ∷ 81 ∷ 84 ∷ 84 ∷ 5 ∷ 6 ∷ 0 ∷ 60 ∷ 0 ∷ 0 ∷ 1 ∷ 97 ∷ 0 ∷ 0 ∷ 1 ∷ 119 ∷ 0 ∷ 1 ∷ 120 ∷ []) ≡ Ok (record {
  clean_start = true;
  will = true;
  keep_alive = 60;
  session_expiry = None;
  method = None;
  receive_maximum = None;
  packet_maximum = None;
  client = None;
})
unfolding connect_at version_at flags_of client_at values_at varint_at digits_at properties_at properties_in collected text_at binary_at is_utf8 chars encode
will_row = refl
