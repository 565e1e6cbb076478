-- Messages that wait to be sent: sections 3.3.1.3, 3.3.2.3.3, 3.8.4 and 3.1.2.11.4 of OASIS MQTT Version 5.0.
use Rattle.std.specs.Prelude.{◌≡◌, ◌≢◌, ℕ, ◌<◌, ◌≤◌, Bool, ◌||◌, ◌⊎◌, nat_lt, nat_le, if◌then◌else◌, Option, Some, None, List, [], ◌∷◌, length}
use Rattle.rs_message.specs.declared.qos.Qos.{Qos}
use Rattle.rs_message.specs.declared.qos.Qos.TheVariants as qos
use Rattle.rs_message.specs.Sizes.{level}
use Rattle.rs_packet.specs.Replies.{reply_bytes}
use Rattle.rs_message.specs.declared.found.Found.{Found}
use Rattle.rs_message.specs.declared.message.Remaining.{Remaining}
use Rattle.rs_message.specs.declared.message.Remaining.TheVariants.{Forever, Left, Expired}
use Rattle.rs_message.specs.Messages.{remaining_of, is_expired}
use Rattle.rs_window.specs.Values.{OutgoingValue}
use Rattle.rs_window.specs.Packets.{reply_of}
use Rattle.rs_window.specs.declared.waiting.Waiting.{Waiting}

-- a found message with what its subscription was granted
abbrev pub granted_at : Qos → Option ℕ → Found → Waiting
granted_at granted subscription found = record { found = found; granted = granted; subscription = subscription }

-- 3.8.4: it is sent at the lesser of the published and the granted QoS
abbrev pub lesser : Qos → Qos → Qos
lesser published granted = if nat_le (level published) (level granted) then published else granted

abbrev pub lesser_qos : Waiting → Qos
lesser_qos w = lesser w.found.message.qos w.granted

-- 3.3.2.3.3: the interval that is sent is what is left of the one that was received
abbrev pub interval_sent : Remaining → Option ℕ
interval_sent Forever = None
interval_sent (Left seconds) = Some seconds
interval_sent Expired = None

-- its packet with this interval and this identifier
abbrev pub packet_with : Waiting → Option ℕ → Option ℕ → OutgoingValue
packet_with w expiry id = record {
  topic = w.found.topic;
  message = w.found.message;
  qos = lesser_qos w;
  id = id;
  expiry = expiry;
  subscription = w.subscription;
}

-- its packet at a given time
abbrev pub packet_at : ℕ → Waiting → Option ℕ → OutgoingValue
packet_at now w id = packet_with w (interval_sent (remaining_of w.found.message now)) id

-- 3.3.2.2: the QoS decides whether there is an identifier, and each has the same length
abbrev pub some_id : Qos → Option ℕ
some_id qos.AtMostOnce = None
some_id qos.AtLeastOnce = Some 1
some_id qos.ExactlyOnce = Some 1

-- how many bytes its packet takes with this interval
unfoldable pub len_with : Waiting → Option ℕ → ℕ
len_with w expiry = length (reply_bytes (reply_of (packet_with w expiry (some_id (lesser_qos w)))))

-- how many bytes its packet takes at a given time
abbrev pub packet_len : ℕ → Waiting → ℕ
packet_len now w = len_with w (interval_sent (remaining_of w.found.message now))

-- 3.3.2.3.3, 3.1.2.11.4: it may be dropped at a time if it has expired then, or if its packet is longer than the client takes
abbrev pub IsDropped : ℕ → ℕ → Waiting → Type 0
IsDropped packet_maximum now w = (remaining_of w.found.message now ≡ Expired) ⊎ (packet_maximum < packet_len now w)

abbrev pub AllDropped : ℕ → ℕ → List Waiting → Type 0
AllDropped packet_maximum now [] = Unit {0}
AllDropped packet_maximum now (w ∷ ws) = IsDropped packet_maximum now w × AllDropped packet_maximum now ws

-- the test for it
abbrev pub is_dropped : ℕ → ℕ → Waiting → Bool
is_dropped packet_maximum now w = is_expired now w.found.message || nat_lt packet_maximum (packet_len now w)

-- what still waits after messages are dropped from the head until one is to be sent
abbrev pub sendable : ℕ → ℕ → List Waiting → List Waiting
sendable packet_maximum now [] = []
sendable packet_maximum now (w ∷ ws) = if is_dropped packet_maximum now w then sendable packet_maximum now ws else w ∷ ws

-- a given PUBLISH is this message's packet at this time; the message has not expired, and the client takes the packet
pub record Carries (packet_maximum now : ℕ) (w : Waiting) (p : OutgoingValue) : Type 0 where
  pub packet : p ≡ packet_at now w p.id
  pub current : remaining_of w.found.message now ≢ Expired
  pub fits : length (reply_bytes (reply_of p)) ≤ packet_maximum
