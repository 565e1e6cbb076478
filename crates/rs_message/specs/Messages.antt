-- Retained messages and what a PUBLISH does to them: sections 3.3.1.3 and 3.3.2.3.3 of OASIS MQTT Version 5.0.
use Rattle.std.specs.Prelude.{◌≢◌, ℕ, ◌-◌, ◌≤◌, Bool, true, false, nat_le, if◌then◌else◌, List, [], ◌∷◌, Option, Some, None}
use Rattle.rs_message.specs.Sizes.{message_size}
use Rattle.rs_message.specs.Values.{MessageValue}
use Rattle.rs_message.specs.declared.entry.Operation.{Operation}
use Rattle.rs_message.specs.declared.entry.Operation.TheVariants.{Set, Clear, Sweep}
use Rattle.rs_message.specs.declared.limits.TheConstants.{MAX_PACKET_SIZE}
use Rattle.rs_message.specs.declared.message.Remaining.{Remaining}
use Rattle.rs_message.specs.declared.message.Remaining.TheVariants.{Forever, Left, Expired}

-- a retained message has a payload, which with its properties takes no more bytes than a packet may have
pub record IsMessage (m : MessageValue) : Type 0 where
  pub some : m.payload ≢ []
  pub fits : message_size m.expiry m.properties m.payload ≤ MAX_PACKET_SIZE

-- ---- 3.3.2.3.3: expiry

-- the seconds since a message came, 0 if the clock is before that
abbrev pub waited : MessageValue → ℕ → ℕ
waited m now = now - m.received

abbrev pub left_of : Option ℕ → ℕ → Remaining
left_of None waited = Forever
left_of (Some expiry) waited = if nat_le expiry waited then Expired else Left (expiry - waited)

abbrev pub remaining_of : MessageValue → ℕ → Remaining
remaining_of m now = left_of m.expiry (waited m now)

abbrev pub is_over : Remaining → Bool
is_over Forever = false
is_over (Left seconds) = false
is_over Expired = true

abbrev pub is_expired : ℕ → MessageValue → Bool
is_expired now m = is_over (remaining_of m now)

-- the message becomes the retained message of the topic
abbrev pub set_of : List ℕ → MessageValue → Operation
set_of topic m = Set (record { topic = topic; message = m })

-- ---- 3.3.1.3: what a PUBLISH does to its topic's retained message

-- a payload sets it, an empty one clears it
abbrev pub change_of : List ℕ → MessageValue → List ℕ → Operation
change_of topic m [] = Clear topic
change_of topic m (byte ∷ bytes) = set_of topic m

-- without RETAIN nothing changes
abbrev pub operation_of : Bool → List ℕ → MessageValue → Option Operation
operation_of false topic m = None
operation_of true topic m = Some (change_of topic m m.payload)

-- ---- what the writer does by itself

abbrev pub is_sweep : Operation → Bool
is_sweep (Set found) = false
is_sweep (Clear topic) = false
is_sweep (Sweep moment) = true
