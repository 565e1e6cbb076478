-- How many bytes retained messages count.
use Rattle.std.specs.Prelude.{ℕ, ◌+◌, List, length, Option, Some, None}
use Rattle.std.specs.List.{sum_by}
use Rattle.std.specs.Map.{lookup}
use Rattle.std.specs.BTreeMap.{is_at}
use Rattle.rs_topic.specs.Order.{topic_cmp}
use Rattle.rs_message.specs.Sizes.{message_size}
use Rattle.rs_message.specs.Values.{MessageValue}
use Rattle.rs_store.specs.declared.limit.TheConstants.{TOPIC_BYTES}

-- a topic and its message: what each topic takes, its name, and the payload and the properties as a PUBLISH has them (3.3.2.3)
unfoldable pub bytes_of : List ℕ × MessageValue → ℕ
bytes_of e = TOPIC_BYTES + length e.0 + message_size e.1.expiry e.1.properties e.1.payload

-- all of them
unfoldable pub retained_bytes : List (List ℕ × MessageValue) → ℕ
retained_bytes retained = sum_by bytes_of retained

-- the message of the topic, if it has one
abbrev pub bytes_if_any : List ℕ → Option MessageValue → ℕ
bytes_if_any topic None = 0
bytes_if_any topic (Some message) = bytes_of (topic, message)

-- what the message of the topic counts, 0 if it has none
abbrev pub bytes_at : List ℕ → List (List ℕ × MessageValue) → ℕ
bytes_at topic retained = bytes_if_any topic (lookup (is_at (topic_cmp topic)) retained)
