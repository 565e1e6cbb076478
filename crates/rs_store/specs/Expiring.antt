-- When messages expire.
use Rattle.std.specs.Prelude.{◌≡◌, ℕ, ◌+◌, ◌-◌, ◌^◌, ◌<◌, min, nat_eq, if◌then◌else◌, List, [], ◌∷◌, Option, Some, None}
use Rattle.rs_message.specs.Values.{MessageValue}
use Rattle.rs_store.specs.Contents.{expired_in}
use Rattle.rs_store.specs.declared.content.Content.{Content}

-- the first moment at which an interval is over; the greatest u64 if there is no such moment
abbrev pub ends_of : Option ℕ → ℕ → ℕ
ends_of None received = 2 ^ 64 - 1
ends_of (Some expiry) received = if nat_eq expiry 0 then 0 else min (received + expiry) (2 ^ 64 - 1)

abbrev pub ends_at : MessageValue → ℕ
ends_at m = ends_of m.expiry m.received

-- the same of the messages that are retained
abbrev pub first_end : ℕ → List (List ℕ × MessageValue) → ℕ
first_end bound [] = bound
first_end bound (e ∷ es) = first_end (min bound (ends_at e.1)) es

-- at each moment before this one, no retained message is expired
abbrev pub NoneExpiredBefore : ℕ → Content → Type 0
NoneExpiredBefore moment c = (now : ℕ) → now < moment → expired_in now c ≡ 0
