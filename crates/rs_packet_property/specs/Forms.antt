-- The basic forms: section 1.5.
use Rattle.std.specs.Prelude.{ℕ, zero, suc, ◌+◌, ◌/◌, ◌%◌, ◌<◌, ◌^◌, nat_lt, if◌then◌else◌, List, [], ◌∷◌, ◌++◌, length}
use Rattle.std.specs.Int.{w16, w32, to_be_bytes}
use Rattle.rs_packet_property.specs.declared.limits.TheConstants.{MAX_REMAINING_LENGTH}

-- 1.5.5: seven bits a byte, lowest first, the top bit set on all but the last; at most k bytes, and the fewest
unfoldable pub low_first : ℕ → ℕ → List ℕ
low_first zero n = []
low_first (suc k) n = if nat_lt n 128 then n ∷ [] else (n % 128 + 128) ∷ low_first k (n / 128)

abbrev pub varint : ℕ → List ℕ
varint n = low_first 4 n

-- 1.5.5: numbers from here on have no form
abbrev pub varint_end : ℕ
varint_end = MAX_REMAINING_LENGTH + 1

-- 1.5.2, 1.5.3
abbrev pub two : ℕ → List ℕ
two n = to_be_bytes w16 n

abbrev pub four : ℕ → List ℕ
four n = to_be_bytes w32 n

-- 1.5.4, 1.5.6: two bytes of length, and that many bytes
abbrev pub counted : List ℕ → List ℕ
counted bytes = two (length bytes) ++ bytes

-- 1.5.6: binary data have at most as many bytes as two bytes of length can say
abbrev pub IsShort : List ℕ → Type 0
IsShort bytes = length bytes < 2 ^ 16

-- 3.8.2.1.2: a Subscription Identifier is a varint and not 0
abbrev pub IsSubscriptionId : ℕ → Type 0
IsSubscriptionId n = (0 < n) × (n < varint_end)
