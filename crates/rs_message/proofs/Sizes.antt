-- The size of a message that keeps no property but its interval.
use Rattle.std.proofs.Common.{ℕ, ◌+◌, ◌/◌, ◌%◌, ◌≤◌, Bool, true, false, cond, suc, zero, List, [], ◌∷◌, length, arith, length-append, Option, Some, None}
use Rattle.std.specs.Prelude.{nat_lt}
use Rattle.rs_packet_property.specs.Forms.{low_first, varint}
use Rattle.rs_message.specs.declared.limits.TheConstants.{MAX_PACKET_SIZE}
use Rattle.rs_message.specs.Sizes.{message_size}
use Rattle.rs_message.specs.Bare.{no_properties}

digits_le : (k n : ℕ) → length (low_first k n) ≤ k
unfolding low_first
digits_le zero n = omega arith
digits_le (suc k) n = at (nat_lt n 128) (digits_le k (n / 128))
  where
    at : (b : Bool) → length (low_first k (n / 128)) ≤ k → length (cond b (n ∷ []) ((n % 128 + 128) ∷ low_first k (n / 128))) ≤ suc k
    at true h = omega arith
    at false h = omega (arith, h)

pub large_message : (expiry : Option ℕ) (payload : List ℕ) → length payload ≤ 262000 → message_size expiry no_properties payload ≤ MAX_PACKET_SIZE
large_message None payload h = omega (arith, digits_le 4 0, length-append (varint 0) [])
large_message (Some n) payload h = simp length-append (omega (arith, digits_le 4 5))

pub small_message : (expiry : Option ℕ) (payload : List ℕ) → length payload ≤ 1000 → message_size expiry no_properties payload ≤ MAX_PACKET_SIZE
small_message expiry payload h = large_message expiry payload (omega (arith, h))
