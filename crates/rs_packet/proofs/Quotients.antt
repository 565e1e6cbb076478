-- Masks of a byte, and quotients.
use Rattle.std.proofs.Common.{◌≡◌, ℕ, zero, suc, ◌*◌, ◌/◌, ◌%◌, ◌<◌, Bool, true, false, not, eqb, ltb, bit_and, refl, arith}
use Rattle.std.proofs.lemmas.Bool.{eqb-true}
use Rattle.std.proofs.lemmas.Nat.{and_mask}
use Rattle.std.proofs.lemmas.Nat.Bits.{and_pow, and_high}
use Rattle.std.proofs.lemmas.Grind.{common_steps}
use Rattle.rs_packet.specs.OneBit.{is_bit}

one_bit : (r m : ℕ) → 0 < m → r < 2 → not (eqb (r * m) 0) ≡ eqb r 1
one_bit zero m h small = grind (arith, common_steps)
one_bit (suc zero) m h small = grind (arith, common_steps)
one_bit (suc (suc r)) m h small = absurd (omega (arith, small))

-- a test of one bit
pub set_is : (b m : ℕ) → is_bit m ≡ true → not (eqb (bit_and b m) 0) ≡ eqb (b / m % 2) 1
set_is b m h = by (eqb m 1) refl (eqb m 2) refl (eqb m 4) refl (eqb m 8) refl (eqb m 16) refl (eqb m 32) refl (eqb m 64) refl (eqb m 128) refl
  where
    by : (x1 : Bool) → eqb m 1 ≡ x1 → (x2 : Bool) → eqb m 2 ≡ x2 → (x3 : Bool) → eqb m 4 ≡ x3 → (x4 : Bool) → eqb m 8 ≡ x4 → (x5 : Bool) → eqb m 16 ≡ x5 → (x6 : Bool) → eqb m 32 ≡ x6 → (x7 : Bool) → eqb m 64 ≡ x7 → (x8 : Bool) → eqb m 128 ≡ x8
        → not (eqb (bit_and b m) 0) ≡ eqb (b / m % 2) 1
    by true e _ _ _ _ _ _ _ _ _ _ _ _ _ _ = rw (eqb-true m 1 e, and_pow b 0) (one_bit (b / 1 % 2) 1 (omega arith) (omega arith))
    by false _ true e _ _ _ _ _ _ _ _ _ _ _ _ = rw (eqb-true m 2 e, and_pow b 1) (one_bit (b / 2 % 2) 2 (omega arith) (omega arith))
    by false _ false _ true e _ _ _ _ _ _ _ _ _ _ = rw (eqb-true m 4 e, and_pow b 2) (one_bit (b / 4 % 2) 4 (omega arith) (omega arith))
    by false _ false _ false _ true e _ _ _ _ _ _ _ _ = rw (eqb-true m 8 e, and_pow b 3) (one_bit (b / 8 % 2) 8 (omega arith) (omega arith))
    by false _ false _ false _ false _ true e _ _ _ _ _ _ = rw (eqb-true m 16 e, and_pow b 4) (one_bit (b / 16 % 2) 16 (omega arith) (omega arith))
    by false _ false _ false _ false _ false _ true e _ _ _ _ = rw (eqb-true m 32 e, and_pow b 5) (one_bit (b / 32 % 2) 32 (omega arith) (omega arith))
    by false _ false _ false _ false _ false _ false _ true e _ _ = rw (eqb-true m 64 e, and_pow b 6) (one_bit (b / 64 % 2) 64 (omega arith) (omega arith))
    by false _ false _ false _ false _ false _ false _ false _ true e = rw (eqb-true m 128 e, and_pow b 7) (one_bit (b / 128 % 2) 128 (omega arith) (omega arith))
    by false a false c false d false f false g false i false j false k = absurd (cc (rw (a, c, d, f, g, i, j, k) at h))

pub will_qos_is : (b : ℕ) → bit_and b 24 / 8 ≡ b / 8 % 4
will_qos_is b = rw (and_high b 2 3) (omega arith)

pub will_options_is : (b : ℕ) → not (eqb (bit_and b 56) 0) ≡ not (eqb (b / 8 % 8) 0)
will_options_is b = rw (and_high b 3 3) (grind (arith, common_steps))

pub reserved_is : (b : ℕ) → b < 256 → not (eqb (bit_and b 192) 0) ≡ not (ltb b 64)
reserved_is b h = rw (and_high b 2 6) (grind (arith, common_steps))

pub maximum_qos_is : (b : ℕ) → bit_and b 3 ≡ b % 4
maximum_qos_is b = and_mask b 2

pub retain_handling_is : (b : ℕ) → b < 64 → bit_and b 48 / 16 ≡ b / 16
retain_handling_is b h = rw (and_high b 2 4) (omega arith)
