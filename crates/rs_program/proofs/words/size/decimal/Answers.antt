use Rattle.std.proofs.Common.{◌≡◌, ◌∙◌, ◌<◌, ◌^◌, ap, arith, sym, subst, take, length, get_or, Option, SomeIff, ℕ, zero, suc, nat_eq, true, false, List, inl, inr, None}
use Rattle.std.specs.Str.Parse.{AllDigits, IsNumeral, digits_value}
use Rattle.std.proofs.lemmas.Int.Digits.{digits_more, digits_value_more}
use Rattle.std.proofs.lemmas.List.{take_all}
use Rattle.std.proofs.lemmas.Str.{digit_value_digit}
use Rattle.std.proofs.lemmas.Str.Parse.{digit_at}
use Rattle.rs_program.proofs.Sizes.{part_below}
use Rattle.rs_program.proofs.words.size.decimal.Goals as goal

is_some : (n : ℕ) → nat_eq n 0 ≡ false → 0 < n
is_some zero e = absurd (let wrong : true ≡ false = e in cc)
is_some (suc n) e = omega arith

-- what is answered if the digits write no number that fits
none_if : (digits : List ℕ) (r : Option ℕ) → r ≡ None → (digits_value 10 digits < 2 ^ 64 → ⊥)
    → SomeIff r (IsNumeral 10 digits × (digits_value 10 digits < 2 ^ 64)) (digits_value 10 digits)
none_if digits r is large =
    subst (λ (r : Option ℕ). SomeIff r (IsNumeral 10 digits × (digits_value 10 digits < 2 ^ 64)) (digits_value 10 digits)) (sym is) (λ h. large h.1)

pub returns-then-not-is_ascii_digit : goal.returns-then-not-is_ascii_digit
returns-then-not-is_ascii_digit c = λ h.
    let within : c.loop-digit.digit-index < length c.args.digits.now = omega arith in
    let digit = digit_at c.args.digits.now c.loop-digit.digit-index h.0.1 within in
    elim (c.if-not-is_ascii_digit.ensures.cases) [ inl low ↦ omega arith | inr high ↦ omega arith ]

pub returns-in_err-checked_mul : goal.returns-in_err-checked_mul
returns-in_err-checked_mul c =
    let within : c.loop-digit.digit-index < length c.args.digits.now = omega arith in
    let least = part_below c.args.digits.now c.loop-digit.digit-index within in
    none_if c.args.digits.now c.from_residual.result c.from_residual.ensures (λ small. c.in_err-checked_mul.ensures (omega (arith, c.loop-digit.invariant.value)))

pub returns-in_err-number : goal.returns-in_err-number
returns-in_err-number c =
    let within : c.loop-digit.digit-index < length c.args.digits.now = omega arith in
    let least = part_below c.args.digits.now c.loop-digit.digit-index within in
    let digit = digit_value_digit (get_or c.args.digits.now c.loop-digit.digit-index 0) c.if-not-is_ascii_digit.ensures.cases in
    none_if c.args.digits.now c.from_residual-in_err-number.result c.from_residual-in_err-number.ensures
    (λ small. c.in_err-number.ensures (omega (arith, c.loop-digit.invariant.value, c.in_ok-checked_mul.ensures.1)))

pub loop-digit-preserved : goal.loop-digit-preserved
loop-digit-preserved c =
    let within : c.loop-digit.digit-index < length c.args.digits.now = omega arith in
    let digit = digit_value_digit (get_or c.args.digits.now c.loop-digit.digit-index 0) c.if-not-is_ascii_digit.ensures.cases in
    let more = digits_value_more 10 c.args.digits.now c.loop-digit.digit-index within in
    record {
      are_digits = digits_more 10 c.args.digits.now c.loop-digit.digit-index within c.loop-digit.invariant.are_digits c.if-not-is_ascii_digit.ensures.bound;
      value = omega (arith, c.loop-digit.invariant.value, c.in_ok-checked_mul.ensures.1, c.in_ok-number.ensures.1);
      small = omega (arith, c.in_ok-number.ensures.0, c.in_ok-number.ensures.1);
    }

pub returns : goal.returns
returns c =
    let all : take c.loop-digit.digit-index c.args.digits.now ≡ c.args.digits.now = take_all c.loop-digit.digit-index c.args.digits.now (omega arith) in
    let value : c.loop-digit.number ≡ digits_value 10 c.args.digits.now = c.loop-digit.invariant.value ∙ ap (digits_value 10) all in
    let some = is_some (length c.args.digits.now) (sym c.is_empty.ensures ∙ c.if-is_empty.false) in
    let small : digits_value 10 c.args.digits.now < 2 ^ 64 = omega (arith, value, c.loop-digit.invariant.small) in
    (((some, subst (AllDigits 10) all c.loop-digit.invariant.are_digits), small), value)
