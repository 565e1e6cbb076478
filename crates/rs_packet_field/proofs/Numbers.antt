-- Numbers of one to four digits of seven bits.
use Rattle.std.proofs.Common.{◌≡◌, ℕ, zero, suc, ◌+◌, ◌-◌, ◌*◌, ◌≤◌, Bool, true, false, cond, eqb, ltb, List, [], ◌∷◌, length, take, drop, Result, Ok, Err, refl, sym, ap, subst, ◌∙◌, arith, inl, inr, slice_range}
use Rattle.std.specs.Prelude.{◌⊎◌}
use Rattle.std.proofs.lemmas.List.{take_all}
use Rattle.rs_packet_field.specs.declared.varint.VarintFault.TheVariants.{Bad}
use Rattle.rs_packet_field.specs.Reading.{◌>>=◌, digits_at, IsEnd}
use Rattle.rs_packet_property.proofs.Identifiers.{chosen}

-- the value of a step that did not fail
pub bind_ok : {A B E : Type 0} (r : Result A E) (f : A → Result B E) (y : B) → (r >>= f) ≡ Ok y → (x : A) × (r ≡ Ok x) × (f x ≡ Ok y)
bind_ok (Ok x) f y e = (x, refl, e)
bind_ok (Err d) f y e = absurd cc

-- a test that passed before its value
pub guarded : {A E : Type 0} (b : Bool) (d : E) (x y : A) → cond {A = Result A E} b (Err d) (Ok x) ≡ Ok y → (b ≡ false) × (x ≡ y)
guarded true d x y e = absurd cc
guarded false d x y e = (refl, cc)

pub ok_is : {A E : Type 0} (x y : A) → ◌≡◌ {A = Result A E} (Ok x) (Ok y) → x ≡ y
ok_is x y e = cc

IsEnd-self : (bytes : List ℕ) → IsEnd bytes bytes
IsEnd-self bytes = let k : length bytes - length bytes ≡ 0 = omega arith in record { short = omega arith; same = rw k refl }

pub IsEnd-next : (b : ℕ) (bytes rest : List ℕ) → IsEnd rest bytes → IsEnd rest (b ∷ bytes)
IsEnd-next b bytes rest h =
    let le : length rest ≤ length bytes = h.short in
    let k : suc (length bytes) - length rest ≡ suc (length bytes - length rest) = omega arith in
    record { short = omega arith; same = rw k h.same }

pub digits_rest : (n : ℕ) (bytes : List ℕ) (x : ℕ × List ℕ) → digits_at n bytes ≡ Ok x → IsEnd x.1 bytes
unfolding digits_at
digits_rest zero bytes x e = absurd cc
digits_rest (suc n) [] x e = absurd cc
digits_rest (suc n) (b ∷ bytes) x e =
    elim (chosen (ltb b 128) (Ok (b, bytes)) (digits_at n bytes >>= λ high. cond (eqb high.0 0) (Err Bad) (Ok (b - 128 + 128 * high.0, high.1))) (Ok x) e) [
      | inl h ↦ subst (λ (y : ℕ × List ℕ). IsEnd y.1 (b ∷ bytes)) (ok_is (b, bytes) x h.1) (IsEnd-next b bytes bytes (IsEnd-self bytes))
      | inr h ↦
          let high = bind_ok (digits_at n bytes) (λ high. cond (eqb high.0 0) (Err Bad) (Ok (b - 128 + 128 * high.0, high.1))) x h.1 in
          let g = guarded (eqb high.0.0 0) Bad (b - 128 + 128 * high.0.0, high.0.1) x high.2 in
          subst (λ (y : ℕ × List ℕ). IsEnd y.1 (b ∷ bytes)) g.1 (IsEnd-next b bytes high.0.1 (digits_rest n bytes high.0 high.1))
    ]

-- n bytes from where the rest begins
pub cut : (all rest : List ℕ) (n : ℕ) → IsEnd rest all → slice_range all (length all - length rest) (length all - length rest + n) ≡ take n rest
cut all rest n h =
    let k : length all - length rest + n - (length all - length rest) ≡ n = omega arith in
    rw (k, h.same) refl

-- what follows the length, of the whole packet
pub digits_end : (all : List ℕ) (n : ℕ) (rest : List ℕ) → digits_at 4 (take (length all - 1) (drop 1 all)) ≡ Ok (n, rest) → IsEnd rest all
unfolding digits_at
digits_end [] n rest e = absurd cc
digits_end (first ∷ bytes) n rest e =
    let same : take (suc (length bytes) - 1) bytes ≡ bytes = take_all (suc (length bytes) - 1) bytes (omega arith) in
    IsEnd-next first bytes rest (digits_rest 4 bytes (n, rest) (sym (ap (digits_at 4) same) ∙ e))
