-- What the crate hex decodes are the bytes of digits.
use Rattle.std.proofs.Common.{◌≡◌, ℕ, ◌+◌, ◌*◌, ◌%◌, List, [], ◌∷◌, length, refl, sym, ap, ◌∙◌, Option, Some, None, Result, Ok, Err, inl, inr, arith}
use Rattle.std.specs.Result.{result_ok}
use Rattle.std.proofs.lemmas.Bool.{cases_eq}
use Rattle.hex.specs.Hex.{decode_of, decode_pairs, digit_or_error, hex_digit_value, ◌>>=◌}
use Rattle.hex.specs.declared.error.FromHexError.{FromHexError}
use Rattle.hex.proofs.HexLemmas.{decode_of-even, decode_of-odd}
use Rattle.rs_program_pipe.specs.Digits.{byte_before, bytes_of_digits}

-- a pair of digits and those behind it
pair : (a i b j : ℕ) (x y : Option ℕ) (r : Result (List ℕ) FromHexError) (others : Option (List ℕ)) → result_ok r ≡ others
    → result_ok (((digit_or_error a i x >>= (λ h. digit_or_error b j y >>= (λ l. Ok (h * 16 + l)))) >>= (λ byte. r >>= (λ bytes. Ok (byte ∷ bytes))))) ≡ byte_before x y others
pair a i b j None y r others e = refl
pair a i b j (Some h) None r others e = refl
pair a i b j (Some h) (Some l) (Ok v) others e = ap (byte_before (Some h) (Some l)) e
pair a i b j (Some h) (Some l) (Err f) others e = ap (byte_before (Some h) (Some l)) e

pairs : (i : ℕ) (s : List ℕ) → result_ok (decode_pairs i s) ≡ bytes_of_digits s
unfolding decode_pairs
pairs i [] = refl
pairs i (a ∷ []) = refl
pairs i (a ∷ b ∷ rest) = pair a i b (i + 1) (hex_digit_value a) (hex_digit_value b) (decode_pairs (i + 2) rest) (bytes_of_digits rest) (pairs (i + 2) rest)

none_behind : (x y : Option ℕ) → byte_before x y None ≡ None
none_behind None y = refl
none_behind (Some h) None = refl
none_behind (Some h) (Some l) = refl

odd_digits : (s : List ℕ) → length s % 2 ≡ 1 → bytes_of_digits s ≡ None
odd_digits [] h = absurd (omega arith)
odd_digits (a ∷ []) h = refl
odd_digits (a ∷ b ∷ rest) h = ap (byte_before (hex_digit_value a) (hex_digit_value b)) (odd_digits rest (omega arith)) ∙ none_behind (hex_digit_value a) (hex_digit_value b)

pub decoded : (s : List ℕ) → result_ok (decode_of s) ≡ bytes_of_digits s
decoded s =
    elim (cases_eq (length s % 2) 1) [
      | inl odd ↦ ap result_ok (decode_of-odd s odd) ∙ sym (odd_digits s odd)
      | inr even ↦ ap result_ok (decode_of-even s (omega arith)) ∙ pairs 0 s
    ]
