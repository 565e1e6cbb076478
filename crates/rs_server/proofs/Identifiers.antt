-- The identifier of a client that gives none is a text.
use Rattle.std.proofs.Common.{◌≡◌, ℕ, ◌+◌, ◌%◌, ◌<◌, ◌^◌, ◌==◌, Bool, true, false, List, [], ◌∷◌, ◌++◌, length, length-append, refl, codes, arith}
use Rattle.std.specs.List.{list_any}
use Rattle.std.specs.Fmt.{decimal}
use Rattle.std.specs.Str.{IsAscii}
use Rattle.std.proofs.lemmas.Bool.Decides.{nat_tests}
use Rattle.std.proofs.lemmas.Fmt.{IsAscii-decimal, decimal_by_steps, length-decimal-le}
use Rattle.std.proofs.lemmas.List.Folds.{list_any-append}
use Rattle.std.proofs.lemmas.Str.{IsAscii-append, IsUtf8-from_ascii, is_utf8-from_IsUtf8}
use Rattle.std.proofs.lemmas.Str.Ascii.{IsAscii-nil, IsAscii-cons}
use Rattle.rs_topic.specs.Texts.{reads_as_text}
use Rattle.rs_server.specs.Conversation.{assigned_of}

abbrev has_nul : List ℕ → Bool
has_nul bytes = list_any (λ b. b == 0) bytes

none_in : (xs ys : List ℕ) → has_nul xs ≡ false → has_nul ys ≡ false → has_nul (xs ++ ys) ≡ false
none_in xs ys a b = rw (list_any-append (λ (b : ℕ). b == 0) xs ys, a, b) refl

none_in_digit : (n : ℕ) → has_nul ((48 + n) ∷ []) ≡ false
none_in_digit n = grind (arith, nat_tests)

none_in_decimal : (n : ℕ) → n < 2 ^ 64 → has_nul (decimal n) ≡ false
none_in_decimal n h = decimal_by_steps (λ n ds. has_nul ds ≡ false) (λ n l. none_in_digit n) (λ n ds l p. none_in ds _ p (none_in_digit (n % 10))) n h

ascii : (place number : ℕ) → place < 2 ^ 64 → number < 2 ^ 64 → IsAscii (assigned_of place number)
ascii place number h k =
    IsAscii-append (codes "rs") _ (IsAscii-cons 114 (115 ∷ []) (omega arith) (IsAscii-cons 115 [] (omega arith) IsAscii-nil))
    (IsAscii-append (decimal place) _ (IsAscii-decimal place h)
    (IsAscii-append (codes "-") _ (IsAscii-cons 45 [] (omega arith) IsAscii-nil) (IsAscii-decimal number k)))

pub assigned_reads : (place number : ℕ) → place < 2 ^ 64 → number < 2 ^ 64 → reads_as_text (assigned_of place number) ≡ true
assigned_reads place number h k =
    let utf8 = is_utf8-from_IsUtf8 _ (IsUtf8-from_ascii (assigned_of place number) (ascii place number h k)) in
    let none : has_nul (assigned_of place number) ≡ false = none_in (codes "rs") (decimal place ++ (codes "-" ++ decimal number)) refl (none_in (decimal place) (codes "-" ++ decimal number) (none_in_decimal place h) (none_in (codes "-") (decimal number) refl (none_in_decimal number k))) in
    rw (utf8, none) refl

pub assigned_short : (place number : ℕ) → place < 2 ^ 64 → number < 2 ^ 64 → length (assigned_of place number) < 2 ^ 16
assigned_short place number h k =
    let a = length-decimal-le 20 place (omega arith) (omega arith) h in
    let b = length-decimal-le 20 number (omega arith) (omega arith) k in
    omega (arith, a, b, length-append (codes "rs") (decimal place ++ (codes "-" ++ decimal number)), length-append (decimal place) (codes "-" ++ decimal number), length-append (codes "-") (decimal number))
