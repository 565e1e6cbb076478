-- Lemmas on text that grows by lines of hex digits.
use Rattle.std.proofs.Common.{◌≡◌, ℕ, zero, suc, ◌+◌, ◌/◌, ◌%◌, ◌==◌, Bool, true, false, cond, not, List, [], ◌∷◌, ◌++◌, length, take, drop, slice_index, refl, sym, ap, subst, ◌∙◌, append_assoc, append-nil, arith, Option, Some, None, Result, Ok, Err, option_map, MatchResult, IfOk, ◌≤◌, take-append-drop}
use Rattle.std.proofs.lemmas.Bool.{eqb-true, false_from_ne_true}
use Rattle.std.proofs.lemmas.List.Elements.{All-head, All-tail, filter-append}
use Rattle.std.specs.List.{AllPass}
use Rattle.std.specs.Result.{result_ok}
use Rattle.std.proofs.lemmas.List.{take-append-le}
use Rattle.std.specs.Io.KnownBytes.{Appends, Keeps, WriteAppends, append_known}
use Rattle.std.proofs.KnownBytes.{Appends-kept, Keeps-refl, Keeps-trans}
use Rattle.hex.specs.Hex.{IsBytes, encode_lower, encode_with, hex_digit_value, is_hex_digit, lower_digits}
use Rattle.hex.proofs.HexLemmas.{decode_of-encode_lower, decode_of-ok, length-encode_with}
use Rattle.rs_program_pipe.specs.Digits.{without_spaces, byte_before, bytes_of_digits, bytes_of_line}
use Rattle.rs_program_pipe.specs.Lines.{is_line_feed, has_line_feed, with_byte, lines_of, bytes_then, all_bytes_of, bytes_of_whole, written_bytes}
use Rattle.rs_program_pipe.specs.Views.{due_digits}
use Rattle.rs_program_pipe.proofs.HexDigits.{decoded}
use Rattle.rs_program_pipe.proofs.LineLemmas.{lines_of-last}

-- ---- digits are neither spaces nor line feeds

other_digit : (d k : ℕ) → is_hex_digit d ≡ true → is_hex_digit k ≡ false → (d == k) ≡ false
other_digit d k digit none = false_from_ne_true (d == k) (λ e. let x : true ≡ false = sym digit ∙ ap is_hex_digit (eqb-true d k e) ∙ none in cc x)

digits_unchanged : (s : List ℕ) → AllPass is_hex_digit s → without_spaces s ≡ s
digits_unchanged [] h = refl
digits_unchanged (d ∷ s) h =
    let keep = other_digit d 32 (All-head (λ x. is_hex_digit x ≡ true) d s h) refl in
    let rest = digits_unchanged s (All-tail (λ x. is_hex_digit x ≡ true) d s h) in
    rw (keep, rest) refl

digits_clean : (s : List ℕ) → AllPass is_hex_digit s → has_line_feed s ≡ false
digits_clean [] h = refl
digits_clean (d ∷ s) h =
    let first = other_digit d 10 (All-head (λ x. is_hex_digit x ≡ true) d s h) refl in
    let rest = digits_clean s (All-tail (λ x. is_hex_digit x ≡ true) d s h) in
    rw (first, rest) refl

-- ---- digits behind digits

before_more : (o p : Option ℕ) (q : Option (List ℕ)) (x y : List ℕ) → byte_before o p q ≡ Some x
    → (r : List ℕ) × (q ≡ Some r) × (byte_before o p (Some (r ++ y)) ≡ Some (x ++ y))
before_more None p q x y e = cc
before_more (Some h) None q x y e = cc
before_more (Some h) (Some l) None x y e = cc
before_more (Some h) (Some l) (Some r) x y e = (r, refl, ap (λ z. option_map (λ w. w ++ y) z) e)

digits_more : (s t x y : List ℕ) → bytes_of_digits s ≡ Some x → bytes_of_digits t ≡ Some y → bytes_of_digits (s ++ t) ≡ Some (x ++ y)
digits_more [] t x y e f = f ∙ ap (λ z. option_map (λ w. w ++ y) z) e
digits_more (a ∷ []) t x y e f = cc
digits_more (a ∷ b ∷ s) t x y e f =
    let (r, is, more) = before_more (hex_digit_value a) (hex_digit_value b) (bytes_of_digits s) x y e in
    ap (byte_before (hex_digit_value a) (hex_digit_value b)) (digits_more s t r y is f) ∙ more

line_more : (line digits x y : List ℕ) → AllPass is_hex_digit digits → bytes_of_line line ≡ Some x → bytes_of_digits digits ≡ Some y → bytes_of_line (line ++ digits) ≡ Some (x ++ y)
line_more line digits x y all e f =
    ap bytes_of_digits (filter-append (λ b. not (b == 32)) line digits ∙ ap (λ s. without_spaces line ++ s) (digits_unchanged digits all)) ∙ digits_more (without_spaces line) digits x y e f

-- ---- lines behind lines

-- the lines of a text that goes on behind its last line
abbrev on_last : List ℕ → List (List ℕ) → List (List ℕ)
on_last t [] = []
on_last t (line ∷ []) = (line ++ t) ∷ []
on_last t (line ∷ next ∷ lines) = line ∷ on_last t (next ∷ lines)

with_byte_on : (b : ℕ) (t : List ℕ) (lines : List (List ℕ)) → with_byte b (on_last t lines) ≡ on_last t (with_byte b lines)
with_byte_on b t [] = refl
with_byte_on b t (line ∷ []) = refl
with_byte_on b t (line ∷ next ∷ lines) = refl

-- with the first byte a line feed, or in the first line
cond_first : (v : Bool) (b : ℕ) (line : List ℕ) (lines : List (List ℕ)) → (first : List ℕ) × (others : List (List ℕ)) × (cond v ([] ∷ line ∷ lines) ((b ∷ line) ∷ lines) ≡ first ∷ others)
cond_first true b line lines = ([], line ∷ lines, refl)
cond_first false b line lines = (b ∷ line, lines, refl)

cond_more : (v : Bool) (b : ℕ) (t line : List ℕ) (lines : List (List ℕ))
    → cond v ([] ∷ on_last t (line ∷ lines)) (with_byte b (on_last t (line ∷ lines))) ≡ on_last t (cond v ([] ∷ line ∷ lines) ((b ∷ line) ∷ lines))
cond_more true b t line lines = refl
cond_more false b t line lines = with_byte_on b t (line ∷ lines)

cond_end : (v : Bool) (b : ℕ) (line : List ℕ) (lines end : List (List ℕ))
    → cond v ([] ∷ line ∷ (lines ++ end)) ((b ∷ line) ∷ (lines ++ end)) ≡ cond v ([] ∷ line ∷ lines) ((b ∷ line) ∷ lines) ++ end
cond_end true b line lines end = refl
cond_end false b line lines end = refl

-- a text has a first line
first_of : (text : List ℕ) → (line : List ℕ) × (lines : List (List ℕ)) × (lines_of text ≡ line ∷ lines)
unfolding lines_of
first_of [] = ([], [], refl)
first_of (b ∷ text) = let (line, lines, is) = first_of text in rw is (cond_first (is_line_feed b) b line lines)

lines_more : (text t : List ℕ) → has_line_feed t ≡ false → lines_of (text ++ t) ≡ on_last t (lines_of text)
unfolding lines_of
lines_more [] t h = lines_of-last t h
lines_more (b ∷ text) t h =
    let (line, lines, is) = first_of text in
    let more : lines_of (text ++ t) ≡ on_last t (lines_of text) = lines_more text t h in
    rw (more, is) (cond_more (is_line_feed b) b t line lines)

lines_end : (text : List ℕ) → lines_of (text ++ 10 ∷ []) ≡ lines_of text ++ [] ∷ []
unfolding lines_of
lines_end [] = refl
lines_end (b ∷ text) =
    let (line, lines, is) = first_of text in
    let more : lines_of (text ++ 10 ∷ []) ≡ lines_of text ++ [] ∷ [] = lines_end text in
    rw (more, is) (cond_end (is_line_feed b) b line lines ([] ∷ []))

-- ---- the bytes of all lines

then_some : (o p : Option (List ℕ)) (b : List ℕ) → bytes_then o p ≡ Some b → (x : List ℕ) × (y : List ℕ) × (o ≡ Some x) × (p ≡ Some y) × (b ≡ x ++ y)
then_some None p b e = cc
then_some (Some x) None b e = cc
then_some (Some x) (Some y) b e = (x, y, refl, refl, cc)

-- an empty line stands for nothing
all_end : (lines : List (List ℕ)) → all_bytes_of (lines ++ [] ∷ []) ≡ all_bytes_of lines
unfolding all_bytes_of
all_end [] = refl
all_end (line ∷ lines) = ap (bytes_then (bytes_of_line line)) (all_end lines)

all_more : (first : List ℕ) (lines : List (List ℕ)) (digits y b : List ℕ) → AllPass is_hex_digit digits → bytes_of_digits digits ≡ Some y → all_bytes_of (first ∷ lines) ≡ Some b
    → all_bytes_of (on_last digits (first ∷ lines)) ≡ Some (b ++ y)
unfolding all_bytes_of
all_more first [] digits y b all f e =
    let (x, z, is, rest, whole) = then_some (bytes_of_line first) (Some []) b e in
    let nil : [] ≡ z = cc in
    ap (λ o. bytes_then o (Some [])) (line_more first digits x y all is f) ∙ ap Some (append-nil (x ++ y) ∙ ap (λ l. l ++ y) (sym (whole ∙ ap (λ l. x ++ l) (sym nil) ∙ append-nil x)))
all_more first (next ∷ lines) digits y b all f e =
    let (x, z, is, rest, whole) = then_some (bytes_of_line first) (all_bytes_of (next ∷ lines)) b e in
    ap (bytes_then (bytes_of_line first)) (all_more next lines digits y z all f rest) ∙ ap (λ o. bytes_then o (Some (z ++ y))) is ∙ ap Some (sym (append_assoc x z y) ∙ ap (λ l. l ++ y) (sym whole))

whole_more : (text digits y b : List ℕ) → AllPass is_hex_digit digits → bytes_of_digits digits ≡ Some y → bytes_of_whole text ≡ Some b → bytes_of_whole (text ++ digits) ≡ Some (b ++ y)
whole_more text digits y b all f e =
    let (line, lines, is) = first_of text in
    ap all_bytes_of (lines_more text digits (digits_clean digits all) ∙ ap (on_last digits) is) ∙ all_more line lines digits y b all f (ap all_bytes_of (sym is) ∙ e)

-- ---- known text

digits_of : (bs : List ℕ) → IsBytes bs → AllPass is_hex_digit (encode_lower bs) × (bytes_of_digits (encode_lower bs) ≡ Some bs)
digits_of bs h =
    let e = decode_of-encode_lower bs h in
    ((decode_of-ok (encode_lower bs) bs e).1, sym (decoded (encode_lower bs)) ∙ ap result_ok e)

grown : (o p : Option (List ℕ)) (bs : List ℕ) → ((b : List ℕ) → o ≡ Some b → p ≡ Some (b ++ bs)) → Appends o p bs
grown None p bs h = tt
grown (Some b) p bs h = subst (λ (q : Option (List ℕ)). Appends (Some b) q bs) (sym (h b refl)) refl

-- digits of bytes behind known text
written_more : (t u : Option (List ℕ)) (bs : List ℕ) → IsBytes bs → Appends t u (encode_lower bs) → Appends (written_bytes t) (written_bytes u) bs
written_more None u bs h p = tt
written_more (Some x) None bs h p = absurd p
written_more (Some x) (Some y) bs h p =
    let (all, is) = digits_of bs h in
    subst (λ (z : List ℕ). Appends (bytes_of_whole x) (bytes_of_whole z) bs) (sym p) (grown (bytes_of_whole x) (bytes_of_whole (x ++ encode_lower bs)) bs (λ b e. whole_more x (encode_lower bs) bs b all is e))

-- a line feed behind known text
written_line : (t u : Option (List ℕ)) → Appends t u (10 ∷ []) → Keeps (written_bytes t) (written_bytes u)
written_line None u p = tt
written_line (Some x) None p = absurd p
written_line (Some x) (Some y) p =
    let same : bytes_of_whole y ≡ bytes_of_whole x = ap bytes_of_whole p ∙ ap all_bytes_of (lines_end x) ∙ all_end (lines_of x) in
    subst (Keeps (bytes_of_whole x)) (sym same) (Keeps-refl (bytes_of_whole x))

written_keeps : (t u : Option (List ℕ)) → Keeps t u → Keeps (written_bytes t) (written_bytes u)
written_keeps None u p = tt
written_keeps (Some x) None p = absurd p
written_keeps (Some x) (Some y) p = subst (Keeps (bytes_of_whole x)) (sym (ap bytes_of_whole p)) (Keeps-refl (bytes_of_whole x))

-- ---- the digit that is due

due_none : (c : Option (List ℕ)) → append_known c [] ≡ c
due_none None = refl
due_none (Some x) = ap Some (append-nil x)

-- ---- the digits of the first bytes

encode_take : (t bs : List ℕ) (n : ℕ) → take (n + n) (encode_with t bs) ≡ encode_with t (take n bs)
unfolding encode_with
encode_take t bs zero = refl
encode_take t [] (suc n) = let two : suc n + suc n ≡ suc (suc (n + n)) = omega arith in rw two refl
encode_take t (b ∷ rest) (suc n) =
    let two : suc n + suc n ≡ suc (suc (n + n)) = omega arith in
    rw two (ap (λ l. slice_index t (b / 16) ∷ slice_index t (b % 16) ∷ l) (encode_take t rest n))

bytes_taken : (n : ℕ) (xs : List ℕ) → IsBytes xs → IsBytes (take n xs)
bytes_taken zero xs h i = omega arith
bytes_taken (suc n) [] h i = h i
bytes_taken (suc n) (x ∷ xs) h zero = h 0
bytes_taken (suc n) (x ∷ xs) h (suc i) = bytes_taken n xs (λ k. h (suc k)) i

-- the digits of the first of these bytes were written
pub chunk_written : {E : Type 0} (r : Result ℕ E) (t u : Option (List ℕ)) (digits bytes buf : List ℕ) (k : ℕ) → bytes ≡ take k buf → digits ≡ encode_lower bytes
    → IfOk r (λ n. n + n ≤ length digits) → MatchResult r (λ n. Appends t u (take (n + n) digits)) (λ _. Keeps t u)
    → MatchResult r (λ n. Appends t u (encode_lower (take n buf))) (λ _. Keeps t u)
chunk_written (Ok n) t u digits bytes buf k is coded count h =
    let len = ap length is in
    let fits : n ≤ length (take k buf) = omega (arith, count, ap length coded, length-encode_with lower_digits bytes, len) in
    let first : take n bytes ≡ take n buf = ap (take n) is ∙ sym (take-append-le n (take k buf) (drop k buf) fits) ∙ ap (take n) (take-append-drop k buf) in
    subst (Appends t u) (ap (take (n + n)) coded ∙ encode_take lower_digits bytes n ∙ ap encode_lower first) h
chunk_written (Err e) t u digits bytes buf k is coded count h = h

keeps_grown : (a b c : Option (List ℕ)) (bs : List ℕ) → Keeps a b → Appends b c bs → Appends a c bs
keeps_grown None b c bs p q = tt
keeps_grown (Some x) None c bs p q = absurd p
keeps_grown (Some x) (Some y) None bs p q = absurd q
keeps_grown (Some x) (Some y) (Some z) bs p q = q ∙ ap (λ l. l ++ bs) p

-- what was written as digits are the bytes
pub bytes_written : {E : Type 0} (r : Result ℕ E) (a b c : Option (List ℕ)) (buf : List ℕ) → IsBytes buf → Keeps a b
    → MatchResult r (λ n. Appends b c (encode_lower (take n buf))) (λ _. Keeps b c) → WriteAppends (written_bytes a) (written_bytes c) r buf
bytes_written (Ok n) a b c buf h p q = written_more a c (take n buf) (bytes_taken n buf h) (keeps_grown a b c (encode_lower (take n buf)) p q)
bytes_written (Err e) a b c buf h p q = written_keeps a c (Keeps-trans a b c p q)

-- a line was ended, no digit being due
pub line_ended : (due : Option ℕ) (a b c : Option (List ℕ)) → due ≡ None → Appends a b (10 ∷ []) → Keeps b c → Keeps (written_bytes (append_known a (due_digits due))) (written_bytes (append_known c (due_digits due)))
line_ended None a b c e p q =
    let line : Keeps (written_bytes a) (written_bytes c) = written_line a c (Appends-kept a b c (10 ∷ []) p q) in
    let after : Keeps (written_bytes a) (written_bytes (append_known c [])) = subst (λ (x : Option (List ℕ)). Keeps (written_bytes a) (written_bytes x)) (sym (due_none c)) line in
    subst (λ (x : Option (List ℕ)). Keeps (written_bytes x) (written_bytes (append_known c []))) (sym (due_none a)) after
line_ended (Some d) a b c e p q = cc
