-- Lemmas on lines of hex digits.
use Rattle.std.proofs.Common.{◌≡◌, ℕ, suc, ◌+◌, ◌<◌, ◌≤◌, Bool, true, false, ◌||◌, List, [], ◌∷◌, ◌++◌, length, take, drop, get_or, refl, sym, ap, ◌∙◌, append_assoc, append-nil, arith, Option, Some, None, take-append-drop, drop-cons, length-append}
use Rattle.std.proofs.lemmas.List.{length-take-le}
use Rattle.std.proofs.lemmas.List.Folds.{list_any-append}
use Rattle.rs_program_pipe.specs.Digits.{bytes_of_line}
use Rattle.rs_program_pipe.specs.Lines.{is_line_feed, has_line_feed, lines_of, bytes_before, bytes_of_lines, next_line, first_not_hex, not_hex_from, IsLineEnd}
use Rattle.rs_program_pipe.specs.Coming.{Coming, coming}

-- the test on the first byte, and on the others
or_false : (a b : Bool) → (a || b) ≡ false → (a ≡ false) × (b ≡ false)
or_false true b h = cc
or_false false b h = (refl, h)

-- a line and its line feed come first
lines_of-feed : (line rest : List ℕ) → has_line_feed line ≡ false → lines_of (line ++ 10 ∷ rest) ≡ line ∷ lines_of rest
unfolding lines_of
lines_of-feed [] rest h = refl
lines_of-feed (b ∷ line) rest h =
    let both = or_false (is_line_feed b) (has_line_feed line) h in
    rw (both.0, lines_of-feed line rest both.1) refl

-- a text with no line feed is one line
pub lines_of-last : (line : List ℕ) → has_line_feed line ≡ false → lines_of line ≡ line ∷ []
unfolding lines_of
lines_of-last [] h = refl
lines_of-last (b ∷ line) h =
    let both = or_false (is_line_feed b) (has_line_feed line) h in
    rw (both.0, lines_of-last line both.1) refl

-- ---- the first line is taken

abbrev from_lines : ℕ → List (List ℕ) → Coming
from_lines n lines = record { bytes = bytes_of_lines lines; stop = not_hex_from n lines }

first_hex : (line : List ℕ) (lines : List (List ℕ)) (bs : List ℕ) (n : ℕ) → bytes_of_line line ≡ Some bs
    → (bs ++ bytes_of_lines lines ≡ bytes_of_lines (line ∷ lines)) × (not_hex_from (next_line n) lines ≡ not_hex_from n (line ∷ lines))
unfolding bytes_of_lines not_hex_from
first_hex line lines bs n e =
    (ap (λ o. bytes_before o (bytes_of_lines lines)) (sym e), ap (λ o. first_not_hex o n (not_hex_from (next_line n) lines)) (sym e))

first_bad : (line : List ℕ) (lines : List (List ℕ)) (n : ℕ) → bytes_of_line line ≡ None
    → ([] ≡ bytes_of_lines (line ∷ lines)) × (Some n ≡ not_hex_from n (line ∷ lines))
unfolding bytes_of_lines not_hex_from
first_bad line lines n e =
    (ap (λ o. bytes_before o (bytes_of_lines lines)) (sym e), ap (λ o. first_not_hex o n (not_hex_from (next_line n) lines)) (sym e))

same_coming : (b c : List ℕ) (s t : Option ℕ) → b ≡ c → s ≡ t → ◌≡◌ {A = Coming} (record { bytes = b; stop = s }) (record { bytes = c; stop = t })
same_coming b c s t e f = let made : List ℕ → Option ℕ → Coming = λ x y. record { bytes = x; stop = y } in ap (λ x. made x s) e ∙ ap (made c) f

-- a line that is hex
pub coming_line : (line rest bs : List ℕ) (n : ℕ) → has_line_feed line ≡ false → bytes_of_line line ≡ Some bs
    → coming None bs (next_line n) rest ≡ coming None [] n (line ++ 10 ∷ rest)
coming_line line rest bs n clean e =
    let first = first_hex line (lines_of rest) bs n e in
    same_coming _ _ _ _ first.0 first.1 ∙ ap (from_lines n) (sym (lines_of-feed line rest clean))

-- a line that is not hex
pub coming_bad_line : (line rest : List ℕ) (n : ℕ) → has_line_feed line ≡ false → bytes_of_line line ≡ None
    → coming (Some n) [] n (line ++ 10 ∷ rest) ≡ coming None [] n (line ++ 10 ∷ rest)
coming_bad_line line rest n clean e =
    let first = first_bad line (lines_of rest) n e in
    same_coming _ _ _ _ first.0 first.1 ∙ ap (from_lines n) (sym (lines_of-feed line rest clean))

-- with no text, the bytes that wait are all
pub coming_nil : (bs : List ℕ) (n : ℕ) → coming None bs n [] ≡ record { bytes = bs; stop = None }
unfolding lines_of bytes_of_lines not_hex_from
coming_nil bs n = same_coming _ _ _ _ (append-nil bs) refl

no_lines : (bs : List ℕ) (n : ℕ) → (bs ≡ bs ++ bytes_of_lines []) × (None ≡ not_hex_from n [])
unfolding bytes_of_lines not_hex_from
no_lines bs n = (sym (append-nil bs), refl)

pub coming_last : (line bs : List ℕ) (n m : ℕ) → has_line_feed line ≡ false → bytes_of_line line ≡ Some bs → coming None bs m [] ≡ coming None [] n line
coming_last line bs n m clean e =
    let first = first_hex line [] bs n e in
    let none = no_lines bs (next_line n) in
    coming_nil bs m ∙ same_coming _ _ _ _ (none.0 ∙ first.0) (none.1 ∙ first.1) ∙ ap (from_lines n) (sym (lines_of-last line clean))

pub coming_bad_last : (line : List ℕ) (n : ℕ) → has_line_feed line ≡ false → bytes_of_line line ≡ None → coming (Some n) [] n line ≡ coming None [] n line
coming_bad_last line n clean e =
    let first = first_bad line [] n e in
    same_coming _ _ _ _ first.0 first.1 ∙ ap (from_lines n) (sym (lines_of-last line clean))

-- ---- the end of a line

-- at a line feed behind text that has none
pub line_end_at : (text : List ℕ) (at : ℕ) → at < length text → get_or text at 0 ≡ 10 → has_line_feed (take at text) ≡ false → IsLineEnd text at
line_end_at text at within feed clean =
    let le : at ≤ length text = omega arith in
    record {
      line = take at text;
      rest = drop (suc at) text;
      split = sym (take-append-drop at text) ∙ ap (λ t. take at text ++ t) (drop-cons text at 0 within ∙ ap (λ b. b ∷ drop (suc at) text) feed);
      clean = clean;
      ends = length-take-le at text le;
    }

-- a line that ends behind text with no line feed
pub line_end_behind : (text : List ℕ) (scanned at : ℕ) → scanned ≤ length text → has_line_feed (take scanned text) ≡ false → IsLineEnd (drop scanned text) at → IsLineEnd text (scanned + at)
line_end_behind text scanned at within clean found =
    record {
      line = take scanned text ++ found.line;
      rest = found.rest;
      split = sym (take-append-drop scanned text) ∙ ap (λ t. take scanned text ++ t) found.split ∙ sym (append_assoc (take scanned text) found.line (10 ∷ found.rest));
      clean = list_any-append is_line_feed (take scanned text) found.line ∙ (rw (clean, found.clean) refl);
      ends = length-append (take scanned text) found.line ∙ (rw (length-take-le scanned text within, found.ends) refl);
    }

-- text with no line feed in two parts
pub no_line_feed : (text : List ℕ) (scanned : ℕ) → has_line_feed (take scanned text) ≡ false → has_line_feed (drop scanned text) ≡ false → has_line_feed text ≡ false
no_line_feed text scanned before after =
    ap has_line_feed (sym (take-append-drop scanned text)) ∙ list_any-append is_line_feed (take scanned text) (drop scanned text) ∙ (rw (before, after) refl)
