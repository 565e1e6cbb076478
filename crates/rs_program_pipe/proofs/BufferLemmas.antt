-- Lemmas on the text that a reader of lines holds.
use Rattle.std.proofs.Common.{◌≡◌, ℕ, suc, ◌+◌, false, List, [], ◌∷◌, ◌++◌, length, take, drop, refl, sym, ap, subst, ◌∙◌, append_assoc, append-nil, arith, Option, Some, None}
use Rattle.std.proofs.Math.Seq.{take-append_seam}
use Rattle.rs_program_pipe.specs.Digits.{bytes_of_line}
use Rattle.rs_program_pipe.specs.Lines.{has_line_feed, next_line, IsLineEnd}
use Rattle.rs_program_pipe.specs.Coming.{IsOver, coming}
use Rattle.rs_program_pipe.specs.declared.digits.HexFault.{HexFault}
use Rattle.rs_program_pipe.specs.declared.digits.HexFault.TheVariants.{NotHex, NoMemory}
use Rattle.rs_program_pipe.specs.declared.line_buffer.LineBuffer.{LineBuffer}
use Rattle.rs_program_pipe.specs.Views.{coming_of}
use Rattle.rs_program_pipe.proofs.LineLemmas.{coming_line, coming_bad_line, coming_nil, coming_last, coming_bad_last}

-- ---- the first line of the text

drop_past : (line rest : List ℕ) (b : ℕ) → drop (length line + 1) (line ++ b ∷ rest) ≡ rest
drop_past [] rest b = refl
drop_past (c ∷ line) rest b = let more : length (c ∷ line) + 1 ≡ suc (length line + 1) = omega arith in rw more (drop_past line rest b)

first_line : (text : List ℕ) (end : ℕ) (at : IsLineEnd text end) → take end text ≡ at.line
first_line text end at = ap (λ k. take k text) (sym at.ends) ∙ ap (take (length at.line)) at.split ∙ take-append_seam at.line (10 ∷ at.rest)

after_line : (text : List ℕ) (end : ℕ) (at : IsLineEnd text end) → drop (end + 1) text ≡ at.rest
after_line text end at = ap (λ k. drop (k + 1) text) (sym at.ends) ∙ ap (drop (length at.line + 1)) at.split ∙ drop_past at.line at.rest 10

followed : (text more : List ℕ) (end : ℕ) (at : IsLineEnd text end) → text ++ more ≡ at.line ++ 10 ∷ (at.rest ++ more)
followed text more end at = ap (λ t. t ++ more) at.split ∙ append_assoc at.line (10 ∷ at.rest) more

-- the first line is taken
pub line_taken : (stop : Option ℕ) (before bytes text rest more : List ℕ) (n m end : ℕ) → stop ≡ None → before ≡ [] → IsLineEnd text end → bytes_of_line (take end text) ≡ Some bytes
    → m ≡ next_line n → rest ≡ drop (end + 1) text
    → coming stop bytes m (rest ++ more) ≡ coming stop before n (text ++ more)
line_taken stop before bytes text rest more n m end none empty at read counted left =
    let line : bytes_of_line at.line ≡ Some bytes = ap bytes_of_line (sym (first_line text end at)) ∙ read in
    let tail : rest ≡ at.rest = left ∙ after_line text end at in
    rw (none, empty, counted, tail, followed text more end at) (coming_line at.line (at.rest ++ more) bytes n at.clean line)

-- the last line is taken
pub last_taken : (stop : Option ℕ) (before bytes text left : List ℕ) (n m : ℕ) → stop ≡ None → before ≡ [] → has_line_feed text ≡ false → bytes_of_line text ≡ Some bytes → left ≡ []
    → coming stop bytes m (left ++ []) ≡ coming stop before n (text ++ [])
last_taken stop before bytes text left n m none empty clean read nothing = rw (none, empty, nothing, append-nil text) (coming_last text bytes n m clean read)

-- what is over once the last line was taken
pub last_over : (stop : Option ℕ) (bytes left : List ℕ) (m : ℕ) → stop ≡ None → bytes ≡ [] → left ≡ [] → IsOver (coming stop bytes m (left ++ []))
last_over stop bytes left m none empty nothing =
    let over : IsOver (record { bytes = []; stop = None }) = record { bytes = refl; stop = refl } in
    rw (none, empty, nothing) (subst IsOver (sym (coming_nil [] m)) over)

-- a line that is not hex stops the reader, and a refusal of memory changes nothing
pub line_stopped : (old new : LineBuffer) (fault : HexFault) (end : ℕ) (more : List ℕ) → old.not_hex ≡ None → old.bytes.items ≡ [] → IsLineEnd old.text.items end
    → (fault ≡ NotHex → bytes_of_line (take end old.text.items) ≡ None)
    → (fault ≡ NotHex → new ≡ record old { not_hex = Some old.line }) → (fault ≡ NoMemory → new ≡ old)
    → coming_of new more ≡ coming_of old more
line_stopped old new NotHex end more none empty at bad stopped same =
    let line : bytes_of_line at.line ≡ None = ap bytes_of_line (sym (first_line old.text.items end at)) ∙ bad refl in
    ap (λ b. coming_of b more) (stopped refl) ∙ (rw (none, empty, followed old.text.items more end at) (coming_bad_line at.line (at.rest ++ more) old.line at.clean line))
line_stopped old new NoMemory end more none empty at bad stopped same = ap (λ b. coming_of b more) (same refl)

pub last_stopped : (old new : LineBuffer) (fault : HexFault) → old.not_hex ≡ None → old.bytes.items ≡ [] → has_line_feed old.text.items ≡ false
    → (fault ≡ NotHex → bytes_of_line old.text.items ≡ None)
    → (fault ≡ NotHex → new ≡ record old { not_hex = Some old.line }) → (fault ≡ NoMemory → new ≡ old)
    → coming_of new [] ≡ coming_of old []
last_stopped old new NotHex none empty clean bad stopped same =
    ap (λ b. coming_of b []) (stopped refl) ∙ (rw (none, empty, append-nil old.text.items) (coming_bad_last old.text.items old.line clean (bad refl)))
last_stopped old new NoMemory none empty clean bad stopped same = ap (λ b. coming_of b []) (same refl)
