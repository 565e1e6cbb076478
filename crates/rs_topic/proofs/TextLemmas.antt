-- Reading a text as a test, and as a fact.
use Rattle.std.proofs.Common.{◌≡◌, ℕ, ◌<◌, ◌^◌, Bool, true, false, ◌&&◌, not, eqb, List, length, refl, sym}
use Rattle.std.specs.Prelude.{◌↔◌, IsTrue}
use Rattle.std.specs.List.{list_any}
use Rattle.std.specs.Str.{is_utf8, IsUtf8}
use Rattle.std.proofs.lemmas.Str.{IsUtf8-from_is_utf8, is_utf8-from_IsUtf8}
use Rattle.rs_topic.specs.Texts.{IsText, reads_as_text}

pub utf8_test : (bs : List ℕ) (r : Bool) → (IsTrue r ↔ IsUtf8 bs) → r ≡ is_utf8 bs
utf8_test bs true h = sym (is_utf8-from_IsUtf8 bs (h.0 refl))
utf8_test bs false h =
    let other : (b : Bool) → is_utf8 bs ≡ b → false ≡ b = λ b. elim b as (λ b. is_utf8 bs ≡ b → false ≡ b) [ true ↦ λ e. h.1 (IsUtf8-from_is_utf8 bs e) | false ↦ λ e. refl ] in
    other (is_utf8 bs) refl

both : (a b : Bool) → (a && b) ≡ true → (a ≡ true) × (b ≡ true)
both true b e = (refl, e)
both false b e = absurd cc

not_true : (b : Bool) → not b ≡ true → b ≡ false
not_true true e = absurd cc
not_true false e = refl

pub is_text_when_read : (t : List ℕ) → length t < 2 ^ 16 → reads_as_text t ≡ true → IsText t
is_text_when_read t lt e =
    let h = both (is_utf8 t) (not (list_any (λ b. eqb b 0) t)) e in
    record { short = lt; utf8 = h.0; no_nul = not_true _ h.1 }

pub reads_when_text : (t : List ℕ) → IsText t → reads_as_text t ≡ true
reads_when_text t h = rw (h.utf8, h.no_nul) refl
