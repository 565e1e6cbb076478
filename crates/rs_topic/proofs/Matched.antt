-- Fitting and matching, as tests and as facts.
use Rattle.std.proofs.Common.{◌≡◌, ℕ, Bool, true, false, not, ◌&&◌, ◌||◌, ◌⊎◌, inl, inr, ⊎_elim, List, [], ◌∷◌, refl, sym, ◌∙◌, subst}
use Rattle.std.specs.Prelude.{◌↔◌, IsTrue}
use Rattle.std.specs.Bool.{Decides, one_answer}
use Rattle.std.specs.Str.{bytes_eq}
use Rattle.std.proofs.lemmas.Bool.Decides.{Decides-eqb}
use Rattle.std.proofs.lemmas.Slice.Eq.{bytes_eq-Decides}
use Rattle.rs_topic.specs.Topics.{plus, hash, dollar, levels, is_end}
use Rattle.rs_topic.specs.Matching.{Fits, ended, all_below, any_level, same_level, BeginsWild, BeginsWithDollar, Matches, fits, is_wild, begins_with_dollar, matches}

both : (a b : Bool) → (a && b) ≡ true → (a ≡ true) × (b ≡ true)
both true b e = (refl, e)
both false b e = absurd (cc (e))

bytes_same : (level : List ℕ) → bytes_eq level level ≡ true
bytes_same level = (bytes_eq-Decides level level).1 refl

or_right : (a b : Bool) → b ≡ true → (a || b) ≡ true
or_right true b e = refl
or_right false b e = e

hash_below : (wanted : List ℕ) (more name : List (List ℕ)) → (bytes_eq wanted (hash ∷ []) && is_end more) ≡ true → Fits (wanted ∷ more) name
hash_below wanted [] name e =
    let is : wanted ≡ hash ∷ [] = (bytes_eq-Decides wanted (hash ∷ [])).0 (both (bytes_eq wanted (hash ∷ [])) true e).0 in
    let P : List ℕ → Type 0 = λ w. Fits (w ∷ []) name in
    subst P (sym is) all_below
hash_below wanted (q ∷ qs) name e = absurd (cc ((both (bytes_eq wanted (hash ∷ [])) false e).1))

pub fits_from_test : (filter name : List (List ℕ)) → fits filter name ≡ true → Fits filter name
fits_from_test [] [] e = ended
fits_from_test [] (level ∷ below) e = absurd (cc (e))
fits_from_test (wanted ∷ more) [] e = hash_below wanted more [] e
fits_from_test (wanted ∷ more) (level ∷ below) e = at (bytes_eq wanted (hash ∷ []) && is_end more) refl (bytes_eq wanted (plus ∷ [])) refl (bytes_eq wanted level) refl (λ k. fits_from_test more below k)
  where
    at : (a : Bool) → (bytes_eq wanted (hash ∷ []) && is_end more) ≡ a → (b : Bool) → bytes_eq wanted (plus ∷ []) ≡ b → (c : Bool) → bytes_eq wanted level ≡ c → (fits more below ≡ true → Fits more below) → Fits (wanted ∷ more) (level ∷ below)
    at true p b q c r f = hash_below wanted more (level ∷ below) p
    at false p true q c r f =
        let P : List ℕ → Type 0 = λ w. Fits (w ∷ more) (level ∷ below) in
        subst P (sym ((bytes_eq-Decides wanted (plus ∷ [])).0 q)) (any_level (f (rw (p, q) at e)))
    at false p false q true r f =
        let P : List ℕ → Type 0 = λ w. Fits (w ∷ more) (level ∷ below) in
        subst P (sym ((bytes_eq-Decides wanted level).0 r)) (same_level (f (rw (p, q, r) at e)))
    at false p false q false r f = absurd (cc (rw (p, q, r) at e))

pub test_from_fits : (filter name : List (List ℕ)) → Fits filter name → fits filter name ≡ true
test_from_fits filter name ended = refl
test_from_fits filter [] all_below = refl
test_from_fits filter (level ∷ below) all_below = refl
test_from_fits ((wanted) ∷ more) (level ∷ below) (any_level h) = or_right (bytes_eq wanted (hash ∷ []) && is_end more) (fits more below) (test_from_fits more below h)
test_from_fits (wanted ∷ more) (level ∷ below) (same_level h) =
    or_right (bytes_eq wanted (hash ∷ []) && is_end more) _ (rw (bytes_same wanted, or_right (bytes_eq wanted (plus ∷ [])) true refl) (test_from_fits more below h))

pub fits_decides : (filter name : List (List ℕ)) (r : Bool) → r ≡ fits filter name → IsTrue r ↔ Fits filter name
fits_decides filter name r e = ((λ h. fits_from_test filter name (sym e ∙ h)), (λ h. e ∙ test_from_fits filter name h))

-- ---- matching

either : (a b : Bool) → (a || b) ≡ true → (a ≡ true) ⊎ (b ≡ true)
either true b e = inl refl
either false b e = inr e

or_left : (a b : Bool) → a ≡ true → (a || b) ≡ true
or_left true b e = refl
or_left false b e = absurd cc

and_true : (a b : Bool) → a ≡ true → b ≡ true → (a && b) ≡ true
and_true true b e h = h
and_true false b e h = absurd cc

wild_is : (parts : List (List ℕ)) → (is_wild parts ≡ true → BeginsWild parts) × (BeginsWild parts → is_wild parts ≡ true)
wild_is [] = (λ e. absurd cc, λ h. absurd h)
wild_is (p ∷ ps) = (
  λ e. ⊎_elim (λ h. inl ((bytes_eq-Decides p (plus ∷ [])).0 h)) (λ h. inr ((bytes_eq-Decides p (hash ∷ [])).0 h)) (either (bytes_eq p (plus ∷ [])) (bytes_eq p (hash ∷ [])) e),
  λ w. ⊎_elim (λ h. or_left (bytes_eq p (plus ∷ [])) (bytes_eq p (hash ∷ [])) ((bytes_eq-Decides p (plus ∷ [])).1 h)) (λ h. or_right (bytes_eq p (plus ∷ [])) (bytes_eq p (hash ∷ [])) ((bytes_eq-Decides p (hash ∷ [])).1 h)) w,
)

dollar_is : (text : List ℕ) → (begins_with_dollar text ≡ true → BeginsWithDollar text) × (BeginsWithDollar text → begins_with_dollar text ≡ true)
dollar_is [] = (λ e. absurd cc, λ h. absurd h)
dollar_is (c ∷ cs) = Decides-eqb c dollar

neither : (a b : Bool) → not (a && b) ≡ true → a ≡ true → b ≡ true → ⊥
neither true true e x y = cc
neither true false e x y = cc
neither false b e x y = cc

not_both : (a b : Bool) → (a ≡ true → b ≡ true → ⊥) → not (a && b) ≡ true
not_both true true h = absurd (h refl refl)
not_both true false h = refl
not_both false b h = refl

pub Decides-matches : (filter topic : List ℕ) → Decides (matches filter topic) (Matches filter topic)
Decides-matches filter topic = (
  λ e. let h = both (fits (levels filter) (levels topic)) (not (is_wild (levels filter) && begins_with_dollar topic)) e in
      (fits_from_test (levels filter) (levels topic) h.0, λ w. neither (is_wild (levels filter)) (begins_with_dollar topic) h.1 ((wild_is (levels filter)).1 w.0) ((dollar_is topic).1 w.1)),
  λ m. and_true (fits (levels filter) (levels topic)) (not (is_wild (levels filter) && begins_with_dollar topic)) (test_from_fits (levels filter) (levels topic) m.0) (not_both (is_wild (levels filter)) (begins_with_dollar topic) (λ w d. m.1 ((wild_is (levels filter)).0 w, (dollar_is topic).0 d))),
)

pub matches_from_call : (filter topic : List ℕ) (r : Bool) → (IsTrue r ↔ Matches filter topic) → r ≡ matches filter topic
matches_from_call filter topic r h = one_answer r (matches filter topic) h (Decides-matches filter topic)
