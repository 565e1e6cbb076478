-- A refusal of a writer that may hold many entries, and that of one that holds at most one.
use Rattle.std.proofs.Common.{Result, Ok, Err, IfErr, ◌≡◌, ℕ, ◌+◌, ◌≤◌, List, [], ◌∷◌, ◌++◌, length, ◌⊎◌, inl, inr, ⊎_elim, subst, refl, sym, ◌∙◌, ap, arith, append-nil, append_assoc, length-append}
use Rattle.std.proofs.lemmas.List.{append_cancel_left}
use mathlib.Core.List.{IsPrefix}
use Rattle.rs_message.specs.declared.entry.Entry.{Entry}
use Rattle.rs_store.specs.History.{cleaned, extended, sweep_after}
use Rattle.rs_store.proofs.Histories.{snoc_splits}
use Rattle.rs_version.specs.declared.fault.PutFault.{PutFault}
use Rattle.rs_version.specs.declared.fault.PutFault.TheVariants.{Full, Held, NoMemory, Stale}
use Rattle.rs_version.specs.Writer.{IsHeldBehind, IsReleasedInPart, OneHeld, Refuses, RefusesOf, Written, holds_back, kept_of}

-- ---- what the writer of versions says, as any writer says it

unchanged : (w w' : Written) → (w.held ≡ [] → ⊥) → w' ≡ w → (w'.held ≡ [] → ⊥) × IsReleasedInPart w w'
unchanged w w' some same =
    let P : Written → Type 0 = λ z. (z.held ≡ [] → ⊥) × IsReleasedInPart w z in
    subst P (sym same) (some, (refl, ([], append-nil w.published)))

held_behind : (list : List Entry) (w w' : Written) (e : Entry) → IsPrefix w.published list → w' ≡ holds_back list e → IsHeldBehind list w e w'
held_behind list w w' e begins is =
    let P : Written → Type 0 = λ z. IsHeldBehind list w e z in
    subst P (sym is) (refl, begins, λ none. absurd (cc (none)))

pub refuses_of : (limit : ℕ) (w w' : Written) (e : Entry) (f : PutFault) → Refuses limit w e f w' → RefusesOf limit w e f w'
refuses_of limit w w' e Stale r = r
refuses_of limit w w' e Full r = r
refuses_of limit w w' e NoMemory r = ⊎_elim (λ a. inl a) (λ b. ⊎_elim (λ c. inr (inl c)) (λ d. inr (inr (unchanged w w' d.0 d.1))) b) r
refuses_of limit w w' e Held r = ⊎_elim
    (λ a. inl (a.0, held_behind (kept_of w) w w' e (w.held, refl) a.1))
    (λ b.
    let sweep = sweep_after b.0.message.received (kept_of w) in
    inr (b.0, held_behind (cleaned b.0.message.received (kept_of w)) w w' e (w.held ++ sweep ∷ [], sym (append_assoc w.published w.held (sweep ∷ []))) b.1))
    r

pub refused_of : {T : Type 0} (r : Result T PutFault) (limit : ℕ) (w w' : Written) (e : Entry) → IfErr r (λ f. Refuses limit w e f w') → IfErr r (λ f. RefusesOf limit w e f w')
refused_of (Ok t) limit w w' e refuses = tt
refused_of (Err f) limit w w' e refuses = refuses_of limit w w' e f refuses

-- ---- and back, if at most one entry is held

written_is : (w w' : Written) → w'.published ≡ w.published → w'.held ≡ w.held → w' ≡ w
written_is w w' published held =
    let W : List Entry → List Entry → Written = λ p h. record { published = p; held = h } in
    ap (λ p. W p w'.held) published ∙ ap (λ h. W w.published h) held

none_of : (t h : List Entry) (all : List Entry) → t ++ h ≡ all → length all ≤ 1 → (h ≡ [] → ⊥) → t ≡ []
none_of [] h all is few some = refl
none_of (x ∷ t) [] all is few some = absurd (some refl)
none_of (x ∷ t) (y ∷ h) all is few some =
    let n = ap length is in
    let m = length-append t (y ∷ h) in
    absurd (omega (arith, n, m, few))

as_before : (w w' : Written) → length w.held ≤ 1 → (w'.held ≡ [] → ⊥) → IsReleasedInPart w w' → (w.held ≡ [] → ⊥) × (w' ≡ w)
as_before w w' few some part =
    let t = part.1.0 in
    let whole : w.published ++ (t ++ w'.held) ≡ w.published ++ w.held = sym (append_assoc w.published t w'.held) ∙ (ap (λ l. l ++ w'.held) part.1.1 ∙ part.0) in
    let rest : t ++ w'.held ≡ w.held = append_cancel_left w.published (t ++ w'.held) w.held whole in
    let none = none_of t w'.held w.held rest few some in
    let held : w'.held ≡ w.held = ap (λ l. l ++ w'.held) (sym none) ∙ rest in
    let published : w'.published ≡ w.published = sym part.1.1 ∙ (ap (λ l. w.published ++ l) none ∙ append-nil w.published) in
    ((λ is. some (held ∙ is)), written_is w w' published held)

last_is : (list : List Entry) (w' : Written) (e : Entry) (held : List Entry) → w'.held ≡ held → length held ≤ 1 → (held ≡ [] → ⊥) → kept_of w' ≡ extended list e → w' ≡ holds_back list e
last_is list w' e [] is few some kept = absurd (some refl)
last_is list w' e (x ∷ y ∷ more) is few some kept = absurd (omega (arith, few))
last_is list w' e (x ∷ []) is few some kept =
    let whole : w'.published ++ x ∷ [] ≡ list ++ e ∷ [] = ap (λ l. w'.published ++ l) (sym is) ∙ kept in
    ⊎_elim
    (λ a. written_is (holds_back list e) w' a.0 (is ∙ ap (λ (z : Entry). z ∷ []) a.1))
    (λ b. let n = ap length b.2 in let m = length-append b.0 (x ∷ []) in absurd (omega (arith, n, m)))
    (snoc_splits w'.published list [] x e whole)

pub one_held : OneHeld
one_held limit w w' e Stale few few' r = r
one_held limit w w' e Full few few' r = r
one_held limit w w' e NoMemory few few' r = ⊎_elim (λ a. inl a) (λ b. ⊎_elim (λ c. inr (inl c)) (λ d. inr (inr (as_before w w' few d.0 d.1))) b) r
one_held limit w w' e Held few few' r = ⊎_elim
    (λ a. inl (a.0, last_is (kept_of w) w' e w'.held refl few' a.1.2 a.1.0))
    (λ b. inr (b.0, last_is (cleaned b.0.message.received (kept_of w)) w' e w'.held refl few' b.1.2 b.1.0))
    r
