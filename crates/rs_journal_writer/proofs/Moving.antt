-- Entries that go from a list to the writer, and are published.
use Rattle.std.proofs.Common.{◌≡◌, ◌⊎◌, inl, inr, ⊎_elim, ℕ, ◌+◌, ◌<◌, ◌≤◌, List, [], ◌∷◌, ◌++◌, drop, get_or, length, refl, sym, ap, subst, ◌∙◌, append_assoc, append-nil, length-append, arith}
use Rattle.rs_message.specs.declared.entry.Entry.{Entry}
use Rattle.rs_store.specs.History.{IsLegal, extended}
use Rattle.rs_store.proofs.Histories.{legal_front}
use Rattle.rs_version.specs.Writer.{Defers, Written, holds_back, kept_of, released, shows}
use Rattle.rs_version.specs.declared.fault.PutFault.{PutFault}
use Rattle.rs_version.specs.declared.fault.PutFault.TheVariants.{Full, Held, NoMemory, Stale}
use Rattle.rs_journal_writer.specs.State.{Moves}

pub front_is : {A : Type 0} (list : List A) (e : A) → 0 < length list → e ≡ get_or list 0 e → list ≡ e ∷ drop 1 list
front_is [] e some is = absurd (omega (arith, some))
front_is (x ∷ xs) e some is = ap (λ z. z ∷ xs) (sym is)

pub legal_first : (limit : ℕ) (kept list : List Entry) (e : Entry) → list ≡ e ∷ drop 1 list → IsLegal limit (kept ++ list) → IsLegal limit (extended kept e)
legal_first limit kept list e is legal =
    let whole : extended kept e ++ drop 1 list ≡ kept ++ list = append_assoc kept (e ∷ []) (drop 1 list) ∙ ap (λ l. kept ++ l) (sym is) in
    legal_front limit (extended kept e) (kept ++ list) (drop 1 list, whole) legal

pub moves_none : (w w' : Written) (list : List Entry) → w' ≡ w → Moves w list w' list
moves_none w w' list is =
    let P : Written → Type 0 = λ z. Moves w list z list in
    subst P (sym is) (record { whole = refl; more = ([], append-nil w.published) })

pub moves_released : (w w' : Written) (list : List Entry) → w' ≡ released w → Moves w list w' list
moves_released w w' list is =
    let P : Written → Type 0 = λ z. Moves w list z list in
    subst P (sym is) (record { whole = ap (λ l. l ++ list) (append-nil (kept_of w)); more = (w.held, refl) })

pub moves_shown : (w w' : Written) (list : List Entry) (e : Entry) → list ≡ e ∷ drop 1 list → w' ≡ shows (extended (kept_of w) e) → Moves w list w' (drop 1 list)
moves_shown w w' list e first is =
    let P : Written → Type 0 = λ z. Moves w list z (drop 1 list) in
    subst P (sym is) (record {
      whole = ap (λ l. l ++ drop 1 list) (append-nil (extended (kept_of w) e)) ∙ append_assoc (kept_of w) (e ∷ []) (drop 1 list) ∙ ap (λ l. kept_of w ++ l) (sym first);
      more = (w.held ++ e ∷ [], sym (append_assoc w.published w.held (e ∷ [])));
    })

pub moves_held : (w w' : Written) (list : List Entry) (e : Entry) → list ≡ e ∷ drop 1 list → w' ≡ holds_back (kept_of w) e → Moves w list w' (drop 1 list)
moves_held w w' list e first is =
    let P : Written → Type 0 = λ z. Moves w list z (drop 1 list) in
    subst P (sym is) (record {
      whole = append_assoc (kept_of w) (e ∷ []) (drop 1 list) ∙ ap (λ l. kept_of w ++ l) (sym first);
      more = (w.held, refl);
    })

pub moves_trans : (a b c : Written) (l m n : List Entry) → Moves a l b m → Moves b m c n → Moves a l c n
moves_trans a b c l m n s t = record {
  whole = t.whole ∙ s.whole;
  more = (s.more.0 ++ t.more.0, sym (append_assoc a.published s.more.0 t.more.0) ∙ ap (λ p. p ++ t.more.0) s.more.1 ∙ t.more.1);
}

-- what a refused publish leaves of an entry that the writer does not hold
pub moves_refused : (w w' : Written) (list : List Entry) (e : Entry) (f : PutFault) → (f ≡ Held → ⊥) → Defers (released w) e f w' ⊎ ((f ≡ NoMemory) × (w' ≡ w)) → Moves w list w' list
moves_refused w w' list e Stale differs r = ⊎_elim (λ d. absurd d) (λ k. moves_none w w' list k.1) r
moves_refused w w' list e Full differs r = ⊎_elim (λ d. absurd d) (λ k. moves_none w w' list k.1) r
moves_refused w w' list e NoMemory differs r = ⊎_elim (λ d. moves_released w w' list d) (λ k. moves_none w w' list k.1) r
moves_refused w w' list e Held differs r = absurd (differs refl)

pub held_then : (w w' : Written) (e : Entry) → Defers (released w) e Held w' ⊎ ((Held ≡ NoMemory) × (w' ≡ w)) → w' ≡ holds_back (kept_of w) e
held_then w w' e r = ⊎_elim (λ d. d) (λ k. absurd (cc (k.0))) r

pub some_long : {A : Type 0} (list : List A) → (list ≡ [] → ⊥) → 0 < length list
some_long [] some = absurd (some refl)
some_long (x ∷ xs) some = omega arith

-- no more entries are held then than before
pub moves_few : (w w' : Written) (list list' : List Entry) → Moves w list w' list' → length w'.held + length list' ≤ length w.held + length list
moves_few w w' list list' m =
    let n = ap length m.whole in
    let p = ap length m.more.1 in
    let a = length-append (kept_of w') list' in
    let b = length-append w'.published w'.held in
    let c = length-append (kept_of w) list in
    let d = length-append w.published w.held in
    let q = length-append w.published m.more.0 in
    omega (arith, n, p, a, b, c, d, q)

pub deferred_left : (w w' : Written) (e : Entry) (f : PutFault) → Defers w e f w' → (w' ≡ w) ⊎ (w' ≡ holds_back w.published e)
deferred_left w w' e Stale d = absurd d
deferred_left w w' e Full d = absurd d
deferred_left w w' e NoMemory d = inl d
deferred_left w w' e Held d = inr d

-- the one entry is left, with the writer or in the list
pub left_one : (w w' : Written) (list list' : List Entry) (e : Entry) → w.held ≡ [] → list ≡ e ∷ [] → length w'.held + length list' ≤ length w.held + length list
    → (list' ≡ list) ⊎ ((length w'.held ≡ 1) × (length list' + 1 ≡ length list)) → length w'.held + length list' ≡ 1
left_one w w' list list' e held one few left =
    let a = ap length held in
    let b = ap length one in
    ⊎_elim (λ same. let n = ap length same in omega (arith, a, b, n, few)) (λ t. omega (arith, b, t.0, t.1)) left

-- the first of the entries that wait is held
pub left_some : (w' : Written) (list list' : List Entry) (n n' : ℕ) → length list ≡ n → n' + 1 ≡ n → (list' ≡ list) ⊎ ((length w'.held ≡ 1) × (length list' + 1 ≡ length list))
    → (n' ≤ length list') × (n' < length w'.held + length list')
left_some w' list list' n n' long is left =
    ⊎_elim (λ same. let a = ap length same in (omega (arith, a, long, is), omega (arith, a, long, is))) (λ t. (omega (arith, t.1, long, is), omega (arith, t.0, t.1, long, is))) left
