-- Each step on the word of a history keeps its rule.
use Rattle.std.proofs.Common.{◌≡◌, ⊎_elim, ℕ, ◌+◌, ◌<◌, ◌≤◌, ◌==◌, Bool, true, false, List, [], ◌∷◌, ◌++◌, length, slice_set, refl, ap, sym, subst, ◌∙◌, arith, inl, le_trans, length-append, length-set, get_or-set_same, get_or-set_other, append-nil, None}
use Rattle.std.proofs.lemmas.Bool.{both_ways, cases_eq, cases_lt}
use Rattle.std.proofs.lemmas.Bool.Decides.{nat_tests}
use Rattle.std.proofs.lemmas.List.{get_or_append_left}
use prog.Atomic.{either}
use Rattle.logbook.specs.Pages.{Cell, cell, keeps, gives, adds, nib, no_nib, may_make, step, Moves, Goes}
use Rattle.rs_message.specs.declared.entry.Entry.{Entry}
use Rattle.rs_version.specs.HistoryRule.{AreRights, MakesNext, AddsOne, SeesAll, right_of}
use Rattle.rs_version.proofs.Prefixes.{prefix_whole}

abbrev pub shown : List Entry → List Entry
shown log = []

abbrev pub moved : List Entry → List Entry → ℕ → Type 0
moved xs ys n = Unit {0}

-- ---- the rights that were not used

-- each is to add a later entry than those that the history has
abbrev Unused : List Cell → List Entry → Type 0
Unused cells log = (key : ℕ) → key < length cells → (cell cells key).1 ≡ false → length log + 2 ≤ key

-- a cell that is set is at home
set_home : (cells : List Cell) (k n key : ℕ) → key < length cells → key ≡ k → (cell (slice_set cells k (n, true)) key).1 ≡ false → ⊥
set_home cells k n key there same away =
    let S : ℕ → Type 0 = λ j. (cell (slice_set cells k (n, true)) j).1 ≡ false in
    both_ways (cell (slice_set cells k (n, true)) k).1 (subst S same away) (ap (λ (c : Cell). c.1) (get_or-set_same cells k (n, true) (0, false) (omega (arith, there, same))))

-- and another is as before
set_other : (cells : List Cell) (k n key : ℕ) → (key ≡ k → ⊥) → (cell (slice_set cells k (n, true)) key).1 ≡ false → (cell cells key).1 ≡ false
set_other cells k n key other away = ap (λ (c : Cell). c.1) (sym (get_or-set_other cells k key (n, true) (0, false) other)) ∙ away

unused_set : (cells : List Cell) (log : List Entry) (k n : ℕ) → Unused cells log → Unused (slice_set cells k (n, true)) log
unused_set cells log k n unused key here away =
    let there : key < length cells = omega (arith, here, length-set cells k (n, true)) in
    ⊎_elim
    (λ (same : key ≡ k). absurd (set_home cells k n key there same away))
    (λ (other : key ≡ k → ⊥). unused key there (set_other cells k n key other away))
    (cases_eq key k)

unused_more : (cells : List Cell) (log : List Entry) → length log + 2 ≤ length cells → Unused cells log → Unused (cells ++ (0, false) ∷ []) log
unused_more cells log made unused key here away =
    ⊎_elim
    (λ (low : key < length cells). unused key low (ap (λ (c : Cell). c.1) (sym (get_or_append_left cells ((0, false) ∷ []) (0, false) key low)) ∙ away))
    (λ (high : length cells ≤ key). le_trans made high)
    (cases_lt key (length cells))

unused_entry : (cells : List Cell) (log : List Entry) (e : Entry) (k : ℕ) → k ≡ length log + 2 → Unused cells log → Unused (slice_set cells k (0, true)) (log ++ e ∷ [])
unused_entry cells log e k is unused key here away =
    let there : key < length cells = omega (arith, here, length-set cells k (0, true)) in
    ⊎_elim
    (λ (same : key ≡ k). absurd (set_home cells k 0 key there same away))
    (λ (other : key ≡ k → ⊥).
    let low : length log + 2 ≤ key = unused key there (set_other cells k 0 key other away) in
    ⊎_elim
    (λ (more : length log + 2 < key). omega (arith, more, length-append log (e ∷ [])))
    (λ (few : key ≤ length log + 2). absurd (other (omega (arith, low, few, is))))
    (cases_lt (length log + 2) key))
    (cases_eq key k)

-- ---- the rule

at_home : (b : Bool) → (b ≡ false → ⊥) → b ≡ true
at_home true never = refl
at_home false never = absurd (never refl)

-- the word is at home
home : (cells : List Cell) (log : List Entry) → AreRights cells log → (0 < length cells) × ((cell cells 0).1 ≡ true)
home cells log rights =
    let some : 0 < length cells = omega (arith, rights.made) in
    (some, at_home (cell cells 0).1 (λ away. let low = rights.unused 0 some away in omega (arith, low)))

-- the count is written as it was
count_again : (cells : List Cell) (log : List Entry) (n : ℕ) → n ≡ (cell cells 0).0 → AreRights cells log → AreRights (slice_set cells 0 (n, true)) log
count_again cells log n same rights =
    let some = (home cells log rights).0 in
    let long = length-set cells 0 (n, true) in
    let first : (cell (slice_set cells 0 (n, true)) 0).0 ≡ n = ap (λ (c : Cell). c.0) (get_or-set_same cells 0 (n, true) (0, false) some) in
    record {
      count = omega (arith, first, same, long, rights.count);
      made = omega (arith, long, rights.made);
      unused = unused_set cells log 0 n rights.unused;
    }

-- one more right is made
one_made : (cells : List Cell) (log : List Entry) (n : ℕ) → n ≡ (cell cells 0).0 + 1 → AreRights cells log → AreRights (slice_set cells 0 (n, true) ++ (0, false) ∷ []) log
one_made cells log n next rights =
    let cells' = slice_set cells 0 (n, true) in
    let some = (home cells log rights).0 in
    let long : length cells' ≡ length cells = length-set cells 0 (n, true) in
    let longer : length (cells' ++ (0, false) ∷ []) ≡ length cells' + 1 = length-append cells' ((0, false) ∷ []) in
    let first : (cell (cells' ++ (0, false) ∷ []) 0).0 ≡ n =
    ap (λ (c : Cell). c.0) (get_or_append_left cells' ((0, false) ∷ []) (0, false) 0 (omega (arith, some, long)) ∙ get_or-set_same cells 0 (n, true) (0, false) some) in
    record {
      count = omega (arith, first, next, long, longer, rights.count);
      made = omega (arith, long, longer, rights.made);
      unused = unused_more cells' log (omega (arith, long, rights.made)) (unused_set cells log 0 n rights.unused);
    }

-- the right to add the next entry is used
one_used : (cells : List Cell) (log : List Entry) (e : Entry) (key : ℕ) → key ≡ length log + 2 → key < length cells → AreRights cells log → AreRights (slice_set cells key (0, true)) (log ++ e ∷ [])
one_used cells log e key is here rights =
    let long = length-set cells key (0, true) in
    let first : (cell (slice_set cells key (0, true)) 0).0 ≡ (cell cells 0).0 =
    ap (λ (c : Cell). c.0) (get_or-set_other cells key 0 (0, true) (0, false) (λ same. omega (arith, same, is))) in
    record {
      count = omega (arith, first, long, rights.count);
      made = omega (arith, long, is, here, length-append log (e ∷ []));
      unused = unused_entry cells log e key is rights.unused;
    }

-- ---- the steps

is_old : (found old : ℕ) → (found == old) ≡ true → found ≡ old
is_old found old is = grind (arith, nat_tests)

not_old : (found old : ℕ) → (found == old) ≡ false → found ≡ old → ⊥
not_old found old is same = absurd (grind (arith, nat_tests))

counted : (found old new : ℕ) → new ≡ old + 1 → (found == old) ≡ true → either (found == old) new found ≡ found + 1
counted found old new next is = let here = is_old found old is in rw is (omega (arith, here, next))

not_counted : (found old new : ℕ) → (found == old) ≡ false → either (found == old) new found ≡ found
not_counted found old new is = rw is refl

makes_goes : (v : List Entry) (ask : Entry) (old new : ℕ) → new ≡ old + 1 → (cells : List Cell) (log : List Entry) → AreRights cells log → (b : Bool) → ((cell cells 0).0 == old) ≡ b
    → Goes AreRights shown moved 0 (v, (no_nib, None)) (λ n. either (n == old) new n) (MakesNext (step 0 old new ask) (v, (no_nib, None))) cells log
makes_goes v ask old new next cells log rights true is =
    let found = (cell cells 0).0 in
    let here : found ≡ old = is_old found old is in
    let long : length cells ≡ old + 2 = omega (arith, here, rights.count) in
    let P : List Entry → Type 0 = λ l. AreRights (slice_set cells 0 (either (found == old) new found, true) ++ (0, false) ∷ []) l in (
      adds,
      [],
      None,
      tt,
      subst P (sym (append-nil log)) (one_made cells log (either (found == old) new found) (counted found old new next is) rights),
      inl (refl, refl),
      λ same. ap (λ (k : ℕ). nib may_make k 0) long,
    )
makes_goes v ask old new next cells log rights false is =
    let found = (cell cells 0).0 in
    let P : List Entry → Type 0 = λ l. AreRights (slice_set cells 0 (either (found == old) new found, true)) l in (
      keeps,
      [],
      None,
      tt,
      subst P (sym (append-nil log)) (count_again cells log (either (found == old) new found) (not_counted found old new is) rights),
      inl (refl, refl),
      λ same. absurd (not_old found old is same),
    )

-- whatever the history is, the exchange makes the right that is expected to be next, or finds that another is
pub makes_moves : (v : List Entry) (ask : Entry) (old new : ℕ) → new ≡ old + 1
    → Moves AreRights shown moved 0 (v, (no_nib, None)) (λ n. either (n == old) new n) (MakesNext (step 0 old new ask) (v, (no_nib, None)))
makes_moves v ask old new next cells log rights pre away =
    let at = home cells log rights in
    (at.0, at.1, makes_goes v ask old new next cells log rights ((cell cells 0).0 == old) refl)

same_number : (n : ℕ) (b : Bool) → (n == 0) ≡ b → either b 0 n ≡ n
same_number n true is = sym (is_old n 0 is)
same_number n false is = refl

-- an exchange of 0 for 0 changes no number
unchanged : (n : ℕ) → either (n == 0) 0 n ≡ n
unchanged n = same_number n (n == 0) refl

-- With the right to add an entry behind all that was seen, the history is what was seen. The entry is added to that
pub adds_moves : (v : List Entry) (e : Entry) → Moves AreRights shown moved 0 (v, (right_of (length v), None)) (λ n. either (n == 0) 0 n) (AddsOne (step 0 0 0 e) (v, (right_of (length v), None)))
adds_moves v e cells log rights pre away =
    let at = home cells log rights in
    let found = (cell cells 0).0 in
    let n = either (found == 0) 0 found in
    let out = away refl in
    let few : length log + 2 ≤ length v + 2 = rights.unused (length v + 2) out.0 out.1 in
    let same : v ≡ log = prefix_whole v log pre (omega (arith, few)) in
    let key : length v + 2 ≡ length log + 2 = ap (λ (l : List Entry). length l + 2) same in
    let there : length v + 2 < length (slice_set cells 0 (n, true)) = omega (arith, out.0, length-set cells 0 (n, true)) in (
      at.0,
      at.1,
      (
        gives,
        e ∷ [],
        None,
        refl,
        one_used (slice_set cells 0 (n, true)) log e (length v + 2) key there (count_again cells log n (unchanged found) rights),
        inl (refl, refl),
        ap (λ (l : List Entry). l ++ e ∷ []) (sym same),
      ),
    )

-- with a right the history has no entry that it is to add, or a later one
pub sees_moves : (v : List Entry) (number : ℕ) (ask : Entry) → Moves AreRights shown moved 0 (v, (right_of number, None)) (λ n. either (n == 0) 0 n) (SeesAll (step 0 0 0 ask) (v, (right_of number, None)))
sees_moves v number ask cells log rights pre away =
    let at = home cells log rights in
    let found = (cell cells 0).0 in
    let n = either (found == 0) 0 found in
    let out = away refl in
    let few : length log + 2 ≤ number + 2 = rights.unused (number + 2) out.0 out.1 in
    let all = append-nil log in
    let P : List Entry → Type 0 = λ l. AreRights (slice_set cells 0 (n, true)) l in (
      at.0,
      at.1,
      (
        keeps,
        [],
        None,
        tt,
        subst P (sym all) (count_again cells log n (unchanged found) rights),
        inl (refl, refl),
        (refl, omega (arith, few, ap length all)),
      ),
    )
