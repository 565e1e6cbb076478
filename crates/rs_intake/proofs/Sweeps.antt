-- What the writer keeps against what it took, with the Sweeps among it.
use Rattle.std.proofs.Common.{◌≡◌, ◌==◌, ℕ, ◌+◌, ◌<◌, Bool, true, false, not, cond, List, [], ◌∷◌, ◌++◌, max, fold, map, length, inl, inr, refl, sym, ap, subst, ◌∙◌, ⊎_elim, append_assoc, length-append, arith}
use Rattle.std.specs.List.{AllByRecursion, filter}
use Rattle.std.specs.List.Sorted.{IsStrictlySortedBy}
use Rattle.std.specs.Ordering.{nat_cmp}
use Rattle.std.specs.Prelude.{Contains}
use Rattle.std.proofs.Math.Nat.{eq-zero-or-pos}
use Rattle.std.proofs.lemmas.List.{append-nil}
use Rattle.std.proofs.lemmas.List.Elements.{Contains-append_left, Contains-append_right, filter-append}
use Rattle.std.proofs.lemmas.Bool.Decides.{nat_tests}
use Rattle.rs_message.specs.Messages.{is_sweep}
use Rattle.rs_message.specs.declared.entry.Entry.{Entry}
use Rattle.rs_store.specs.Adding.{Adds}
use Rattle.rs_store.specs.History.{IsLegal, NeedsSweepAfter, SerialsRise, cleaned, extended, last_serial, serials_of, sweep_after}
use Rattle.rs_store.proofs.Histories.{last_is_above, legal_front, serials_of-append, serials_rise_more}
use Rattle.rs_store.proofs.Needed.{all_needed, needed_cleaned, needed_more, needed_weaker}
use Rattle.rs_version.specs.Writer.{RefusesOf, Written, kept_of, released, shows}
use Rattle.rs_version.specs.declared.fault.PutFault.TheVariants.{Held, NoMemory}
use Rattle.rs_intake_queue.specs.Parts.{IsPart}
use Rattle.rs_intake_queue.specs.QueueRule.{of_place}
use Rattle.rs_intake_line.specs.Sweeps.{AreForEntries, IsKeptFrom, IsSweptAtMost, without_sweeps}
use Rattle.rs_intake_queue.proofs.Parts.{part_both, part_rises, part_skip}

-- ---- without the Sweeps

pub without_more : (history : List Entry) (e : Entry) → is_sweep e.operation ≡ false → without_sweeps (extended history e) ≡ without_sweeps history ++ e ∷ []
without_more history e plain = filter-append (λ (z : Entry). not (is_sweep z.operation)) history (e ∷ []) ∙ ap (λ l. without_sweeps history ++ l) (rw plain refl)

pub without_cleaned : (moment : ℕ) (history : List Entry) → without_sweeps (cleaned moment history) ≡ without_sweeps history
without_cleaned moment history =
    let sweep = sweep_after moment history in
    filter-append (λ (z : Entry). not (is_sweep z.operation)) history (sweep ∷ []) ∙ append-nil (without_sweeps history)

-- a place that is not the writer's has the same serials
same_serials : (place : ℕ) → 0 < place → (kept : List Entry) → AllByRecursion (λ e. is_sweep e.operation ≡ true → e.origin.place ≡ 0) kept → serials_of place (without_sweeps kept) ≡ serials_of place kept
same_serials place some [] a = refl
same_serials place some (e ∷ es) a = at (is_sweep e.operation) refl (same_serials place some es a.1)
  where
    here : Entry → Bool
    here z = z.origin.place == place

    serial : Entry → ℕ
    serial z = z.origin.serial

    same : (b : Bool) → serials_of place (without_sweeps es) ≡ serials_of place es
        → map serial (cond b (e ∷ filter here (without_sweeps es)) (filter here (without_sweeps es))) ≡ map serial (cond b (e ∷ filter here es) (filter here es))
    same true more = ap (λ l. e.origin.serial ∷ l) more
    same false more = more

    at : (b : Bool) → is_sweep e.operation ≡ b → serials_of place (without_sweeps es) ≡ serials_of place es → serials_of place (without_sweeps (e ∷ es)) ≡ serials_of place (e ∷ es)
    at false is more = rw is (same (e.origin.place == place) more)
    at true is more =
        let zero : e.origin.place ≡ 0 = a.0 is in
        let other : (e.origin.place == place) ≡ false = grind (arith, nat_tests) in
        rw (is, other) more

-- ---- what is kept against the entries that were taken

among_more : (entries : List Entry) (entry e : Entry) → Contains entries e → Contains (entries ++ entry ∷ []) e
among_more entries entry e there = Contains-append_left entries (entry ∷ []) e there

sweeps_more : (limit : ℕ) (entries kept : List Entry) (entry : Entry) → AreForEntries limit entries kept → AreForEntries limit (entries ++ entry ∷ []) kept
sweeps_more limit entries kept entry a = record { needed = needed_weaker limit (Contains entries) (Contains (entries ++ entry ∷ [])) kept (among_more entries entry) a.needed }

sweeps_with_entry : (limit : ℕ) (entries kept : List Entry) (entry : Entry) → is_sweep entry.operation ≡ false → AreForEntries limit entries kept → AreForEntries limit entries (extended kept entry)
sweeps_with_entry limit entries kept entry plain a = record { needed = needed_more limit (Contains entries) kept entry plain a.needed }

last_entry : (entries : List Entry) (entry : Entry) → Contains (entries ++ entry ∷ []) entry
last_entry entries entry = Contains-append_right entries (entry ∷ []) entry (0, omega arith, refl)

sweeps_cleaned : (limit : ℕ) (entries kept : List Entry) (entry : Entry) → AreForEntries limit entries kept → (s : NeedsSweepAfter limit kept entry) → AreForEntries limit (entries ++ entry ∷ []) (cleaned s.message.received kept)
sweeps_cleaned limit entries kept entry a s = record { needed = needed_cleaned limit (Contains (entries ++ entry ∷ [])) kept entry (last_entry entries entry) s (sweeps_more limit entries kept entry a).needed }

-- the same of the list after the entry, and after one that is not kept
pub sweeps_entry : (limit : ℕ) (entries kept kept' : List Entry) (entry : Entry) → AreForEntries limit entries kept → is_sweep entry.operation ≡ false → Adds limit kept entry (λ list. kept' ≡ list) → AreForEntries limit (entries ++ entry ∷ []) kept'
sweeps_entry limit entries kept kept' entry a plain (inl adds) =
    let P : List Entry → Type 0 = λ l. AreForEntries limit (entries ++ entry ∷ []) l in
    subst P (sym adds.1) (sweeps_with_entry limit (entries ++ entry ∷ []) kept entry plain (sweeps_more limit entries kept entry a))
sweeps_entry limit entries kept kept' entry a plain (inr adds) =
    let P : List Entry → Type 0 = λ l. AreForEntries limit (entries ++ entry ∷ []) l in
    subst P (sym adds.1) (sweeps_with_entry limit (entries ++ entry ∷ []) (cleaned adds.0.message.received kept) entry plain (sweeps_cleaned limit entries kept entry a adds.0))

pub sweeps_refused : (limit : ℕ) (entries kept kept' : List Entry) (entry : Entry) → AreForEntries limit entries kept → IsSweptAtMost limit kept entry kept' → AreForEntries limit (entries ++ entry ∷ []) kept'
sweeps_refused limit entries kept kept' entry a (inl same) =
    let P : List Entry → Type 0 = λ l. AreForEntries limit (entries ++ entry ∷ []) l in
    subst P (sym same) (sweeps_more limit entries kept entry a)
sweeps_refused limit entries kept kept' entry a (inr swept) =
    let P : List Entry → Type 0 = λ l. AreForEntries limit (entries ++ entry ∷ []) l in
    subst P (sym swept.1) (sweeps_cleaned limit entries kept entry a swept.0)

-- an entry whose serial rises among the entries rises among what is kept
pub entry_rises : (limit : ℕ) (entries kept : List Entry) (entry : Entry) → IsKeptFrom limit entries kept → 0 < entry.origin.place → 0 < entry.origin.serial → SerialsRise (entries ++ entry ∷ []) → SerialsRise (extended kept entry)
entry_rises limit entries kept entry s place serial rises =
    let part : SerialsRise (without_sweeps kept ++ entry ∷ []) = part_rises (without_sweeps kept ++ entry ∷ []) (entries ++ entry ∷ []) (part_both (without_sweeps kept) entries entry s.part) rises in
    let above : last_serial entry.origin.place (without_sweeps kept) < entry.origin.serial = last_is_above (without_sweeps kept) entry serial part in
    let zeros = all_needed limit (Contains entries) (λ e. e.origin.place ≡ 0) (λ history moment. refl) [] kept s.sweeps.needed in
    let same : last_serial entry.origin.place (without_sweeps kept) ≡ last_serial entry.origin.place kept = ap (fold max 0) (same_serials entry.origin.place place kept zeros) in
    serials_rise_more kept entry s.rises (omega (arith, above, same))

-- what is kept from the entries, after one more
abbrev pub OneMore : ℕ → List Entry → List Entry → List Entry → Type 0
OneMore limit entries kept kept' = IsKeptFrom limit entries kept' × (length (without_sweeps kept') ≡ length (without_sweeps kept) + 1)

pub kept_from_entry : (limit : ℕ) (entries kept kept' : List Entry) (entry : Entry) → IsKeptFrom limit entries kept → is_sweep entry.operation ≡ false → Adds limit kept entry (λ list. kept' ≡ list) → OneMore limit (entries ++ entry ∷ []) kept kept'
kept_from_entry limit entries kept kept' entry s plain (inl a) =
    let without = without_more kept entry plain in
    let P : List Entry → Type 0 = λ l. OneMore limit (entries ++ entry ∷ []) kept l in
    let Q : List Entry → Type 0 = λ l. IsPart l (entries ++ entry ∷ []) in
    subst P (sym a.1) (
      record {
        part = subst Q (sym without) (part_both (without_sweeps kept) entries entry s.part);
        sweeps = sweeps_entry limit entries kept (extended kept entry) entry s.sweeps plain (inl (a.0, refl));
        rises = a.0.rises;
      },
      ap length without ∙ length-append (without_sweeps kept) (entry ∷ []),
    )
kept_from_entry limit entries kept kept' entry s plain (inr a) =
    let clean = cleaned a.0.message.received kept in
    let without : without_sweeps (extended clean entry) ≡ without_sweeps kept ++ entry ∷ [] = without_more clean entry plain ∙ ap (λ l. l ++ entry ∷ []) (without_cleaned a.0.message.received kept) in
    let P : List Entry → Type 0 = λ l. OneMore limit (entries ++ entry ∷ []) kept l in
    let Q : List Entry → Type 0 = λ l. IsPart l (entries ++ entry ∷ []) in
    subst P (sym a.1) (
      record {
        part = subst Q (sym without) (part_both (without_sweeps kept) entries entry s.part);
        sweeps = sweeps_entry limit entries kept (extended clean entry) entry s.sweeps plain (inr (a.0, refl));
        rises = a.0.legal.rises;
      },
      ap length without ∙ length-append (without_sweeps kept) (entry ∷ []),
    )

-- and after one that is not kept
abbrev pub NoMore : ℕ → List Entry → List Entry → List Entry → Type 0
NoMore limit entries kept kept' = IsKeptFrom limit entries kept' × (length (without_sweeps kept') ≡ length (without_sweeps kept))

pub kept_from_refused : (limit : ℕ) (entries kept kept' : List Entry) (entry : Entry) → IsKeptFrom limit entries kept → IsSweptAtMost limit kept entry kept' → NoMore limit (entries ++ entry ∷ []) kept kept'
kept_from_refused limit entries kept kept' entry s (inl same) =
    let P : List Entry → Type 0 = λ l. NoMore limit (entries ++ entry ∷ []) kept l in
    subst P (sym same) (
      record {
        part = part_skip (without_sweeps kept) entries entry s.part;
        sweeps = sweeps_more limit entries kept entry s.sweeps;
        rises = s.rises;
      },
      refl,
    )
kept_from_refused limit entries kept kept' entry s (inr a) =
    let m = a.0.message.received in
    let without = without_cleaned m kept in
    let clean : IsLegal limit (cleaned m kept) = legal_front limit (cleaned m kept) (extended (cleaned m kept) entry) (entry ∷ [], refl) a.0.legal in
    let P : List Entry → Type 0 = λ l. NoMore limit (entries ++ entry ∷ []) kept l in
    let Q : List Entry → Type 0 = λ l. IsPart l (entries ++ entry ∷ []) in
    subst P (sym a.1) (
      record {
        part = subst Q (sym without) (part_skip (without_sweeps kept) entries entry s.part);
        sweeps = sweeps_cleaned limit entries kept entry s.sweeps a.0;
        rises = clean.rises;
      },
      ap length without,
    )

-- ---- what a put leaves

pub released_kept : (w w' : Written) → w' ≡ released w → kept_of w' ≡ kept_of w
released_kept w w' is = ap kept_of is ∙ append-nil (kept_of w)

pub adds_kept : (limit : ℕ) (history : List Entry) (e : Entry) (w : Written) → Adds limit history e (λ list. w ≡ shows list) → Adds limit history e (λ list. kept_of w ≡ list)
adds_kept limit history e w (inl a) = inl (a.0, ap kept_of a.1 ∙ append-nil (extended history e))
adds_kept limit history e w (inr a) = inr (a.0, ap kept_of a.1 ∙ append-nil (extended (cleaned a.0.message.received history) e))

pub held_kept : (limit : ℕ) (w : Written) (e : Entry) (w' : Written) → RefusesOf limit w e Held w' → Adds limit (kept_of w) e (λ list. kept_of w' ≡ list)
held_kept limit w e w' (inl r) = inl (r.0, r.1.0)
held_kept limit w e w' (inr r) = inr (r.0, r.1.0)

pub no_memory_kept : (limit : ℕ) (w : Written) (e : Entry) (w' : Written) → RefusesOf limit w e NoMemory w' → IsSweptAtMost limit (kept_of w) e (kept_of w')
no_memory_kept limit w e w' (inl r) = inl (released_kept w w' r.1)
no_memory_kept limit w e w' (inr (inl r)) = ⊎_elim
    (λ k. inl (released_kept w w' k))
    (λ t. ⊎_elim
    (λ k. inr (r.0, ap kept_of k))
    (λ k. inr (r.0, ap kept_of k ∙ append-nil (cleaned r.0.message.received (kept_of w))))
    t)
    r.1
no_memory_kept limit w e w' (inr (inr r)) = inl r.1.0

-- ---- all changes of a job

part_all : (xs ys zs : List Entry) → IsPart xs ys → IsPart (xs ++ zs) (ys ++ zs)
part_all xs ys [] part =
    let P : List Entry → Type 0 = λ l. IsPart l (ys ++ []) in
    let Q : List Entry → Type 0 = λ l. IsPart xs l in
    subst P (sym (append-nil xs)) (subst Q (sym (append-nil ys)) part)
part_all xs ys (z ∷ zs) part =
    let P : List Entry → Type 0 = λ l. IsPart l (ys ++ z ∷ zs) in
    let Q : List Entry → Type 0 = λ l. IsPart ((xs ++ z ∷ []) ++ zs) l in
    subst P (append_assoc xs (z ∷ []) zs) (subst Q (append_assoc ys (z ∷ []) zs) (part_all (xs ++ z ∷ []) (ys ++ z ∷ []) zs (part_both xs ys z part)))

none_of_writer : (rest : List Entry) → AllByRecursion (λ (e : Entry). 0 < e.origin.place) rest → of_place 0 rest ≡ []
none_of_writer [] above = refl
none_of_writer (e ∷ rest) above =
    let some = above.0 in
    let other : (e.origin.place == 0) ≡ false = grind (arith, nat_tests) in
    let more = none_of_writer rest above.1 in
    rw other more

-- they rise behind what is kept, if they rise behind what was taken before them, and none is of the writer
pub all_rise : (limit : ℕ) (entries kept rest : List Entry) → IsKeptFrom limit entries kept → AllByRecursion (λ (e : Entry). 0 < e.origin.place) rest → SerialsRise (entries ++ rest) → SerialsRise (kept ++ rest)
all_rise limit entries kept rest s above rises place = ⊎_elim
    (λ (here : place ≡ 0).
    let theirs : serials_of place rest ≡ [] = ap (λ (p : ℕ). serials_of p rest) here ∙ ap (λ (l : List Entry). map (λ (e : Entry). e.origin.serial) l) (none_of_writer rest above) in
    let is : serials_of place (kept ++ rest) ≡ serials_of place kept = serials_of-append place kept rest ∙ (ap (λ (l : List ℕ). serials_of place kept ++ l) theirs ∙ append-nil (serials_of place kept)) in
    subst (IsStrictlySortedBy nat_cmp) (sym is) (s.rises place))
    (λ (some : 0 < place).
    let part : SerialsRise (without_sweeps kept ++ rest) = part_rises (without_sweeps kept ++ rest) (entries ++ rest) (part_all (without_sweeps kept) entries rest s.part) rises in
    let zeros = all_needed limit (Contains entries) (λ e. e.origin.place ≡ 0) (λ history moment. refl) [] kept s.sweeps.needed in
    let is : serials_of place (kept ++ rest) ≡ serials_of place (without_sweeps kept ++ rest) = serials_of-append place kept rest
    ∙ (ap (λ (l : List ℕ). l ++ serials_of place rest) (sym (same_serials place some kept zeros)) ∙ sym (serials_of-append place (without_sweeps kept) rest)) in
    subst (IsStrictlySortedBy nat_cmp) (sym is) (part place))
    (eq-zero-or-pos place)
