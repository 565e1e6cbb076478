-- An origin stands at one number of a legal list at most.
use Rattle.std.proofs.Common.{◌≡◌, ◌==◌, ℕ, suc, Bool, true, false, List, [], ◌∷◌, ◌++◌, length, refl, sym, ap, subst, ◌∙◌, inl, inr, arith}
use Rattle.std.specs.List.Sorted.{IsStrictlySortedBy}
use Rattle.std.specs.Ordering.{nat_cmp}
use Rattle.std.specs.declared.cmp.Ordering.TheVariants.{Less}
use Rattle.std.proofs.lemmas.Bool.Decides.{nat_tests}
use Rattle.std.proofs.lemmas.Map.Keys.{sorted_head, sorted_tail}
use Rattle.rs_message.specs.Values.{OriginValue}
use Rattle.rs_message.specs.declared.entry.Entry.{Entry}
use Rattle.rs_store.specs.History.{IsLegal, serials_of}
use Rattle.rs_store.proofs.Entries.{Among, all_among}
use Rattle.rs_store.proofs.Histories.{below_itself, serials_first}
use Rattle.rs_version.specs.Receipts.{StandsAt}

-- the serials of a place rise in the rest of a list too
rest_rises : (place : ℕ) (x : Entry) (xs : List Entry) → IsStrictlySortedBy nat_cmp (serials_of place (x ∷ xs)) → IsStrictlySortedBy nat_cmp (serials_of place xs)
rest_rises place x xs sorted = by_case (x.origin.place == place) refl
  where
    by_case : (b : Bool) → (x.origin.place == place) ≡ b → IsStrictlySortedBy nat_cmp (serials_of place xs)
    by_case true here = sorted_tail nat_cmp x.origin.serial (serials_of place xs) (subst (IsStrictlySortedBy nat_cmp) (serials_first place x xs true here) sorted)
    by_case false here = subst (IsStrictlySortedBy nat_cmp) (serials_first place x xs false here) sorted

-- the serial of an entry is among those of its place
serial_among : (e : Entry) (xs : List Entry) → Among e xs → Among e.origin.serial (serials_of e.origin.place xs)
serial_among e [] h = absurd h
serial_among e (x ∷ xs) (inl same) =
    let itself : (e.origin.place == e.origin.place) ≡ true = grind (arith, nat_tests) in
    let here : (x.origin.place == e.origin.place) ≡ true = ap (λ (y : Entry). y.origin.place == e.origin.place) same ∙ itself in
    let first : Among e.origin.serial (x.origin.serial ∷ serials_of e.origin.place xs) = inl (ap (λ (y : Entry). y.origin.serial) same) in
    subst (Among e.origin.serial) (sym (serials_first e.origin.place x xs true here)) first
serial_among e (x ∷ xs) (inr later) = by_case (serial_among e xs later) (x.origin.place == e.origin.place) refl
  where
    by_case : Among e.origin.serial (serials_of e.origin.place xs) → (b : Bool) → (x.origin.place == e.origin.place) ≡ b → Among e.origin.serial (serials_of e.origin.place (x ∷ xs))
    by_case there true here = subst (Among e.origin.serial) (sym (serials_first e.origin.place x xs true here)) (inr there)
    by_case there false here = subst (Among e.origin.serial) (sym (serials_first e.origin.place x xs false here)) there

-- no entry behind another has its origin
none_behind : (d e : Entry) (xs : List Entry) → d.origin ≡ e.origin → IsStrictlySortedBy nat_cmp (serials_of e.origin.place (d ∷ xs)) → Among e xs → ⊥
none_behind d e xs same sorted later =
    let itself : (e.origin.place == e.origin.place) ≡ true = grind (arith, nat_tests) in
    let here : (d.origin.place == e.origin.place) ≡ true = ap (λ (o : OriginValue). o.place == e.origin.place) same ∙ itself in
    let rises : IsStrictlySortedBy nat_cmp (d.origin.serial ∷ serials_of e.origin.place xs) = subst (IsStrictlySortedBy nat_cmp) (serials_first e.origin.place d xs true here) sorted in
    let less : nat_cmp d.origin.serial e.origin.serial ≡ Less = all_among (λ n. nat_cmp d.origin.serial n ≡ Less) e.origin.serial (serials_of e.origin.place xs) (sorted_head nat_cmp d.origin.serial (serials_of e.origin.place xs) rises) (serial_among e xs later) in
    below_itself e.origin.serial (subst (λ n. nat_cmp n e.origin.serial ≡ Less) (ap (λ (o : OriginValue). o.serial) same) less)

among_middle : (e : Entry) (before after : List Entry) → Among e (before ++ e ∷ after)
among_middle e [] after = inl refl
among_middle e (x ∷ xs) after = inr (among_middle e xs after)

-- where two entries of one origin stand
one_place : (d e : Entry) (before_d after_d before_e after_e : List Entry) → before_d ++ d ∷ after_d ≡ before_e ++ e ∷ after_e → d.origin ≡ e.origin
    → IsStrictlySortedBy nat_cmp (serials_of e.origin.place (before_d ++ d ∷ after_d)) → length before_d ≡ length before_e
one_place d e [] after_d [] after_e whole same sorted = refl
one_place d e [] after_d (y ∷ ys) after_e whole same sorted =
    let rest : after_d ≡ ys ++ e ∷ after_e = cc (whole) in
    absurd (none_behind d e after_d same sorted (subst (Among e) (sym rest) (among_middle e ys after_e)))
one_place d e (x ∷ xs) after_d [] after_e whole same sorted =
    let first : x ≡ e = cc (whole) in
    let places : e.origin.place ≡ d.origin.place = ap (λ (o : OriginValue). o.place) (sym same) in
    let sorted' : IsStrictlySortedBy nat_cmp (serials_of d.origin.place (x ∷ (xs ++ d ∷ after_d))) = subst (λ (n : ℕ). IsStrictlySortedBy nat_cmp (serials_of n (x ∷ (xs ++ d ∷ after_d)))) places sorted in
    absurd (none_behind x d (xs ++ d ∷ after_d) (ap (λ (z : Entry). z.origin) first ∙ sym same) sorted' (among_middle d xs after_d))
one_place d e (x ∷ xs) after_d (y ∷ ys) after_e whole same sorted =
    let rest : xs ++ d ∷ after_d ≡ ys ++ e ∷ after_e = cc (whole) in
    ap (λ n. suc n) (one_place d e xs after_d ys after_e rest same (rest_rises e.origin.place x (xs ++ d ∷ after_d) sorted))

pub origins_differ : (limit : ℕ) (list : List Entry) (d e : Entry) (m n : ℕ) → IsLegal limit list → StandsAt d m list → StandsAt e n list → d.origin ≡ e.origin → m ≡ n
origins_differ limit list d e m n legal at_m at_n same =
    let rises : IsStrictlySortedBy nat_cmp (serials_of e.origin.place (at_m.before ++ d ∷ at_m.after)) = subst (λ (l : List Entry). IsStrictlySortedBy nat_cmp (serials_of e.origin.place l)) at_m.whole (legal.rises e.origin.place) in
    let places : length at_m.before ≡ length at_n.before = one_place d e at_m.before at_m.after at_n.before at_n.after (sym at_m.whole ∙ at_n.whole) same rises in
    omega (arith, at_m.counted, at_n.counted, places)
