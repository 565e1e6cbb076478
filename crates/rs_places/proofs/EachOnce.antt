-- Each place of a new store has one line's end among those that are left.
use Rattle.std.proofs.Common.{◌≡◌, ◌≢◌, ⊎_elim, ℕ, zero, suc, ◌+◌, ◌==◌, ◌<◌, ◌≤◌, Bool, true, false, cond, List, [], ◌∷◌, ◌++◌, length, map, refl, ap, ◌∙◌, length-append, arith}
use Rattle.std.proofs.lemmas.Bool.{cases_eq, cases_lt}
use Rattle.std.proofs.lemmas.Bool.Decides.{nat_tests}
use Rattle.std.proofs.lemmas.List.{map-append}
use Rattle.std.proofs.lemmas.List.Elements.{filter-append}
use Rattle.std.specs.List.{AllZip, filter}
use Rattle.rs_message.specs.declared.entry.Entry.{Entry}
use Rattle.rs_intake_line.specs.Lines.{Line, new_line, new_lines}
use Rattle.rs_intake_queue.specs.Ends.{Closed}
use Rattle.rs_intake.specs.Settling.{EachOnce, ends_at}
use Rattle.rs_places_steps.specs.Places.{IsPlaceServed, Left, places_of}
use Rattle.rs_places_steps.specs.Visits.{Place}
use Rattle.rs_places.specs.Gates.{handed_on}
use Rattle.rs_places.specs.Store.{new_gates}
use Rattle.rs_places_steps.specs.Turns.{Connections}

-- how many of the numbers are this one
abbrev count_of : ℕ → List ℕ → ℕ
count_of place numbers = length (filter (λ n. n == place) numbers)

count_append : (place : ℕ) (xs ys : List ℕ) → count_of place (xs ++ ys) ≡ count_of place xs + count_of place ys
count_append place xs ys = ap length (filter-append (λ n. n == place) xs ys) ∙ length-append (filter (λ n. n == place) xs) (filter (λ n. n == place) ys)

count_this : (place n : ℕ) → n ≡ place → count_of place (n ∷ []) ≡ 1
count_this place n same = let is : (n == place) ≡ true = grind (arith, nat_tests) in rw is refl

count_other : (place n : ℕ) → n ≢ place → count_of place (n ∷ []) ≡ 0
count_other place n other = let is : (n == place) ≡ false = grind (arith, nat_tests) in rw is refl

-- ---- the numbers of new places

abbrev number_of : Line → ℕ
number_of line = line.place

numbers_more : (n : ℕ) → map number_of (new_lines (suc n)) ≡ map number_of (new_lines n) ++ suc n ∷ []
numbers_more n = map-append number_of (new_lines n) (new_line (suc n) ∷ [])

count_more : (n place : ℕ) → count_of place (map number_of (new_lines (suc n))) ≡ count_of place (map number_of (new_lines n)) + count_of place (suc n ∷ [])
count_more n place = ap (count_of place) (numbers_more n) ∙ count_append place (map number_of (new_lines n)) (suc n ∷ [])

count_above : (n place : ℕ) → n < place → count_of place (map number_of (new_lines n)) ≡ 0
count_above zero place above = refl
count_above (suc n) place above =
    let less = count_above n place (omega (arith, above)) in
    let last = count_other place (suc n) (λ same. absurd (omega (arith, above, same))) in
    omega (arith, count_more n place, less, last)

count_new : (n place : ℕ) → 0 < place → place ≤ n → count_of place (map number_of (new_lines n)) ≡ 1
count_new zero place some there = absurd (omega (arith, some, there))
count_new (suc n) place some there = ⊎_elim
    (λ (same : suc n ≡ place).
    let less = count_above n place (omega (arith, same)) in
    let last = count_this place (suc n) same in
    omega (arith, count_more n place, less, last))
    (λ (other : suc n ≡ place → ⊥).
    let before = count_new n place some (below other) in
    let last = count_other place (suc n) other in
    omega (arith, count_more n place, before, last))
    (cases_eq (suc n) place)
  where
    below : (suc n ≡ place → ⊥) → place ≤ n
    below other = ⊎_elim (λ (less : place < suc n). omega (arith, less)) (λ (more : suc n ≤ place). absurd (other (omega (arith, more, there)))) (cases_lt place (suc n))

-- ---- what is left of them

ends_count : (place : ℕ) (left : List Left) → ends_at place (map (λ (end : Left). end.line) left) ≡ count_of place (map (λ (end : Left). end.line.place) left)
ends_count place [] = refl
ends_count place (e ∷ es) = both (e.line.place == place) (ends_count place es)
  where
    both : (b : Bool) → ends_at place (map (λ (end : Left). end.line) es) ≡ count_of place (map (λ (end : Left). end.line.place) es)
        → length (cond b (e.line ∷ filter (λ (c : Closed). c.place == place) (map (λ (end : Left). end.line) es)) (filter (λ (c : Closed). c.place == place) (map (λ (end : Left). end.line) es)))
        ≡ length (cond b (e.line.place ∷ filter (λ n. n == place) (map (λ (end : Left). end.line.place) es)) (filter (λ n. n == place) (map (λ (end : Left). end.line.place) es)))
    both true h = ap suc h
    both false h = h

numbers_left : (limit : ℕ) (places : List Place) (left : List Left) → AllZip (IsPlaceServed limit) places left → map (λ (end : Left). end.line.place) left ≡ map (λ (place : Place). place.gate.mark.place) places
numbers_left limit [] [] each = refl
numbers_left limit [] (e ∷ es) each = absurd each
numbers_left limit (p ∷ ps) [] each = absurd each
numbers_left limit (p ∷ ps) (e ∷ es) each =
    let served : IsPlaceServed limit p e = each.0 in
    ap (λ n. n ∷ map (λ (end : Left). end.line.place) es) served.number ∙ ap (λ l. p.gate.mark.place ∷ l) (numbers_left limit ps es each.1)

numbers_of_places : (known : List Entry) (turns : List Connections) (lines : List Line) → length turns ≡ length lines
    → map (λ (place : Place). place.gate.mark.place) (places_of turns (map (λ (line : Line). handed_on known line) lines)) ≡ map number_of lines
numbers_of_places known [] [] same = refl
numbers_of_places known [] (line ∷ lines) same = absurd (omega (arith, same))
numbers_of_places known (connections ∷ turns) [] same = absurd (omega (arith, same))
numbers_of_places known (connections ∷ turns) (line ∷ lines) same = ap (λ l. line.place ∷ l) (numbers_of_places known turns lines (omega (arith, same)))

-- each place has one
pub each_once : (limit places : ℕ) (known : List Entry) (turns : List Connections) (left : List Left) → length turns ≡ length (new_lines places) → AllZip (IsPlaceServed limit) (places_of turns (new_gates known places)) left
    → EachOnce places (map (λ (end : Left). end.line) left)
each_once limit places known turns left same each place some there =
    let numbers = numbers_left limit (places_of turns (new_gates known places)) left each ∙ numbers_of_places known turns (new_lines places) same in
    ends_count place left ∙ (ap (count_of place) numbers ∙ count_new places place some there)
