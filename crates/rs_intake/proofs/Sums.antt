-- Where as many jobs were taken as sent, the queue holds none.
use Rattle.std.proofs.Common.{◌≡◌, ◌≢◌, ◌==◌, ℕ, zero, suc, ◌+◌, ◌<◌, ◌≤◌, ◌⊎◌, inl, inr, ⊎_elim, Bool, true, false, cond, List, [], ◌∷◌, ◌++◌, length, filter, All, refl, sym, ap, subst, ◌∙◌, arith, length-append}
use Rattle.std.proofs.Math.Nat.{eq-zero-or-pos}
use Rattle.std.proofs.lemmas.Bool.{cases_lt}
use Rattle.std.proofs.lemmas.List.{append-nil, nil_from_length}
use Rattle.std.specs.List.{AllByRecursion}
use Rattle.std.proofs.lemmas.Bool.Decides.{nat_tests}
use Rattle.rs_message.specs.declared.entry.Entry.{Entry}
use Rattle.rs_intake_queue.specs.declared.job.Job.{Job}
use Rattle.rs_intake_queue.specs.declared.job.Job.TheVariants.{Put, End}
use Rattle.rs_intake_queue.specs.QueueRule.{at_place, of_place, entries_in, entries_of, IsOutside, IsPlaced}
use Rattle.rs_intake_queue.proofs.Queues.{none_right, of_place-head}
use Rattle.rs_intake.specs.Causes.{HaveEnded}
use Rattle.rs_intake_queue.specs.Ends.{Closed}
use Rattle.rs_intake_queue.specs.declared.rule.SentFrom.{SentFrom}
use Rattle.std.proofs.lemmas.List.Elements.{All-append, All-weaker, filter-append}
use mathlib.Core.List.{IsPrefix}
use Rattle.rs_intake.specs.Settling.{Covers, ends_at, EachOnce, sent_in_all, AreOfPlaces, AreTaken, AreTakenInOrder, BalancesWith}

all_head : {A : Type 0} (P : A → Type 0) (x : A) (xs : List A) → All P (x ∷ xs) → P x
all_head P x xs all = all 0 x (omega arith)

all_tail : {A : Type 0} (P : A → Type 0) (x : A) (xs : List A) → All P (x ∷ xs) → All P xs
all_tail P x xs all = λ k d lt. all (suc k) d (omega (arith, lt))

all_none : {A : Type 0} (P : A → Type 0) → All P []
all_none P = λ k d lt. absurd (omega (arith, lt))

all_cons : {A : Type 0} (P : A → Type 0) (x : A) (xs : List A) → P x → All P xs → All P (x ∷ xs)
all_cons P x xs here rest zero d lt = here
all_cons P x xs here rest (suc k) d lt = rest k d (omega (arith, lt))

-- the sum over the places from 1 to n
abbrev pub sum_to : ℕ → (ℕ → ℕ) → ℕ
sum_to zero f = 0
sum_to (suc n) f = sum_to n f + f (suc n)

pub sum_to-add : (n : ℕ) (f g : ℕ → ℕ) → sum_to n (λ p. f p + g p) ≡ sum_to n f + sum_to n g
sum_to-add zero f g = refl
sum_to-add (suc n) f g = let h = sum_to-add n f g in omega (arith, h)

pub sum_to-same : (n : ℕ) (f g : ℕ → ℕ) → ((p : ℕ) → 0 < p → p ≤ n → f p ≡ g p) → sum_to n f ≡ sum_to n g
sum_to-same zero f g same = refl
sum_to-same (suc n) f g same = let h = sum_to-same n f g (λ p low high. same p low (omega (arith, high))) in let e = same (suc n) (omega arith) (omega arith) in omega (arith, h, e)

none_there : (n q : ℕ) (w : ℕ → ℕ) → n < q → sum_to n (λ p. cond (q == p) (w p) 0) ≡ 0
none_there zero q w low = refl
none_there (suc n) q w low = let h = none_there n q w (omega (arith, low)) in go (q == suc n) (let apart : q ≢ suc n = λ e. omega (arith, e, low) in grind (arith, nat_tests, apart)) h
  where
    go : (b : Bool) → b ≡ false → sum_to n (λ p. cond (q == p) (w p) 0) ≡ 0 → sum_to n (λ p. cond (q == p) (w p) 0) + cond b (w (suc n)) 0 ≡ 0
    go true is h = absurd (cc (is))
    go false is h = omega (arith, h)

at_most : (n q : ℕ) (w : ℕ → ℕ) → sum_to n (λ p. cond (q == p) (w p) 0) ≤ w q
at_most zero q w = omega arith
at_most (suc n) q w = go (q == suc n) refl (at_most n q w)
  where
    go : (b : Bool) → (q == suc n) ≡ b → sum_to n (λ p. cond (q == p) (w p) 0) ≤ w q → sum_to n (λ p. cond (q == p) (w p) 0) + cond b (w (suc n)) 0 ≤ w q
    go true is h = let e : q ≡ suc n = grind (arith, nat_tests, is) in let z = none_there n q w (omega (arith, e)) in let v = ap w e in omega (arith, z, v)
    go false is h = omega (arith, h)

pub there_once : (n q : ℕ) → 0 < q → q ≤ n → sum_to n (λ p. cond (q == p) 1 0) ≡ 1
there_once zero q low high = absurd (omega (arith, low, high))
there_once (suc n) q low high = go (q == suc n) refl (λ high. there_once n q low high)
  where
    go : (b : Bool) → (q == suc n) ≡ b → (q ≤ n → sum_to n (λ p. cond (q == p) 1 0) ≡ 1) → sum_to n (λ p. cond (q == p) 1 0) + cond b 1 0 ≡ 1
    go true is h = let e : q ≡ suc n = grind (arith, nat_tests, is) in let z = none_there n q (λ p. 1) (omega (arith, e)) in omega (arith, z)
    go false is h = let ne : q ≢ suc n = λ e. grind (arith, nat_tests, is, e) in let z = h (omega (arith, high, ne)) in omega (arith, z)

pub inside : (n q : ℕ) → (IsOutside n q → ⊥) → (0 < q) × (q ≤ n)
inside n zero h = absurd (h (inl refl))
inside n (suc q) h = (omega arith, ⊎_elim (λ (t : n < suc q). absurd (h (inr t))) (λ (t : suc q ≤ n). t) (cases_lt n (suc q)))

of_place-tail : (place : ℕ) (x : Entry) (xs : List Entry) → of_place place (x ∷ xs) ≡ [] → of_place place xs ≡ []
of_place-tail place x xs e = go (x.origin.place == place) e
  where
    go : (b : Bool) → cond b (x ∷ of_place place xs) (of_place place xs) ≡ [] → of_place place xs ≡ []
    go true e = absurd (cc (e))
    go false e = e

length-of_place : (place : ℕ) (x : Entry) (xs : List Entry) → length (of_place place (x ∷ xs)) ≡ cond (x.origin.place == place) 1 0 + length (of_place place xs)
length-of_place place x xs = go (x.origin.place == place)
  where
    go : (b : Bool) → length (cond b (x ∷ of_place place xs) (of_place place xs)) ≡ cond b 1 0 + length (of_place place xs)
    go true = omega arith
    go false = omega arith

pub zeros : (n : ℕ) → sum_to n (λ p. 0) ≡ 0
zeros zero = refl
zeros (suc n) = let h = zeros n in omega (arith, h)

-- where no place beyond them has an entry, the places have them all
by_places : (n : ℕ) (xs : List Entry) → ((place : ℕ) → IsOutside n place → of_place place xs ≡ []) → length xs ≡ sum_to n (λ p. length (of_place p xs))
by_places n [] outside = sym (zeros n)
by_places n (x ∷ xs) outside =
    let rest = by_places n xs (λ place out. of_place-tail place x xs (outside place out)) in
    let within = inside n x.origin.place (λ out. of_place-head x xs (outside x.origin.place out)) in
    let here = there_once n x.origin.place within.0 within.1 in
    let split = sum_to-same n (λ p. length (of_place p (x ∷ xs))) (λ p. cond (x.origin.place == p) 1 0 + length (of_place p xs)) (λ p low high. length-of_place p x xs) in
    let sums = sum_to-add n (λ p. cond (x.origin.place == p) 1 0) (λ p. length (of_place p xs)) in
    omega (arith, rest, here, split, sums)

-- what the ends of a place weigh, if each weighs f of its place
abbrev weight_at : (ℕ → ℕ) → ℕ → List Closed → ℕ
weight_at f place [] = 0
weight_at f place (e ∷ es) = cond (e.place == place) (f place) 0 + weight_at f place es

abbrev weight : (ℕ → ℕ) → List Closed → ℕ
weight f [] = 0
weight f (e ∷ es) = f e.place + weight f es

weight_none : (f : ℕ → ℕ) (place : ℕ) (es : List Closed) → ends_at place es ≡ 0 → weight_at f place es ≡ 0
weight_none f place [] none = refl
weight_none f place (e ∷ es) none = go (e.place == place) (λ none. weight_none f place es none) none
  where
    go : (b : Bool) → (ends_at place es ≡ 0 → weight_at f place es ≡ 0) → length (cond b (e ∷ filter (λ (e : Closed). e.place == place) es) (filter (λ (e : Closed). e.place == place) es)) ≡ 0 → cond b (f place) 0 + weight_at f place es ≡ 0
    go true rest h = absurd (omega (arith, h))
    go false rest h = let r = rest h in omega (arith, r)

weight_once : (f : ℕ → ℕ) (place : ℕ) (es : List Closed) → ends_at place es ≡ 1 → weight_at f place es ≡ f place
weight_once f place [] once = absurd (omega (arith, once))
weight_once f place (e ∷ es) once = go (e.place == place) (λ once. weight_once f place es once) once
  where
    go : (b : Bool) → (ends_at place es ≡ 1 → weight_at f place es ≡ f place) → length (cond b (e ∷ filter (λ (e : Closed). e.place == place) es) (filter (λ (e : Closed). e.place == place) es)) ≡ 1 → cond b (f place) 0 + weight_at f place es ≡ f place
    go true rest h = let r = weight_none f place es (omega (arith, h)) in omega (arith, r)
    go false rest h = let r = rest h in omega (arith, r)

weight_by_places : (n : ℕ) (f : ℕ → ℕ) (es : List Closed) → sum_to n (λ p. weight_at f p es) ≤ weight f es
weight_by_places n f [] = let h = zeros n in omega (arith, h)
weight_by_places n f (e ∷ es) =
    let sums = sum_to-add n (λ p. cond (e.place == p) (f p) 0) (λ p. weight_at f p es) in
    let one = at_most n e.place f in
    let rest = weight_by_places n f es in
    omega (arith, sums, one, rest)

weight_sent : (xs : List Entry) (es : List Closed) → All (λ (e : Closed). e.sent ≡ of_place e.place xs) es → weight (λ p. length (of_place p xs)) es ≡ sent_in_all es
weight_sent xs [] all = refl
weight_sent xs (e ∷ es) all =
    let P : Closed → Type 0 = λ e. e.sent ≡ of_place e.place xs in
    let h = weight_sent xs es (all_tail P e es all) in
    let s = ap length (all_head P e es all) in
    omega (arith, h, s)

all_taken : (taken rest : List Entry) → rest ≡ [] → (es : List Closed) → All (λ (e : Closed). e.sent ≡ of_place e.place (taken ++ rest)) es → AreTaken taken es
all_taken taken rest none [] all = all_none (λ (e : Closed). of_place e.place taken ≡ e.sent)
all_taken taken rest none (e ∷ es) all =
    let P : Closed → Type 0 = λ e. e.sent ≡ of_place e.place (taken ++ rest) in
    all_cons (λ (e : Closed). of_place e.place taken ≡ e.sent) e es
    (ap (of_place e.place) (sym (append-nil taken)) ∙ (ap (λ l. of_place e.place (taken ++ l)) (sym none) ∙ sym (all_head P e es all)))
    (all_taken taken rest none es (all_tail P e es all))

-- nothing is left of a place, if the End of each was taken
none_left : (places place : ℕ) (taken rest : List Entry) (ended : List ℕ) → HaveEnded places ended
    → ((place : ℕ) → IsOutside places place → of_place place (taken ++ rest) ≡ []) → (at_place place ended ≡ []) ⊎ (of_place place rest ≡ [])
    → of_place place taken ≡ of_place place (taken ++ rest)
none_left places place taken rest ended all out nothing =
    let parts : of_place place (taken ++ rest) ≡ of_place place taken ++ of_place place rest = filter-append (λ (z : Entry). z.origin.place == place) taken rest in
    let by : of_place place rest ≡ [] → of_place place taken ≡ of_place place (taken ++ rest) =
    λ none. sym (append-nil (of_place place taken)) ∙ (ap (λ l. of_place place taken ++ l) (sym none) ∙ sym parts) in
    ⊎_elim
    (λ (no_end : at_place place ended ≡ []).
    let few : length (at_place place ended) ≡ 0 = ap length no_end in
    ⊎_elim
    (λ (none : place ≡ 0). let whole = sym parts ∙ out place (inl none) in by (none_right _ _ whole))
    (λ (some : 0 < place).
    ⊎_elim
    (λ (beyond : places < place). let whole = sym parts ∙ out place (inr beyond) in by (none_right _ _ whole))
    (λ (within : place ≤ places). absurd (let one = all place some within in omega (arith, one, few)))
    (cases_lt places place))
    (eq-zero-or-pos place))
    (λ none. by none)
    nothing

pub settled : (places : ℕ) (taken : List Entry) (ended : List ℕ) (items : List Job) (ends : List Closed) → BalancesWith places taken ended items ends → EachOnce places ends → sent_in_all ends ≡ length taken → AreTaken taken ends
settled places taken ended items ends b once count =
    let rest = entries_of items in
    let xs = taken ++ rest in
    let f : ℕ → ℕ = λ p. length (of_place p xs) in
    let all : length xs ≡ sum_to places f = by_places places xs b.0 in
    let each : sum_to places f ≡ sum_to places (λ p. weight_at f p ends) = sum_to-same places f (λ p. weight_at f p ends) (λ p low high. sym (weight_once f p ends (once p low high))) in
    let less : sum_to places (λ p. weight_at f p ends) ≤ weight f ends = weight_by_places places f ends in
    let sent : weight f ends ≡ sent_in_all ends = weight_sent xs ends b.1 in
    let both : length xs ≡ length taken + length rest = length-append taken rest in
    let none : length rest ≡ 0 = omega (arith, all, each, less, sent, both, count) in
    all_taken taken rest (nil_from_length rest none) ends b.1

-- if the End of each place was taken, all was
pub taken_by_ends : (places : ℕ) (taken : List Entry) (ended : List ℕ) (ends : List Closed)
    → (0 < length ends → (items : List Job) × BalancesWith places taken ended items ends) → HaveEnded places ended → AreTaken taken ends
taken_by_ends places taken ended [] balance all = all_none (λ (e : Closed). of_place e.place taken ≡ e.sent)
taken_by_ends places taken ended (end ∷ ends) balance all =
    let (items, balanced) = balance (omega arith) in
    let rest = entries_of items in
    let none : (place : ℕ) → of_place place taken ≡ of_place place (taken ++ rest) = λ place. none_left places place taken rest ended all balanced.0 (balanced.2 place) in
    let P : Closed → Type 0 = λ e. e.sent ≡ of_place e.place (taken ++ rest) in
    let Q : Closed → Type 0 = λ e. of_place e.place taken ≡ e.sent in
    All-weaker P Q (λ e sent. none e.place ∙ sym sent) (end ∷ ends) balanced.1

-- what was taken of each place is a prefix of what its line sent
pub in_order : (places : ℕ) (taken : List Entry) (ended : List ℕ) (ends : List Closed) → (0 < length ends → (items : List Job) × BalancesWith places taken ended items ends) → AreTakenInOrder taken ends
in_order places taken ended [] balance = all_none (λ (e : Closed). IsPrefix (of_place e.place taken) e.sent)
in_order places taken ended (end ∷ ends) balance =
    let (items, balanced) = balance (omega arith) in
    let rest = entries_of items in
    let P : Closed → Type 0 = λ e. e.sent ≡ of_place e.place (taken ++ rest) in
    let Q : Closed → Type 0 = λ e. IsPrefix (of_place e.place taken) e.sent in
    All-weaker P Q (λ e sent. (of_place e.place rest, sym (sent ∙ filter-append (λ (z : Entry). z.origin.place == e.place) taken rest))) (end ∷ ends) balanced.1

-- no entry of the places is of one beyond them
none_beyond : (places place : ℕ) (es : List Entry) → AllByRecursion (λ (e : Entry). ¬ IsOutside places e.origin.place) es → IsOutside places place → of_place place es ≡ []
none_beyond places place [] there out = refl
none_beyond places place (e ∷ es) there out = go (e.origin.place == place) refl (none_beyond places place es there.1 out)
  where
    go : (b : Bool) → (e.origin.place == place) ≡ b → of_place place es ≡ [] → cond b (e ∷ of_place place es) (of_place place es) ≡ []
    go true is rest = let same : e.origin.place ≡ place = grind (arith, nat_tests, is) in absurd (there.0 (subst (IsOutside places) (sym same) out))
    go false is rest = rest

-- a job of the places more
pub placed_more : (places : ℕ) (entries : List Entry) (job : Job) → AreOfPlaces places entries → IsPlaced places job → AreOfPlaces places (entries ++ entries_in job)
placed_more places entries (Put es) all there place out =
    filter-append (λ (z : Entry). z.origin.place == place) entries es ∙ (ap (λ l. l ++ of_place place es) (all place out) ∙ none_beyond places place es there out)
placed_more places entries (End p) all there place out = ap (of_place place) (append-nil entries) ∙ all place out

-- some end is there
pub some_ends : (places : ℕ) (ends : List Closed) → 0 < places → EachOnce places ends → 0 < length ends
some_ends places [] some once = let h = once 1 (omega arith) (omega (arith, some)) in absurd (omega (arith, h))
some_ends places (e ∷ es) some once = omega arith

-- an end more, whose list is known whole
pub covers_more : (whole : List SentFrom) (ends : List Closed) (k : SentFrom) (e : Closed) → k.place ≡ e.place → k.entries ≡ e.sent → Covers whole ends → Covers (k ∷ whole) (ends ++ e ∷ [])
covers_more whole ends k e same sent covers all sums =
    let P : Closed → Type 0 = λ e. e.sent ≡ all e.place in
    All-append P ends (e ∷ []) (covers all sums.1) (all_cons P e [] (sym sent ∙ (sums.0 ∙ ap all same)) (all_none P))
