-- What is ahead of a line: its serials, and what holds of the line's parts.
use Rattle.std.proofs.Common.{◌≡◌, ℕ, suc, ◌+◌, ◌-◌, ◌<◌, ◌^◌, inl, All, false, List, [], ◌∷◌, ◌++◌, length, take, drop, Option, Some, None, MatchOption, refl, sym, ap, subst, ◌∙◌, append_assoc, length-append, arith}
use Rattle.std.specs.List.{AllByRecursion}
use Rattle.std.proofs.lemmas.List.{append-nil}
use Rattle.rs_message.specs.Messages.{is_sweep}
use Rattle.rs_message.specs.declared.entry.Entry.{Entry}
use Rattle.rs_message.specs.declared.entry.Operation.{Operation}
use Rattle.rs_intake_queue.specs.Changes.{AreNext, numbered}
use Rattle.rs_intake_line.specs.Lines.{IsAheadAfter, IsOther, IsSeatLine}
use Rattle.rs_intake_queue.specs.Parts.{before}
use Rattle.rs_intake_queue.specs.QueueRule.{AreAbove}
use Rattle.rs_intake_queue.proofs.Numbered.{numbered_above, numbered_last, numbered_length}

pub each_plain : (os : List Operation) → All (λ o. is_sweep o ≡ false) os → AllByRecursion (λ o. is_sweep o ≡ false) os
each_plain [] all = tt
each_plain (o ∷ os) all = (all 0 o (omega arith), each_plain os (λ k d lt. all (suc k) d (omega (arith, lt))))

-- ---- a list without its end

take_front : {A : Type 0} (xs ys : List A) → take (length xs) (xs ++ ys) ≡ xs
take_front [] ys = refl
take_front (x ∷ xs) ys = ap (λ l. x ∷ l) (take_front xs ys)

pub before_is : {A : Type 0} (all xs ys : List A) → all ≡ xs ++ ys → before all ys ≡ xs
before_is {A} all xs ys is =
    let n : length all - length ys ≡ length xs = let sum = length-append xs ys in let whole = ap length is in omega (arith, sum, whole) in
    ap (λ k. take k all) n ∙ (ap (λ l. take (length xs) l) is ∙ take_front xs ys)

pub end_is : {A : Type 0} (all xs ys : List A) → all ≡ xs ++ ys → all ≡ before all ys ++ ys
end_is {A} all xs ys is = is ∙ ap (λ l. l ++ ys) (sym (before_is all xs ys is))

-- the first of the end no more
pub end_less : {A : Type 0} (all xs ys : List A) (x : A) → all ≡ xs ++ x ∷ ys → all ≡ (xs ++ x ∷ []) ++ ys
end_less {A} all xs ys x is = is ∙ sym (append_assoc xs (x ∷ []) ys)

-- a list whose end has one less
pub end_takes : {A : Type 0} (all old new : List A) (x : A) → all ≡ before all old ++ old → old ≡ x ∷ new → all ≡ before all new ++ new
end_takes {A} all old new x is first = end_is all (before all old ++ x ∷ []) new (end_less all (before all old) new x (is ∙ ap (λ l. before all old ++ l) first))

pub front_takes : {A : Type 0} (all old new : List A) (x : A) → all ≡ before all old ++ old → old ≡ x ∷ new → before all new ≡ before all old ++ x ∷ []
front_takes {A} all old new x is first = before_is all (before all old ++ x ∷ []) new (end_less all (before all old) new x (is ∙ ap (λ l. before all old ++ l) first))

-- a list whose end is none
pub end_none : {A : Type 0} (all new : List A) → new ≡ [] → all ≡ before all new ++ new
end_none {A} all new none = end_is all all new (sym (append-nil all) ∙ ap (λ l. all ++ l) (sym none))

-- the next of what came is taken
pub take_end : {A : Type 0} (all old new : List A) (next : Option A) → all ≡ before all old ++ old → MatchOption next ((old ≡ []) × (new ≡ [])) (λ x. old ≡ x ∷ new) → all ≡ before all new ++ new
take_end {A} all old new (Some x) is taken = end_takes all old new x is taken
take_end {A} all old new None is taken = end_none all new taken.1

pub take_gives : {A : Type 0} (all old new heard came : List A) (next : Option A) → all ≡ before all old ++ old → before all old ≡ heard → old ≡ came → MatchOption next ((old ≡ []) × (new ≡ [])) (λ x. old ≡ x ∷ new)
    → MatchOption next ((came ≡ []) × (new ≡ []) × (before all new ≡ heard)) (λ x. (before all new ≡ heard ++ x ∷ []) × (came ≡ x ∷ new))
take_gives {A} all old new heard came (Some x) is front end taken = (front_takes all old new x is taken ∙ ap (λ l. l ++ x ∷ []) front, sym end ∙ taken)
take_gives {A} all old new heard came None is front end taken = (sym end ∙ taken.0, taken.1, ap (λ l. before all l) (taken.1 ∙ sym taken.0) ∙ front)

-- what was taken, followed by what came, is the same after a take
pub taken_on : {A : Type 0} (came came' heard heard' : List A) (next : Option A) → MatchOption next ((came ≡ []) × (came' ≡ []) × (heard' ≡ heard)) (λ x. (heard' ≡ heard ++ x ∷ []) × (came ≡ x ∷ came')) → heard' ++ came' ≡ heard ++ came
taken_on {A} came came' heard heard' (Some x) t = ap (λ l. l ++ came') t.0 ∙ (append_assoc heard (x ∷ []) came' ∙ ap (λ l. heard ++ l) (sym t.1))
taken_on {A} came came' heard heard' None t = ap (λ l. l ++ came') t.2 ∙ ap (λ l. heard ++ l) (t.1 ∙ sym t.0)

-- ---- entries under the next serials

numbered_next : (place serial : ℕ) (os : List Operation) → AreNext place serial (numbered place serial os)
numbered_next place serial [] = tt
numbered_next place serial (o ∷ os) = (refl, numbered_next place (serial + 1) os)

-- the same behind those that have the serials before
next_more : (place serial : ℕ) (es : List Entry) (os : List Operation) → AreNext place serial es → AreNext place serial (es ++ numbered place (serial + length es) os)
next_more place serial [] os next =
    let P : ℕ → Type 0 = λ n. AreNext place serial (numbered place n os) in
    let same : serial ≡ serial + 0 = omega arith in
    subst P same (numbered_next place serial os)
next_more place serial (e ∷ es) os next =
    let P : ℕ → Type 0 = λ n. AreNext place (serial + 1) (es ++ numbered place n os) in
    let same : serial + 1 + length es ≡ serial + length (e ∷ es) = omega arith in
    (next.0, subst P same (next_more place (serial + 1) es os next.1))

-- ---- the line's parts

-- what is announced may be sent
pub seat_above : (place serial : ℕ) (taken ahead : List Entry) (os : List Operation) → IsSeatLine place serial taken ahead → AreAbove taken (numbered place (serial + length ahead) os)
seat_above place serial taken ahead os l = numbered_above place (serial + length ahead) os taken l.last

pub seat_sends : (place serial : ℕ) (taken taken' ahead ahead' : List Entry) (os : List Operation) → taken' ≡ taken ++ numbered place (serial + length ahead) os → ahead' ≡ ahead ++ numbered place (serial + length ahead) os
    → serial + length ahead + length os < 2 ^ 64 → IsSeatLine place serial taken ahead → IsSeatLine place serial taken' ahead'
seat_sends place serial taken taken' ahead ahead' os more is fits l =
    let job = numbered place (serial + length ahead) os in
    let count = l.count in
    let n = numbered_length place (serial + length ahead) os in
    let all = length-append ahead job in
    let sum = length-append taken job in
    let top = numbered_last place (serial + length ahead) os taken l.last in
    let P : List Entry → Type 0 = λ t. IsSeatLine place serial t ahead' in
    let Q : List Entry → Type 0 = λ a. IsSeatLine place serial (taken ++ job) a in
    subst P (sym more) (subst Q (sym is)
    (record {
      end = end_is (taken ++ job) (before taken ahead) (ahead ++ job) (ap (λ t. t ++ job) l.end ∙ append_assoc (before taken ahead) ahead job);
      next = next_more place serial ahead os l.next;
      fits = omega (arith, fits, all, n);
      last = omega (arith, top, all, n);
      count = omega (arith, sum, count, all);
    }))

pub seat_submits : (place serial serial' : ℕ) (taken ahead ahead' : List Entry) (e : Entry) → serial' ≡ serial + 1 → ahead ≡ e ∷ ahead'
    → IsSeatLine place serial taken ahead → IsSeatLine place serial' taken ahead'
seat_submits place serial serial' taken ahead ahead' e next first l =
    let P : List Entry → Type 0 = λ a. IsSeatLine place serial taken a in
    let m = subst P first l in
    let Q : ℕ → Type 0 = λ n. IsSeatLine place n taken ahead' in
    let fits = m.fits in
    let low = m.last in
    let count = m.count in
    subst Q (sym next)
    (record {
      end = end_is taken (before taken (e ∷ ahead') ++ e ∷ []) ahead' (end_less taken (before taken (e ∷ ahead')) ahead' e m.end);
      next = m.next.1;
      fits = omega (arith, fits);
      last = omega (arith, low);
      count = omega (arith, count);
    })

pub seat_handed_on : (place serial serial' : ℕ) (taken ahead ahead' : List Entry) → serial' ≡ serial + length ahead → ahead' ≡ [] → IsSeatLine place serial taken ahead → IsSeatLine place serial' taken ahead'
seat_handed_on place serial serial' taken ahead ahead' next none l =
    let fits = l.fits in
    let low = l.last in
    let count = l.count in
    let P : List Entry → Type 0 = λ es. IsSeatLine place serial' taken es in
    subst P (sym none) (record { end = end_is taken taken [] (sym (append-nil taken)); next = tt; fits = omega (arith, fits, next); last = omega (arith, low, next); count = omega (arith, count, next) })

-- what is left once the first was taken
pub popped : (old new rest : List Entry) (e : Entry) (taken : Option Entry) → old ≡ e ∷ rest → MatchOption taken ((old ≡ []) × (new ≡ [])) (λ x. old ≡ x ∷ new) → new ≡ rest
popped old new rest e (Some x) first is = ap (λ (l : List Entry). drop 1 l) (sym is ∙ first)
popped old new rest e None first is = absurd (cc (first, is.0))

-- ---- what is ahead once an operation was submitted

pub after_first : (ahead after : List Entry) (entry : Entry) → ahead ≡ entry ∷ after → IsAheadAfter ahead entry.operation after
after_first ahead after entry first =
    let P : List Entry → Type 0 = λ l. IsAheadAfter l entry.operation after in
    subst P (sym first) (inl (refl, refl))

pub after_none : (ahead after : List Entry) (operation : Operation) → ahead ≡ [] → after ≡ [] → IsAheadAfter ahead operation after
after_none ahead after operation none is =
    let P : List Entry → Type 0 = λ l. IsAheadAfter l operation after in
    subst P (sym none) is

-- the first of what is ahead is no other, if it does this, or if nothing is
pub not_other : (ahead after : List Entry) (entry : Entry) → ahead ≡ entry ∷ after → IsOther ahead entry.operation → ⊥
not_other ahead after entry first other =
    let P : List Entry → Type 0 = λ l. IsOther l entry.operation in
    subst P first other refl

pub none_other : (ahead : List Entry) (operation : Operation) → ahead ≡ [] → IsOther ahead operation → ⊥
none_other ahead operation none other =
    let P : List Entry → Type 0 = λ l. IsOther l operation in
    subst P none other
