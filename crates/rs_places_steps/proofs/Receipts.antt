-- What a receipt says of the list that its token names.
use Rattle.std.proofs.Common.{◌≡◌, ◌⊎◌, ℕ, ◌+◌, List, [], ◌∷◌, ◌++◌, length, refl, inl, inr, sym, ap, subst, ◌∙◌, arith, length-append}
use Rattle.std.specs.Prelude.{Contains, ◌<◌, Ok}
use Rattle.std.specs.List.{All}
use Rattle.std.proofs.lemmas.List.Elements.{All-weaker, All-contains_itself, Contains-append_left, Contains-append_right}
use mathlib.Core.List.{IsPrefix}
use Rattle.rs_message.specs.declared.entry.Entry.{Entry}
use Rattle.rs_message.specs.declared.entry.Operation.{Operation}
use Rattle.rs_store.specs.History.{IsLegal}
use Rattle.rs_store.proofs.Entries.{Among, among}
use Rattle.rs_version.specs.Receipts.{StandsAt}
use Rattle.rs_version.proofs.Origins.{origins_differ}
use Rattle.rs_session.specs.Gate.{Mark, IsHandedOver, Sends, Submits, entry_by, last_origin}

pub stands_contained : (e : Entry) (number : ℕ) (list : List Entry) → StandsAt e number list → Contains list e
stands_contained e number list s = let P : List Entry → Type 0 = λ l. Contains l e in subst P (sym s.whole) (Contains-append_right s.before (e ∷ s.after) e (0, omega arith, refl))

-- whatever is in a list stands somewhere in it
pub stands_somewhere : (e : Entry) (xs : List Entry) → Among e xs → (n : ℕ) × StandsAt e n xs
stands_somewhere e [] h = absurd h
stands_somewhere e (x ∷ xs) (inl same) = (1, record { before = []; after = xs; whole = ap (λ w. w ∷ xs) same; counted = refl })
stands_somewhere e (x ∷ xs) (inr later) =
    let r = stands_somewhere e xs later in
    (r.0 + 1, record { before = x ∷ r.1.before; after = r.1.after; whole = ap (λ l. x ∷ l) r.1.whole; counted = omega (arith, r.1.counted) })

-- what stands at one number of a list is one entry
one_entry : (d e : Entry) (before_d after_d before_e after_e : List Entry) → before_d ++ d ∷ after_d ≡ before_e ++ e ∷ after_e → length before_d ≡ length before_e → d ≡ e
one_entry d e [] after_d [] after_e whole same = cc (whole)
one_entry d e [] after_d (y ∷ ys) after_e whole same = absurd (omega (arith, same))
one_entry d e (x ∷ xs) after_d [] after_e whole same = absurd (omega (arith, same))
one_entry d e (x ∷ xs) after_d (y ∷ ys) after_e whole same = one_entry d e xs after_d ys after_e (cc (whole)) (omega (arith, same))

-- an entry of the token's list that has the receipt's origin is the receipt's
one_of_origin : (limit : ℕ) (d e : Entry) (number : ℕ) (told : List Entry) → IsLegal limit told → StandsAt e number told → Contains told d → d.origin ≡ e.origin → d ≡ e
one_of_origin limit d e number told legal at there same =
    let s = stands_somewhere d told (among d told there) in
    let numbers : s.0 ≡ number = origins_differ limit told d e s.0 number legal s.1 at same in
    one_entry d e s.1.before s.1.after at.before at.after (sym s.1.whole ∙ at.whole) (omega (arith, numbers, s.1.counted, at.counted))

nothing_more : (xs ys : List Entry) → xs ≡ xs ++ ys → ys ≡ []
nothing_more xs [] h = refl
nothing_more xs (y ∷ ys) h = absurd (omega (arith, ap length h, length-append xs (y ∷ ys)))

-- nothing was handed over, if the list is the one before
pub none_handed_over : (operation : Operation) (mark : Mark) (seen list : List Entry) → list ≡ seen → IsHandedOver operation mark seen list
none_handed_over operation mark seen list same more whole =
    let P : Entry → Type 0 = λ e. e.origin ≡ last_origin mark → e.operation ≡ operation in
    let none : more ≡ [] = nothing_more seen more (sym same ∙ whole) in
    let Q : List Entry → Type 0 = λ l. All P l in
    subst Q (sym none) (λ k d lt. absurd (omega (arith, lt)))

-- this operation alone was handed over, if the list is the one before or that of the receipt's token
handed_over : (limit : ℕ) (operation : Operation) (mark : Mark) (seen list told : List Entry) (e : Entry) (number : ℕ)
    → IsLegal limit told → StandsAt e number told → e ≡ record { origin = last_origin mark; operation = operation }
    → (list ≡ seen) ⊎ (list ≡ told) → IsHandedOver operation mark seen list
handed_over limit operation mark seen list told e number legal at is (inl same) = none_handed_over operation mark seen list same
handed_over limit operation mark seen list told e number legal at is (inr same) = λ more whole.
    let P : Entry → Type 0 = λ d. d.origin ≡ last_origin mark → d.operation ≡ operation in
    All-weaker (Contains more) P
    (λ d there origin.
    let Q : List Entry → Type 0 = λ l. Contains l d in
    let in_told : Contains told d = subst Q (sym whole ∙ same) (Contains-append_right seen more d there) in
    let one : d ≡ e = one_of_origin limit d e number told legal at in_told (origin ∙ sym (ap (λ (w : Entry). w.origin) is)) in
    ap (λ (w : Entry). w.operation) (one ∙ is))
    more (All-contains_itself more)

-- what a submit with a receipt leaves, once the seat has learned the receipt's token
pub submits_ok : (limit : ℕ) (operation : Operation) (old new : Mark) (seen list told : List Entry) (e : Entry) (number : ℕ)
    → IsLegal limit told → StandsAt e number told → e ≡ record { origin = last_origin new; operation = operation }
    → (list ≡ seen) ⊎ (list ≡ told) → IsPrefix told list → old.serial < new.serial → Sends old.sent (entry_by operation new ∷ []) new.sent → Submits operation old new (Ok tt) seen list
submits_ok limit operation old new seen list told e number legal at is one prefix above sent =
    let P : List Entry → Type 0 = λ l. Contains l e in
    let there : Contains list e = subst P prefix.1 (Contains-append_left told prefix.0 e (stands_contained e number told at)) in
    let Q : Entry → Type 0 = λ d. Contains list d in
    record { handed_over = handed_over limit operation new seen list told e number legal at is one; submitted = record { entry = subst Q is there; serial = above; sent = sent }; used = tt }
