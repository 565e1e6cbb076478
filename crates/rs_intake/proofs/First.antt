-- What the writer kept when it began: entries of its own place, none of them a Sweep.
use Rattle.std.proofs.Common.{◌≡◌, ⊎_elim, ◌==◌, ℕ, ◌<◌, false, List, [], ◌∷◌, ◌++◌, map, refl, sym, ap, subst, ◌∙◌, append-nil, arith}
use Rattle.std.specs.List.Sorted.{IsStrictlySortedBy}
use Rattle.std.specs.Ordering.{nat_cmp}
use Rattle.std.proofs.Math.Nat.{eq-zero-or-pos}
use Rattle.std.proofs.lemmas.Bool.Decides.{nat_tests}
use Rattle.rs_message.specs.Messages.{is_sweep}
use Rattle.rs_message.specs.declared.entry.Entry.{Entry}
use Rattle.rs_store.specs.History.{SerialsRise, serials_of}
use Rattle.rs_store.specs.Needed.{AreNeeded}
use Rattle.rs_store.proofs.Histories.{serials_of-append}
use Rattle.rs_version.specs.First.{AreOwn}
use Rattle.rs_intake_queue.specs.Parts.{IsPart}
use Rattle.rs_intake_queue.specs.QueueRule.{of_place}
use Rattle.rs_intake_queue.proofs.Parts.{part_front}
use Rattle.rs_intake_line.specs.Sweeps.{AreForEntries, IsKeptFrom, without_sweeps}

pub own_plain : (first : List Entry) → AreOwn first → without_sweeps first ≡ first
own_plain [] own = refl
own_plain (e ∷ es) own =
    let plain : is_sweep e.operation ≡ false = own.0.1 in
    let rest = ap (λ (l : List Entry). e ∷ l) (own_plain es own.1) in
    rw plain rest

-- another place than the writer's has none of them
pub own_elsewhere : (place : ℕ) → 0 < place → (first : List Entry) → AreOwn first → of_place place first ≡ []
own_elsewhere place some [] own = refl
own_elsewhere place some (e ∷ es) own =
    let here : e.origin.place ≡ 0 = own.0.0 in
    let other : (e.origin.place == place) ≡ false = grind (arith, nat_tests) in
    let rest = own_elsewhere place some es own.1 in
    rw other rest

own_at : (front rest : List Entry) (e : Entry) → AreOwn (front ++ e ∷ rest) → is_sweep e.operation ≡ false
own_at [] rest e own = own.0.1
own_at (x ∷ front) rest e own = own_at front rest e own.1

own_needed : (limit : ℕ) (P : Entry → Type 0) (first : List Entry) → AreOwn first → AreNeeded limit P first
own_needed limit P first own front rest e whole is =
    let O : List Entry → Type 0 = λ l. AreOwn l in
    let plain = own_at front rest e (subst O whole own) in
    absurd (cc (plain, is))

pub own_sweeps : (limit : ℕ) (entries first : List Entry) → AreOwn first → AreForEntries limit entries first
own_sweeps limit entries first own = record { needed = own_needed limit _ first own }

pub kept_from_first : (limit : ℕ) (first : List Entry) → AreOwn first → SerialsRise first → IsKeptFrom limit first first
kept_from_first limit first own rises =
    let P : List Entry → Type 0 = λ l. IsPart (without_sweeps first) l in
    let Q : List Entry → Type 0 = λ l. IsPart l (first ++ []) in
    record {
      part = subst P (append-nil first) (subst Q (sym (own_plain first own)) (part_front first []));
      sweeps = own_sweeps limit first first own;
      rises = rises;
    }

-- ---- serials

-- they rise behind what is of the writer's own place, if they rise and none is of it
pub rises_behind : (first entries : List Entry) → AreOwn first → SerialsRise first → of_place 0 entries ≡ [] → SerialsRise entries → SerialsRise (first ++ entries)
rises_behind first entries own rises none more place = ⊎_elim
    (λ (here : place ≡ 0).
    let theirs : serials_of place entries ≡ [] = ap (λ (p : ℕ). serials_of p entries) here ∙ ap (λ (l : List Entry). map (λ (e : Entry). e.origin.serial) l) none in
    let is : serials_of place (first ++ entries) ≡ serials_of place first = serials_of-append place first entries ∙ (ap (λ (l : List ℕ). serials_of place first ++ l) theirs ∙ append-nil (serials_of place first)) in
    subst (IsStrictlySortedBy nat_cmp) (sym is) (rises place))
    (λ (some : 0 < place).
    let ours : serials_of place first ≡ [] = ap (λ (l : List Entry). map (λ (e : Entry). e.origin.serial) l) (own_elsewhere place some first own) in
    let is : serials_of place (first ++ entries) ≡ serials_of place entries = serials_of-append place first entries ∙ ap (λ (l : List ℕ). l ++ serials_of place entries) ours in
    subst (IsStrictlySortedBy nat_cmp) (sym is) (more place))
    (eq-zero-or-pos place)
