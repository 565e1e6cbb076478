-- A Sweep against what is retained and answered.
use Rattle.std.proofs.Common.{◌≡◌, ℕ, ◌≤◌, ⊎_elim, Bool, true, false, Option, Some, None, List, refl, sym, subst, ◌∙◌, arith}
use Rattle.std.specs.Prelude.{◌↔◌, nat_le}
use Rattle.std.proofs.lemmas.Bool.Decides.{nat_tests}
use Rattle.rs_message.specs.Values.{MessageValue}
use Rattle.rs_message.specs.Messages.{is_expired, is_over, left_of, waited, set_of}
use Rattle.rs_message.specs.declared.entry.Entry.{Entry}
use Rattle.rs_message.specs.declared.found.Found.{Found}
use Rattle.rs_message.specs.declared.entry.Operation.{Operation}
use Rattle.rs_message.specs.declared.entry.Operation.TheVariants.{Sweep}
use Rattle.rs_store.specs.History.{Displaces, Holds, IsAnswer, extended}
use Rattle.rs_store.proofs.Histories.{retained_before, retained_still}

-- what is expired stays so
over_later : (expiry : Option ℕ) (a b : ℕ) → a ≤ b → is_over (left_of expiry a) ≡ true → is_over (left_of expiry b) ≡ true
over_later None a b h over = absurd (cc (over))
over_later (Some n) a b h over = at (nat_le n a) refl (nat_le n b) refl
  where
    at : (x : Bool) → nat_le n a ≡ x → (y : Bool) → nat_le n b ≡ y → is_over (left_of (Some n) b) ≡ true
    at x p true q = rw q refl
    at true p false q = absurd (grind (arith, nat_tests, p, q, h))
    at false p false q = absurd (let e : false ≡ true = (rw p at over) in cc (e))

pub expired_later : (m : MessageValue) (moment now : ℕ) → moment ≤ now → is_expired moment m ≡ true → is_expired now m ≡ true
expired_later m moment now h over = over_later m.expiry (waited m moment) (waited m now) (omega (arith, h)) over

holds_before : (history : List Entry) (e : Entry) (moment : ℕ) (topic : List ℕ) (message : MessageValue) → e.operation ≡ Sweep moment → Holds (extended history e) topic message → Holds history topic message
holds_before history e moment topic message is h = ⊎_elim
    (λ t. absurd (let same : Sweep moment ≡ set_of topic message = sym is ∙ t in cc (same)))
    (λ t. t.0)
    (retained_before history e topic message h)

holds_after : (history : List Entry) (e : Entry) (moment now : ℕ) (topic : List ℕ) (message : MessageValue) → e.operation ≡ Sweep moment → moment ≤ now → is_expired now message ≡ false → Holds history topic message → Holds (extended history e) topic message
holds_after history e moment now topic message is later fresh h = retained_still history e topic message h
    (λ ends.
    let over : is_expired now message ≡ true = expired_later message moment now later (let P : Operation → Type 0 = λ o. Displaces o topic message in subst P is ends) in
    cc (over, fresh))

pub sweeps : (history : List Entry) (e : Entry) (moment now : ℕ) (pattern : List ℕ) (answer : List Found) → e.operation ≡ Sweep moment → moment ≤ now
    → (IsAnswer (extended history e) pattern now answer ↔ IsAnswer history pattern now answer)
sweeps history e moment now pattern answer is later = (
  λ a. record {
    rises = a.rises;
    sound = λ found there. let t = a.sound found there in (holds_before history e moment found.topic found.message is t.0, t.1, t.2);
    complete = λ found holds matched fresh. a.complete found (holds_after history e moment now found.topic found.message is later fresh holds) matched fresh;
  },
  λ a. record {
    rises = a.rises;
    sound = λ found there. let t = a.sound found there in (holds_after history e moment now found.topic found.message is later t.2 t.0, t.1, t.2);
    complete = λ found holds matched fresh. a.complete found (holds_before history e moment found.topic found.message is holds) matched fresh;
  },
)
