-- Entries under the next serials.
use Rattle.std.proofs.Common.{◌≡◌, ◌==◌, ℕ, suc, ◌+◌, ◌<◌, ◌≤◌, Bool, true, false, cond, max, List, [], ◌∷◌, ◌++◌, length, refl, sym, ap, subst, append_assoc, arith}
use Rattle.std.specs.List.{AllByRecursion}
use Rattle.std.proofs.lemmas.List.{append-nil}
use Rattle.rs_message.specs.Messages.{is_sweep}
use Rattle.rs_message.specs.declared.entry.Entry.{Entry}
use Rattle.rs_message.specs.declared.entry.Operation.{Operation}
use Rattle.rs_store.specs.History.{last_serial}
use Rattle.rs_store.proofs.Histories.{last_serial_more}
use Rattle.rs_intake_queue.specs.Changes.{AreOf, AreOfOneJob, ArePlain, entry_at, numbered}
use Rattle.rs_intake_queue.specs.QueueRule.{AreAbove}
use Rattle.rs_intake_queue.specs.declared.job.TheConstants.{MAX_CHANGES}

pub numbered_length : (place serial : ℕ) (os : List Operation) → length (numbered place serial os) ≡ length os
numbered_length place serial [] = refl
numbered_length place serial (o ∷ os) = ap suc (numbered_length place (serial + 1) os)

pub numbered_of : (place serial : ℕ) (os : List Operation) → AreOf place (numbered place serial os)
numbered_of place serial [] = tt
numbered_of place serial (o ∷ os) = (refl, numbered_of place (serial + 1) os)

numbered_plain : (place serial : ℕ) (os : List Operation) → AllByRecursion (λ o. is_sweep o ≡ false) os → ArePlain (numbered place serial os)
numbered_plain place serial [] plain = tt
numbered_plain place serial (o ∷ os) plain = (plain.0, numbered_plain place (serial + 1) os plain.1)

pub last_below : (place serial : ℕ) (entries : List Entry) (e : Entry) → last_serial place entries ≤ serial → e.origin.serial ≤ serial → last_serial place (entries ++ e ∷ []) ≤ serial
last_below place serial entries e low here = go (e.origin.place == place) (last_serial_more place entries e)
  where
    go : (b : Bool) → last_serial place (entries ++ e ∷ []) ≡ cond b (max (last_serial place entries) e.origin.serial) (last_serial place entries) → last_serial place (entries ++ e ∷ []) ≤ serial
    go true is = omega (arith, is, low, here)
    go false is = omega (arith, is, low)

pub numbered_above : (place serial : ℕ) (os : List Operation) (entries : List Entry) → last_serial place entries ≤ serial → AreAbove entries (numbered place serial os)
numbered_above place serial [] entries low = tt
numbered_above place serial (o ∷ os) entries low = (
  omega (arith, low),
  numbered_above place (serial + 1) os (entries ++ entry_at place (serial + 1) o ∷ []) (last_below place (serial + 1) entries (entry_at place (serial + 1) o) (omega (arith, low)) (omega arith)),
)

pub numbered_last : (place serial : ℕ) (os : List Operation) (entries : List Entry) → last_serial place entries ≤ serial → last_serial place (entries ++ numbered place serial os) ≤ serial + length os
numbered_last place serial [] entries low = let P : List Entry → Type 0 = λ l. last_serial place l ≤ serial + 0 in subst P (sym (append-nil entries)) (omega (arith, low))
numbered_last place serial (o ∷ os) entries low =
    let e = entry_at place (serial + 1) o in
    let rest = numbered_last place (serial + 1) os (entries ++ e ∷ []) (last_below place (serial + 1) entries e (omega (arith, low)) (omega arith)) in
    let P : List Entry → Type 0 = λ l. last_serial place l ≤ serial + suc (length os) in
    subst P (append_assoc entries (e ∷ []) (numbered place (serial + 1) os)) (omega (arith, rest))

pub numbered_changes : (place serial : ℕ) (os : List Operation) → 0 < place → 0 < length (numbered place serial os) → length os ≤ MAX_CHANGES → AllByRecursion (λ o. is_sweep o ≡ false) os → AreOfOneJob (numbered place serial os)
numbered_changes place serial [] above some few plain = absurd (omega (arith, some))
numbered_changes place serial (o ∷ os) above some few plain =
    let n = numbered_length place serial (o ∷ os) in
    record {
      some = some;
      few = omega (arith, n, few);
      above = above;
      place = numbered_of place serial (o ∷ os);
      plain = numbered_plain place serial (o ∷ os) plain;
    }
