-- Lists whose Sweeps were needed, and one entry more.
use Rattle.std.proofs.Common.{◌≡◌, ℕ, true, false, List, [], ◌∷◌, ◌++◌, refl, sym, subst, ⊎_elim, append_assoc}
use Rattle.std.specs.List.{AllByRecursion}
use Rattle.rs_message.specs.Messages.{is_sweep}
use Rattle.rs_message.specs.declared.entry.Entry.{Entry}
use Rattle.rs_store.specs.History.{NeedsSweepAfter, cleaned, extended, sweep_after}
use Rattle.rs_store.specs.Needed.{AreNeeded}
use Rattle.rs_store.proofs.Histories.{snoc_splits}

pub needed_none : (limit : ℕ) (P : Entry → Type 0) → AreNeeded limit P []
needed_none limit P [] rest e is sweep = absurd (cc (is))
needed_none limit P (x ∷ xs) rest e is sweep = absurd (cc (is))

pub needed_weaker : (limit : ℕ) (P Q : Entry → Type 0) (list : List Entry) → ((e : Entry) → P e → Q e) → AreNeeded limit P list → AreNeeded limit Q list
needed_weaker limit P Q list weaker all = λ front rest e is sweep. let n = all front rest e is sweep in (n.0, weaker n.0 n.1, n.2, n.3)

-- an entry that is no Sweep comes
pub needed_more : (limit : ℕ) (P : Entry → Type 0) (list : List Entry) (last : Entry) → is_sweep last.operation ≡ false → AreNeeded limit P list → AreNeeded limit P (extended list last)
needed_more limit P list last plain all = λ front rest e is sweep. ⊎_elim
    (λ t. absurd (let other : is_sweep last.operation ≡ true = rw t.1 sweep in cc (plain, other)))
    (λ t. all front t.0 e t.1 sweep)
    (snoc_splits list front rest last e is)

-- a Sweep comes that a Set needs
pub needed_cleaned : (limit : ℕ) (P : Entry → Type 0) (list : List Entry) (setting : Entry) → P setting → (s : NeedsSweepAfter limit list setting) → AreNeeded limit P list → AreNeeded limit P (cleaned s.message.received list)
needed_cleaned limit P list setting p s all = λ front rest e is sweep. ⊎_elim
    (λ t.
    let Q : List Entry → Type 0 = λ l. (z : NeedsSweepAfter limit l setting) × (e ≡ sweep_after z.message.received l) in
    let w : Q front = subst Q t.0 (s, sym t.1) in
    (setting, p, w.0, w.1))
    (λ t. all front t.0 e t.1 sweep)
    (snoc_splits list front rest (sweep_after s.message.received list) e is)

-- what holds of each Sweep that was needed
pub all_needed : (limit : ℕ) (P : Entry → Type 0) (R : Entry → Type 0) → ((history : List Entry) (moment : ℕ) → R (sweep_after moment history)) → (front list : List Entry) → AreNeeded limit P (front ++ list)
    → AllByRecursion (λ e. is_sweep e.operation ≡ true → R e) list
all_needed limit P R each front [] all = tt
all_needed limit P R each front (e ∷ es) all = (
  λ sweep. let n = all front es e refl sweep in subst R (sym n.3) (each front n.2.message.received),
  all_needed limit P R each (front ++ e ∷ []) es (let Q : List Entry → Type 0 = λ l. AreNeeded limit P l in subst Q (sym (append_assoc front (e ∷ []) es)) all),
)
