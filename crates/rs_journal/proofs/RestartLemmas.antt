-- Lists of entries that retain the same.
use Rattle.std.proofs.Common.{◌≡◌, ⊎_elim, ℕ, List, [], ◌∷◌, ◌++◌, sym, subst, append_assoc, append-nil}
use Rattle.std.specs.Prelude.{◌↔◌, fold}
use Rattle.rs_message.specs.Values.{MessageValue}
use Rattle.rs_message.specs.declared.entry.Entry.{Entry}
use Rattle.rs_message.specs.declared.entry.Operation.{Operation}
use Rattle.rs_message.specs.declared.found.Found.{Found}
use Rattle.rs_store.specs.Contents.{after}
use Rattle.rs_store.specs.History.{AreRetained, Holds, IsAnswer}
use Rattle.rs_store.proofs.Histories.{retained_before, retained_by_last, retained_still}
use Rattle.rs_store.proofs.Standing.{nothing_retained, retained_more}
use Rattle.rs_journal.specs.Retaining.{retained_after, sets}
use Rattle.rs_journal.specs.Restarting.{operations_of}
use Rattle.rs_journal.proofs.RetainedLemmas.{sets_retained}

-- ---- what operations retain

retain_from : (front rest : List Entry) (retained : List (List ℕ × MessageValue)) → AreRetained front retained → AreRetained (front ++ rest) (fold after retained (operations_of rest))
retain_from front [] retained are = subst (λ (l : List Entry). AreRetained l retained) (sym (append-nil front)) are
retain_from front (e ∷ rest) retained are =
    subst (λ (l : List Entry). AreRetained l (fold after (after retained e.operation) (operations_of rest))) (append_assoc front (e ∷ []) rest)
    (retain_from (front ++ e ∷ []) rest (after retained e.operation) (retained_more front e retained are))

pub operations_retain : (entries : List Entry) → AreRetained entries (retained_after (operations_of entries))
operations_retain entries = retain_from [] entries [] nothing_retained

pub sets_retain : (old first : List Entry) (retained : List (List ℕ × MessageValue)) → AreRetained old retained → operations_of first ≡ sets retained → AreRetained first retained
sets_retain old first retained are same =
    let O : List Operation → Type 0 = λ l. AreRetained first (retained_after l) in
    subst (λ (l : List (List ℕ × MessageValue)). AreRetained first l) (sym (sets_retained retained are.rises)) (subst O same (operations_retain first))

-- ---- lists that hold the same

abbrev HoldAll : List Entry → List Entry → Type 0
HoldAll old first = (topic : List ℕ) (message : MessageValue) → Holds old topic message → Holds first topic message

all_more : (old first : List Entry) (e : Entry) → HoldAll old first → HoldAll (old ++ e ∷ []) (first ++ e ∷ [])
all_more old first e all topic message h = ⊎_elim
    (λ sets. retained_by_last first e topic message sets)
    (λ kept. retained_still first e topic message (all topic message kept.0) kept.1)
    (retained_before old e topic message h)

all_behind : (old first rest : List Entry) → HoldAll old first → HoldAll (old ++ rest) (first ++ rest)
all_behind old first [] all = λ topic message h.
    subst (λ (l : List Entry). Holds l topic message) (sym (append-nil first)) (all topic message (subst (λ (l : List Entry). Holds l topic message) (append-nil old) h))
all_behind old first (e ∷ rest) all = λ topic message h.
    subst (λ (l : List Entry). Holds l topic message) (append_assoc first (e ∷ []) rest)
    (all_behind (old ++ e ∷ []) (first ++ e ∷ []) rest (all_more old first e all) topic message
    (subst (λ (l : List Entry). Holds l topic message) (sym (append_assoc old (e ∷ []) rest)) h))

same_answer : (old first : List Entry) (pattern : List ℕ) (now : ℕ) (answer : List Found) → HoldAll old first → HoldAll first old → IsAnswer old pattern now answer → IsAnswer first pattern now answer
same_answer old first pattern now answer there back a = record {
  rises = a.rises;
  sound = λ found has. let t = a.sound found has in (there found.topic found.message t.0, t.1, t.2);
  complete = λ found holds matched fresh. a.complete found (back found.topic found.message holds) matched fresh;
}

pub answer_alike : (old first rest : List Entry) (retained : List (List ℕ × MessageValue)) → AreRetained old retained → AreRetained first retained
    → (pattern : List ℕ) (now : ℕ) (answer : List Found) → IsAnswer (old ++ rest) pattern now answer ↔ IsAnswer (first ++ rest) pattern now answer
answer_alike old first rest retained a b pattern now answer =
    let there = all_behind old first rest (λ topic message h. b.sound topic message (a.complete topic message h)) in
    let back = all_behind first old rest (λ topic message h. a.sound topic message (b.complete topic message h)) in (
      same_answer (old ++ rest) (first ++ rest) pattern now answer there back,
      same_answer (first ++ rest) (old ++ rest) pattern now answer back there,
    )
