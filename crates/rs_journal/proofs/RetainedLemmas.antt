-- Sets of messages, one for each topic, leave just these.
use Rattle.std.proofs.Common.{◌≡◌, ◌⊎◌, inl, inr, ℕ, List, [], ◌∷◌, ◌++◌, refl, sym, ap, subst, ◌∙◌, append_assoc, fold}
use Rattle.std.specs.List.Sorted.{IsStrictlySortedBy}
use Rattle.std.specs.Map.{keys_of}
use Rattle.std.specs.BTreeMap.{insert_entry}
use Rattle.std.proofs.lemmas.List.{append-nil}
use Rattle.rs_topic.specs.Order.{topic_cmp}
use Rattle.rs_topic.specs.TopicOrder.{topic_total}
use Rattle.rs_message.specs.Values.{MessageValue}
use Rattle.rs_message.specs.Messages.{set_of}
use Rattle.rs_message.specs.declared.entry.Operation.{Operation}
use Rattle.rs_message.specs.declared.entry.Operation.TheVariants.{Set}
use Rattle.rs_message.specs.declared.found.Found.{Found}
use Rattle.rs_store.specs.Contents.{after}
use Rattle.rs_store.proofs.Maps.{insert_last}
use Rattle.sqlite_wal.specs.Recovery.{Image}
use Rattle.rs_journal.specs.declared.retained.Retained.{Retained}
use Rattle.rs_journal.specs.Journals.{Keeps}
use Rattle.rs_journal.specs.Retaining.{retained_after, sets, sets_of, Retains}

abbrev pub Messages : Type 0
Messages = List (List ℕ × MessageValue)

sets_behind : (front rest : Messages) → IsStrictlySortedBy topic_cmp (keys_of (front ++ rest)) → fold after front (sets rest) ≡ front ++ rest
sets_behind front [] sorted = sym (append-nil front)
sets_behind front (e ∷ rest) sorted =
    let is : insert_entry topic_cmp front e.0 e.1 ≡ front ++ e ∷ [] = insert_last topic_cmp topic_total front rest e.0 e.1 sorted in
    let P : Messages → Type 0 = λ w. IsStrictlySortedBy topic_cmp (keys_of w) in
    ap (λ (w : Messages). fold after w (sets rest)) is
    ∙ (sets_behind (front ++ e ∷ []) rest (subst P (sym (append_assoc front (e ∷ []) rest)) sorted) ∙ append_assoc front (e ∷ []) rest)

pub sets_retained : (retained : Messages) → IsStrictlySortedBy topic_cmp (keys_of retained) → retained ≡ retained_after (sets retained)
sets_retained retained sorted = sym (sets_behind [] retained sorted)

sets_push : (front : Messages) (topic : List ℕ) (message : MessageValue) → sets front ++ set_of topic message ∷ [] ≡ sets (front ++ (topic, message) ∷ [])
sets_push [] topic message = refl
sets_push (e ∷ front) topic message = ap (λ (w : List Operation). set_of e.0 e.1 ∷ w) (sets_push front topic message)

pub sets_next : (seen : List Operation) (front : Messages) (found : Found) (topic topic' : List ℕ) (message message' : MessageValue) → found ≡ record { topic = topic'; message = message' } → topic' ≡ topic → message' ≡ message
    → (seen ++ sets front) ++ Set found ∷ [] ≡ seen ++ sets (front ++ (topic, message) ∷ [])
sets_next seen front found topic topic' message message' is same_topic same_message =
    let set : Set found ≡ set_of topic message =
    ap (λ (f : Found). Set f) is ∙ (ap (λ (w : List ℕ). set_of w message') same_topic ∙ ap (λ (w : MessageValue). set_of topic w) same_message) in
    append_assoc seen (sets front) (Set found ∷ [])
    ∙ ap (λ (w : List Operation). seen ++ w) (ap (λ (o : Operation). sets front ++ o ∷ []) set ∙ sets_push front topic message)

pub same_retained : (it : Retained) (standing : List Operation) (left : Image) → Retains it (sets_of it) → Retains it standing → Keeps left standing ⊎ Keeps left (sets_of it)
    → (operations : List Operation) × Keeps left operations × Retains it operations
same_retained it standing left leave retains (inl before) = (standing, before, retains)
same_retained it standing left leave retains (inr after) = (sets_of it, after, leave)
