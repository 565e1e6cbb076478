-- Entries fit behind a list if there is space for a topic for each.
use Rattle.std.proofs.Common.{◌≡◌, ℕ, ◌+◌, ◌<◌, ◌≤◌, ◌^◌, Bool, true, false, cond, List, [], ◌∷◌, ◌++◌, length, sym, subst, append_assoc, append-nil, arith}
use Rattle.std.specs.Map.{remove_entry}
use Rattle.std.specs.BTreeMap.{is_at}
use Rattle.std.specs.Ordering.{nat_cmp}
use Rattle.std.specs.List.Sorted.{IsStrictlySortedBy}
use Rattle.rs_topic.specs.Order.{topic_cmp}
use Rattle.rs_message.specs.Values.{MessageValue}
use Rattle.rs_message.specs.declared.entry.Entry.{Entry}
use Rattle.rs_message.specs.declared.entry.Operation.{Operation}
use Rattle.rs_message.specs.declared.entry.Operation.TheVariants.{Set, Clear, Sweep}
use Rattle.rs_store.specs.Contents.{Accepts, after, followed, stays}
use Rattle.rs_store.specs.History.{IsLegal, SerialsRise, Stands, extended, serials_of}
use Rattle.rs_store.specs.declared.content.Content.{Content}
use Rattle.rs_store.proofs.Histories.{serials_of-append, sorted_front}
use Rattle.rs_store.proofs.Maps.{filter_few}
use Rattle.rs_store.proofs.Standing.{rising_is_new, stands_more}
use Rattle.rs_version.specs.Space.{HasSpaceFor, HaveOrigins}
use Rattle.rs_version.proofs.First.{insert_one}

shorter_by : {A : Type 0} (b : Bool) (x : A) (xs more : List A) → length more ≤ length xs → (length (cond b xs (x ∷ more)) ≤ length (x ∷ xs)) × (length (cond b (x ∷ more) more) ≤ length (x ∷ xs))
shorter_by true x xs more h = (omega arith, omega (arith, h))
shorter_by false x xs more h = (omega (arith, h), omega (arith, h))

remove_none : {K X : Type 0} (test : K → Bool) (es : List (K × X)) → length (remove_entry test es) ≤ length es
remove_none test [] = omega arith
remove_none test (e ∷ es) = (shorter_by (test e.0) e es (remove_entry test es) (remove_none test es)).0

-- an operation adds a topic at most
after_one : (retained : List (List ℕ × MessageValue)) (o : Operation) → length (after retained o) ≤ length retained + 1
after_one retained (Set found) = insert_one topic_cmp retained found.topic found.message
after_one retained (Clear topic) = omega (arith, remove_none (is_at (topic_cmp topic)) retained)
after_one retained (Sweep moment) = omega (arith, filter_few (stays moment) retained)

rises_front : (front rest : List Entry) → SerialsRise (front ++ rest) → SerialsRise front
rises_front front rest rises = λ place.
    sorted_front (serials_of place front) (serials_of place rest) (subst (IsStrictlySortedBy nat_cmp) (serials_of-append place front rest) (rises place))

fit : (c : Content) (history entries : List Entry) → Stands c history → SerialsRise (history ++ entries) → HaveOrigins entries
    → length c.retained + length entries ≤ c.limit → c.version + length entries < 2 ^ 64 → IsLegal c.limit (history ++ entries)
fit c history [] stands rises each space few = subst (λ (l : List Entry). IsLegal c.limit l) (sym (append-nil history)) stands.legal
fit c history (e ∷ entries) stands rises each space few =
    let grouped : history ++ e ∷ entries ≡ extended history e ++ entries = sym (append_assoc history (e ∷ []) entries) in
    let rising : SerialsRise (extended history e ++ entries) = subst (λ (l : List Entry). SerialsRise l) grouped rises in
    let new = rising_is_new c history e stands each.0.0 (rises_front (extended history e) entries rising) in
    let accepts : Accepts c e = (new, (omega (arith, after_one c.retained e.operation, space), omega (arith, few))) in
    let next = stands_more c history e stands each.0.1 accepts in
    subst (λ (l : List Entry). IsLegal c.limit l) (sym grouped)
    (fit (followed c e) (extended history e) entries next rising each.1 (omega (arith, after_one c.retained e.operation, space)) (omega (arith, few)))

pub has_space : (c : Content) (history : List Entry) (limit count : ℕ) → Stands c history → c.limit ≡ limit → length c.retained + count ≤ limit → c.version + count < 2 ^ 64 → HasSpaceFor limit history count
has_space c history limit count stands is space few = λ entries short origins rises.
    subst (λ (n : ℕ). IsLegal n (history ++ entries)) is (fit c history entries stands rises origins (omega (arith, is, space, short)) (omega (arith, few, short)))
