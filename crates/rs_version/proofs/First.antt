-- What a store begins with is legal, and its writer's own.
use Rattle.std.proofs.Common.{◌≡◌, ℕ, ◌+◌, ◌<◌, ◌≤◌, ◌^◌, List, [], ◌∷◌, ◌++◌, drop, length, take, refl, sym, ap, subst, ◌∙◌, append_assoc, append-nil, length-append, arith, Ordering, Less, Equal, Greater}
use Rattle.std.proofs.lemmas.List.{drop_all, take_all}
use Rattle.std.specs.BTreeMap.{insert_entry}
use Rattle.std.specs.Ordering.{match_ordering}
use Rattle.rs_topic.specs.Order.{topic_cmp}
use Rattle.rs_message.specs.declared.entry.Entry.{Entry}
use Rattle.rs_message.specs.declared.found.Found.{Found}
use Rattle.rs_store.specs.Contents.{Accepts, empty, followed}
use Rattle.rs_store.specs.History.{IsLegal, Stands, extended, last_serial}
use Rattle.rs_store.specs.declared.content.Content.{Content}
use Rattle.rs_store.proofs.Histories.{last_serial_more}
use Rattle.rs_store.proofs.Standing.{stands_empty, stands_more}
use Rattle.rs_version.specs.First.{AreOwn, first_of, own_set, sets_behind}

pub own_sets : (serial : ℕ) (given : List Found) → AreOwn (sets_behind serial given)
own_sets serial [] = tt
own_sets serial (found ∷ given) = ((refl, refl), own_sets (serial + 1) given)

-- one message more
pub sets_push : (serial number : ℕ) (front : List Found) (found : Found) → number ≡ serial + length front + 1
    → extended (sets_behind serial front) (own_set number found) ≡ sets_behind serial (front ++ found ∷ [])
sets_push serial number [] found is = let next : number ≡ serial + 1 = omega (arith, is) in ap (λ (n : ℕ). own_set n found ∷ []) next
sets_push serial number (x ∷ front) found is = ap (λ (l : List Entry). own_set (serial + 1) x ∷ l) (sets_push (serial + 1) number front found (omega (arith, is)))

-- ---- a topic more for each Set, at most

insert_by : {K X : Type 0} (o : Ordering) (k : K) (v : X) (e : K × X) (es more : List (K × X)) → length more ≤ length es + 1
    → length (match_ordering o ((k, v) ∷ e ∷ es) ((e.0, v) ∷ es) (e ∷ more)) ≤ length (e ∷ es) + 1
insert_by Less k v e es more h = omega arith
insert_by Equal k v e es more h = omega arith
insert_by Greater k v e es more h = omega (arith, h)

pub insert_one : {K X : Type 0} (R : K → K → Ordering) (es : List (K × X)) (k : K) (v : X) → length (insert_entry R es k v) ≤ length es + 1
insert_one R [] k v = omega arith
insert_one R (e ∷ es) k v = insert_by (R k e.0) k v e es (insert_entry R es k v) (insert_one R es k v)

legal_behind : (c : Content) (history : List Entry) (serial : ℕ) (given : List Found) → Stands c history → last_serial 0 history ≡ serial
    → length c.retained + length given ≤ c.limit → c.version + length given < 2 ^ 64 → IsLegal c.limit (history ++ sets_behind serial given)
legal_behind c history serial [] stands last space few = subst (λ (l : List Entry). IsLegal c.limit l) (sym (append-nil history)) stands.legal
legal_behind c history serial (found ∷ given) stands last space few =
    let e = own_set (serial + 1) found in
    let one = insert_one topic_cmp c.retained found.topic found.message in
    let kept = stands.serials 0 in
    let accepts : Accepts c e = (omega (arith, kept, last), (omega (arith, one, space), omega (arith, few))) in
    let more = last_serial_more 0 history e in
    let next : last_serial 0 (extended history e) ≡ serial + 1 = omega (arith, more, last) in
    subst (λ (l : List Entry). IsLegal c.limit l) (append_assoc history (e ∷ []) (sets_behind (serial + 1) given))
    (legal_behind (followed c e) (extended history e) (serial + 1) given (stands_more c history e stands (omega arith) accepts) next (omega (arith, one, space)) (omega (arith, few)))

-- so the first entries are legal if there are no more messages than topics may hold one
pub first_legal : (limit : ℕ) (given : List Found) → length given ≤ limit → limit < 2 ^ 64 → IsLegal limit (first_of given)
first_legal limit given few small = legal_behind (empty limit) [] 0 given (stands_empty limit) refl (omega (arith, few)) (omega (arith, few, small))

pub next_legal : (limit : ℕ) (done rest given : List Found) (found : Found) (number : ℕ) → done ++ found ∷ rest ≡ given → length given ≤ limit → limit < 2 ^ 64 → number ≡ length done + 1
    → IsLegal limit (extended (first_of done) (own_set number found))
next_legal limit done rest given found number whole few small is =
    let L : List Entry → Type 0 = λ l. IsLegal limit l in
    let split : (done ++ found ∷ []) ++ rest ≡ given = append_assoc done (found ∷ []) rest ∙ whole in
    let n = ap length split in
    let m = length-append (done ++ found ∷ []) rest in
    subst L (sym (sets_push 0 number done found (omega (arith, is)))) (first_legal limit (done ++ found ∷ []) (omega (arith, n, m, few)) small)

-- a slice of all of a list that was written back
pub written_back : {A : Type 0} (n : ℕ) (xs items : List A) → length xs ≤ n → length items ≤ length xs → take n (xs ++ drop (length xs) items) ≡ xs
written_back n xs items all none =
    ap (λ l. take n (xs ++ l)) (drop_all (length xs) items none) ∙ (ap (λ l. take n l) (append-nil xs) ∙ take_all n xs all)
