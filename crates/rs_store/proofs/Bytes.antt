-- How an operation changes the number of bytes that are counted.
use Rattle.std.proofs.Common.{◌≡◌, ℕ, ◌+◌, ◌<◌, ◌≤◌, Bool, true, false, cond, List, [], ◌∷◌, length, refl, ap, ◌∙◌, arith, Some, None}
use Rattle.std.specs.List.{AllByRecursion, filter}
use Rattle.std.specs.List.Sorted.{IsStrictlySortedBy}
use Rattle.std.specs.Map.{keys_of, lookup, remove_entry}
use Rattle.std.specs.BTreeMap.{insert_entry, is_at}
use Rattle.std.specs.Ordering.{match_ordering, is_eq}
use Rattle.std.specs.declared.cmp.Ordering.{Ordering}
use Rattle.std.specs.declared.cmp.Ordering.TheVariants.{Less, Equal, Greater}
use Rattle.std.proofs.lemmas.List.{length-append}
use Rattle.std.proofs.lemmas.List.Sums.{sum_by-cons}
use Rattle.std.proofs.lemmas.Map.Keys.{sorted_head, sorted_tail}
use Rattle.rs_topic.specs.Order.{topic_cmp}
use Rattle.rs_topic.specs.TopicOrder.{exact_topics, topic_total}
use Rattle.rs_packet_property.specs.Carried.{replayed}
use Rattle.rs_packet_property.specs.Properties.{property_bytes, varint, varint_end}
use Rattle.std.specs.List.{flat_map}
use Rattle.rs_message.specs.Messages.{IsMessage}
use Rattle.rs_message.specs.Values.{MessageValue}
use Rattle.rs_store.specs.Bytes.{bytes_at, bytes_if_any, bytes_of, retained_bytes}
use Rattle.rs_store.specs.declared.limit.TheConstants.{TOPIC_BYTES}

abbrev Retained : Type 0
Retained = List (List ℕ × MessageValue)

-- ---- the sum, entry by entry

pub bytes_none : retained_bytes [] ≡ 0
unfolding retained_bytes
bytes_none = refl

pub bytes_more : (e : List ℕ × MessageValue) (es : Retained) → retained_bytes (e ∷ es) ≡ bytes_of e + retained_bytes es
unfolding retained_bytes
bytes_more e es = sum_by-cons bytes_of e es

-- ---- a Set

-- no entry behind a greater key
absent_behind : (t k : List ℕ) (es : Retained) → topic_cmp t k ≡ Less → AllByRecursion (λ y. topic_cmp k y ≡ Less) (keys_of es) → lookup (is_at (topic_cmp t)) es ≡ None
absent_behind t k [] less all = refl
absent_behind t k (e ∷ es) less all = rw (topic_total.trans t k e.0 less all.0) (absent_behind t k es less all.1)

pub bytes_insert : (es : Retained) (t : List ℕ) (m : MessageValue) → IsStrictlySortedBy topic_cmp (keys_of es) → retained_bytes (insert_entry topic_cmp es t m) + bytes_at t es ≡ retained_bytes es + bytes_of (t, m)
bytes_insert [] t m sorted = omega (arith, bytes_none, bytes_more (t, m) [])
bytes_insert (e ∷ es) t m sorted = at (topic_cmp t e.0) refl (bytes_insert es t m (sorted_tail topic_cmp e.0 (keys_of es) sorted))
  where
    at : (o : Ordering) → topic_cmp t e.0 ≡ o → retained_bytes (insert_entry topic_cmp es t m) + bytes_at t es ≡ retained_bytes es + bytes_of (t, m)
        → retained_bytes (match_ordering o ((t, m) ∷ e ∷ es) ((e.0, m) ∷ es) (e ∷ insert_entry topic_cmp es t m)) + bytes_if_any t (cond (is_eq o) (Some e.1) (lookup (is_at (topic_cmp t)) es)) ≡ retained_bytes (e ∷ es) + bytes_of (t, m)
    at Less is more =
        let none : bytes_at t es ≡ 0 = ap (bytes_if_any t) (absent_behind t e.0 es is (sorted_head topic_cmp e.0 (keys_of es) sorted)) in
        omega (arith, none, bytes_more (t, m) (e ∷ es))
    at Equal is more =
        let same : t ≡ e.0 = exact_topics t e.0 is in
        let old : bytes_of (t, e.1) ≡ bytes_of e = ap (λ (k : List ℕ). bytes_of (k, e.1)) same in
        let new : bytes_of (t, m) ≡ bytes_of (e.0, m) = ap (λ (k : List ℕ). bytes_of (k, m)) same in
        omega (arith, old, new, bytes_more (e.0, m) es, bytes_more e es)
    at Greater is more = omega (arith, more, bytes_more e es, bytes_more e (insert_entry topic_cmp es t m))

-- ---- a Clear

pub bytes_remove : (es : Retained) (t : List ℕ) → retained_bytes (remove_entry (is_at (topic_cmp t)) es) + bytes_at t es ≡ retained_bytes es
bytes_remove [] t = omega (arith, bytes_none)
bytes_remove (e ∷ es) t = at (topic_cmp t e.0) refl (bytes_remove es t)
  where
    at : (o : Ordering) → topic_cmp t e.0 ≡ o → retained_bytes (remove_entry (is_at (topic_cmp t)) es) + bytes_at t es ≡ retained_bytes es
        → retained_bytes (cond (is_eq o) es (e ∷ remove_entry (is_at (topic_cmp t)) es)) + bytes_if_any t (cond (is_eq o) (Some e.1) (lookup (is_at (topic_cmp t)) es)) ≡ retained_bytes (e ∷ es)
    at Less is more = omega (arith, more, bytes_more e es, bytes_more e (remove_entry (is_at (topic_cmp t)) es))
    at Equal is more =
        let old : bytes_of (t, e.1) ≡ bytes_of e = ap (λ (k : List ℕ). bytes_of (k, e.1)) (exact_topics t e.0 is) in
        omega (arith, old, bytes_more e es)
    at Greater is more = omega (arith, more, bytes_more e es, bytes_more e (remove_entry (is_at (topic_cmp t)) es))

-- one message counts no more than all
pub bytes_at_le : (es : Retained) (t : List ℕ) → bytes_at t es ≤ retained_bytes es
bytes_at_le es t = omega (arith, bytes_remove es t)

-- ---- a Sweep

pub bytes_filter_le : (p : List ℕ × MessageValue → Bool) (es : Retained) → retained_bytes (filter p es) ≤ retained_bytes es
bytes_filter_le p [] = omega arith
bytes_filter_le p (e ∷ es) = at (p e) (bytes_filter_le p es)
  where
    at : (b : Bool) → retained_bytes (filter p es) ≤ retained_bytes es → retained_bytes (cond b (e ∷ filter p es) (filter p es)) ≤ retained_bytes (e ∷ es)
    at true few = omega (arith, few, bytes_more e es, bytes_more e (filter p es))
    at false few = omega (arith, few, bytes_more e es)

-- ---- one message

-- its properties are shorter than a packet may be
pub section_small : (m : MessageValue) → IsMessage m → length (flat_map property_bytes (replayed m.expiry None m.properties)) < varint_end
section_small m is =
    let section = flat_map property_bytes (replayed m.expiry None m.properties) in
    omega (arith, is.fits, length-append (varint (length section)) section)

-- what it counts, by its parts
pub bytes_parts : (t : List ℕ) (m : MessageValue) (name payload digits section : ℕ) → name ≡ length t → payload ≡ length m.payload
    → section ≡ length (flat_map property_bytes (replayed m.expiry None m.properties)) → digits ≡ length (varint section)
    → TOPIC_BYTES + (name + payload + digits + section) ≡ bytes_of (t, m)
unfolding bytes_of
bytes_parts t m name payload digits section is-name is-payload is-section is-digits =
    let s = flat_map property_bytes (replayed m.expiry None m.properties) in
    let head : digits ≡ length (varint (length s)) = is-digits ∙ ap (λ (k : ℕ). length (varint k)) is-section in
    omega (arith, is-name, is-payload, is-section, head, length-append (varint (length s)) s)
