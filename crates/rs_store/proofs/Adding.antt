-- When a Sweep makes space for a Set, of a content and of the lists that it stands for.
use Rattle.rs_store.proofs.Expiring.{all_counted}
use Rattle.std.proofs.Common.{⊎_elim, ◌≡◌, ◌≢◌, ◌==◌, ℕ, ◌+◌, ◌<◌, ◌≤◌, ◌⊎◌, inl, inr, Bool, true, false, List, [], ◌∷◌, ◌++◌, length, refl, sym, ap, subst, ◌∙◌, arith, get_or, set}
use Rattle.std.specs.Prelude.{slice_index, ◌^◌, Some, None, nat_lt, if◌then◌else◌}
use Rattle.std.specs.List.{filter}
use Rattle.std.specs.BTreeMap.{insert_entry}
use Rattle.std.specs.Ordering.{match_ordering}
use Rattle.std.specs.declared.cmp.Ordering.{Ordering}
use Rattle.std.specs.declared.cmp.Ordering.TheVariants.{Less, Equal, Greater}
use Rattle.std.proofs.lemmas.List.{get_or-set_same, get_or-set_other}
use Rattle.rs_topic.specs.Order.{topic_cmp}
use Rattle.rs_message.specs.Messages.{set_of}
use Rattle.rs_message.specs.Values.{MessageValue}
use Rattle.rs_message.specs.declared.entry.Entry.{Entry}
use Rattle.rs_message.specs.declared.entry.TheConstants.{MAX_LINES}
use Rattle.rs_store.specs.Contents.{Accepts, HasSpace, IsAdded, IsNew, IsNotNext, NeedsSweep, NotAddedBy, after, expired_in, followed, is_gone, next_sweep, serial_count, stays, swept}
use Rattle.rs_store.specs.History.{IsLegal, MayNotCome, NeedsSweepAfter, Stands, cleaned, extended, sweep_after}
use Rattle.rs_store.specs.Adding.{Adds, NotAdds}
use Rattle.rs_store.specs.declared.content.Content.{Content}
use Rattle.rs_store.specs.declared.fault.Refusal.{Refusal}
use Rattle.rs_store.specs.declared.fault.Refusal.TheVariants.{Full, Stale, NoMemory}
use Rattle.rs_store.proofs.Maps.{filter_few}
use Rattle.rs_store.proofs.Histories.{holds_few, legal_front, never_overfull_more, same_set}
use Rattle.rs_store.proofs.Standing.{accepts, at_most, has_space, retained_more, keeps_at_most, legal_more, new_rises, rising_is_new, stands_more}
use Rattle.std.proofs.lemmas.Bool.{cases_lt}
use Rattle.std.proofs.lemmas.Bool.Decides.{nat_tests}

-- an insertion adds at most one
pub insert_few : (retained : List (List ℕ × MessageValue)) (t : List ℕ) (m : MessageValue) → length (insert_entry topic_cmp retained t m) ≤ length retained + 1
insert_few [] t m = omega arith
insert_few (e ∷ es) t m = at (topic_cmp t e.0) (insert_few es t m)
  where
    at : (o : Ordering) → length (insert_entry topic_cmp es t m) ≤ length es + 1 → length (match_ordering o ((t, m) ∷ e ∷ es) ((e.0, m) ∷ es) (e ∷ insert_entry topic_cmp es t m)) ≤ length (e ∷ es) + 1
    at Less few = omega arith
    at Equal few = omega arith
    at Greater few = omega (arith, few)

-- if nothing is expired, all stay
pub all_stay : (moment : ℕ) (retained : List (List ℕ × MessageValue)) → length (filter (is_gone moment) retained) ≡ 0 → filter (stays moment) retained ≡ retained
all_stay moment [] none = refl
all_stay moment (e ∷ es) none = at (is_gone moment e) refl (all_stay moment es)
  where
    at : (b : Bool) → is_gone moment e ≡ b → (length (filter (is_gone moment) es) ≡ 0 → filter (stays moment) es ≡ es) → filter (stays moment) (e ∷ es) ≡ e ∷ es
    at true is more = absurd (let n : length (e ∷ filter (is_gone moment) es) ≡ 0 = rw is at none in omega (arith, n))
    at false is more = let n : length (filter (is_gone moment) es) ≡ 0 = rw is at none in rw is (ap (λ w. e ∷ w) (more n))

-- without an expired message no Sweep makes space
pub not_without : (c : Content) (e : Entry) (topic : List ℕ) (message : MessageValue) → e.operation ≡ set_of topic message → expired_in message.received c ≡ 0 → NeedsSweep c e → ⊥
not_without c e topic message is none s =
    let same : set_of s.topic s.message ≡ set_of topic message = sym s.sets ∙ is in
    let one : s.message ≡ message = (same_set s.topic topic s.message message same).1 in
    let stay : filter (stays s.message.received) c.retained ≡ c.retained = all_stay s.message.received c.retained (rw one none) in
    let space : length (after (filter (stays s.message.received) c.retained) e.operation) ≤ c.limit = s.fits.1.0 in
    omega (arith, s.full, rw stay at space)

-- with one, a Sweep makes space
space_made : (c : Content) (e : Entry) (topic : List ℕ) (message : MessageValue) → length c.serials ≡ serial_count → e.operation ≡ set_of topic message → IsNew c e → ¬ HasSpace c e → length c.retained ≤ c.limit → 0 < expired_in message.received c
    → c.version + 2 < 2 ^ 64 → slice_index c.serials 0 + 1 < 2 ^ 64 → (e.origin.place ≡ 0 → slice_index c.serials 0 + 1 < e.origin.serial) → NeedsSweep c e
space_made c e topic message wide is new full few some version serial above = record {
  topic = topic;
  message = message;
  sets = is;
  new = new;
  full = overfull;
  serial = serial;
  sweeps = (omega arith, (omega (arith, few, filter_few (stays message.received) c.retained), omega (arith, version)));
  fits = (newer (e.origin.place == 0) refl, (rw is (omega (arith, few, some, all_counted message.received c.retained, insert_few (filter (stays message.received) c.retained) topic message)), omega (arith, version)));
}
  where
    overfull : c.limit < length (after c.retained e.operation)
    overfull = ⊎_elim (λ h. h) (λ h. absurd (full (h, omega (arith, version)))) (cases_lt c.limit (length (after c.retained e.operation)))

    newer : (b : Bool) → (e.origin.place == 0) ≡ b → get_or (set c.serials 0 (slice_index c.serials 0 + 1)) e.origin.place 0 < e.origin.serial
    newer true same =
        let zero : e.origin.place ≡ 0 = grind (arith, nat_tests) in
        let there : get_or (set c.serials 0 (slice_index c.serials 0 + 1)) 0 0 ≡ slice_index c.serials 0 + 1 = get_or-set_same c.serials 0 (slice_index c.serials 0 + 1) 0 (omega (arith, wide)) in
        rw (zero, there) (above zero)
    newer false same =
        let other : e.origin.place ≢ 0 = λ p. grind (arith, nat_tests) in
        rw (get_or-set_other c.serials 0 e.origin.place (slice_index c.serials 0 + 1) 0 other) new

pub makes_space : (c : Content) (e : Entry) (topic : List ℕ) (message : MessageValue) → length c.serials ≡ serial_count → e.operation ≡ set_of topic message → IsNew c e → ¬ HasSpace c e → length c.retained ≤ c.limit → 0 < expired_in message.received c
    → c.version + 2 < 2 ^ 64 → slice_index c.serials 0 + 1 < 2 ^ 64 → (e.origin.place ≡ 0 → slice_index c.serials 0 + 1 < e.origin.serial) → (s : NeedsSweep c e) × (s.message ≡ message)
unfolding space_made
makes_space c e topic message wide is new full few some version serial above = (space_made c e topic message wide is new full few some version serial above, refl)

-- nor does one whose serial is not below that of the Set, if that is the writer's too
pub not_above : (c : Content) (e : Entry) → length c.serials ≡ serial_count → e.origin.place ≡ 0 → e.origin.serial ≤ slice_index c.serials 0 + 1 → NeedsSweep c e → ⊥
not_above c e wide zero small s =
    let there : get_or (set c.serials 0 (slice_index c.serials 0 + 1)) 0 0 ≡ slice_index c.serials 0 + 1 = get_or-set_same c.serials 0 (slice_index c.serials 0 + 1) 0 (omega (arith, wide)) in
    let above : get_or (set c.serials 0 (slice_index c.serials 0 + 1)) 0 0 < e.origin.serial = rw zero at s.fits.0 in
    omega (arith, above, there, small)

-- ---- the same of lists

same_sweep : (c : Content) (history : List Entry) (moment : ℕ) → Stands c history → next_sweep moment c ≡ sweep_after moment history
same_sweep c history moment s = rw (s.serials 0) refl

pub stands_swept : (c : Content) (history : List Entry) (moment : ℕ) → Stands c history → Accepts c (next_sweep moment c) → Stands (swept moment c) (cleaned moment history)
stands_swept c history moment s a = let P : List Entry → Type 0 = λ l. Stands (swept moment c) l in subst P (ap (λ (z : Entry). extended history z) (same_sweep c history moment s)) (stands_more c history (next_sweep moment c) s (omega arith) a)

pub swept_for : (c : Content) (history : List Entry) (e : Entry) → Stands c history → e.origin.place ≤ MAX_LINES → (s : NeedsSweep c e) → NeedsSweepAfter c.limit history e
swept_for c history e stands small s = record {
  topic = s.topic;
  message = s.message;
  sets = s.sets;
  rises = new_rises c history e stands s.new;
  overfull = λ fits. omega (arith, s.full, keeps_at_most (history ++ e ∷ []) (after c.retained e.operation) c.limit (retained_more history e c.retained stands.retained) (holds_few c.limit (history ++ e ∷ []) fits));
  serial = rw (← stands.serials 0) s.serial;
  legal = legal_more (swept s.message.received c) (cleaned s.message.received history) e (stands_swept c history s.message.received stands s.sweeps) s.fits;
}

pub swept_back : (c : Content) (history : List Entry) (e : Entry) → Stands c history → 0 < e.origin.serial → NeedsSweepAfter c.limit history e → NeedsSweep c e
swept_back c history e stands some s =
    let clean = legal_front c.limit (cleaned s.message.received history) (extended (cleaned s.message.received history) e) (e ∷ [], refl) s.legal in
    let sweeps = accepts c history (next_sweep s.message.received c) stands (omega arith) (let P : List Entry → Type 0 = λ l. IsLegal c.limit l in subst P (sym (ap (λ (z : Entry). extended history z) (same_sweep c history s.message.received stands))) clean) in
    record {
      topic = s.topic;
      message = s.message;
      sets = s.sets;
      new = rising_is_new c history e stands some s.rises;
      full = ⊎_elim (λ h. h) (λ h. absurd (s.overfull (never_overfull_more c.limit history e stands.legal.fits (at_most (history ++ e ∷ []) (after c.retained e.operation) c.limit (retained_more history e c.retained stands.retained) h)))) (cases_lt c.limit (length (after c.retained e.operation)));
      serial = rw (stands.serials 0) s.serial;
      sweeps = sweeps;
      fits = accepts (swept s.message.received c) (cleaned s.message.received history) e (stands_swept c history s.message.received stands sweeps) some s.legal;
    }

-- the origin of a serial that is not 0
pub named : {A : Type 0} (n : ℕ) (o r : A) → 0 < n → Some o ≡ (if nat_lt 0 n then Some r else None) → o ≡ r
named n o r some is = at (nat_lt 0 n) refl is
  where
    at : (b : Bool) → nat_lt 0 n ≡ b → Some o ≡ (if b then Some r else None) → o ≡ r
    at true p e = cc (e)
    at false p e = absurd (grind (arith, nat_tests))

-- ---- what `judge` says of a content, and of its lists

-- the Sweep that comes before the entry
abbrev pub Precedes : Content → Entry → Entry → Type 0
Precedes c e sweep = (s : NeedsSweep c e) × (sweep ≡ next_sweep s.message.received c)

pub precedes : (c : Content) (history : List Entry) (e sweep : Entry) → Stands c history → e.origin.place ≤ MAX_LINES → Precedes c e sweep → (s : NeedsSweepAfter c.limit history e) × (sweep ≡ sweep_after s.message.received history)
unfolding swept_for
precedes c history e sweep s small p = (swept_for c history e s small p.0, p.1 ∙ same_sweep c history p.0.message.received s)

pub may_not_come : (c : Content) (history : List Entry) (e : Entry) (r : Refusal) → Stands c history → 0 < e.origin.serial → IsNotNext c e r → MayNotCome c.limit history e r
may_not_come c history e Stale s some n = λ rises. n (rising_is_new c history e s some rises)
may_not_come c history e Full s some n = (new_rises c history e s n.0.0, λ space. n.0.1 (has_space c history e s space), λ w. n.1 (swept_back c history e s some w))
may_not_come c history e NoMemory s some n = absurd n

-- ---- what `add` makes of a content, and of its lists

-- the entry may come next, after the Sweep that comes before it if there is one
abbrev pub IsReady : Content → Entry → Content → Type 0
IsReady c e new = (Accepts c e × (new ≡ c)) ⊎ ((s : NeedsSweep c e) × (new ≡ swept s.message.received c))

pub precedes_ready : (c : Content) (e sweep : Entry) (new : Content) → Precedes c e sweep → new ≡ followed c sweep → IsReady c e new
precedes_ready c e sweep new p is = inr (p.0, is ∙ ap (λ (z : Entry). followed c z) p.1)

pub ready_accepts : (c : Content) (e : Entry) (new : Content) → IsReady c e new → Accepts new e
ready_accepts c e new (inl r) = let P : Content → Type 0 = λ w. Accepts w e in subst P (sym r.1) r.0
ready_accepts c e new (inr r) = let P : Content → Type 0 = λ w. Accepts w e in subst P (sym r.1) r.0.fits

pub ready_added : (c : Content) (e : Entry) (new last : Content) → IsReady c e new → last ≡ followed new e → IsAdded c e last
ready_added c e new last (inl r) is = inl (r.0, is ∙ ap (λ w. followed w e) r.1)
ready_added c e new last (inr r) is = inr (r.0, is ∙ ap (λ w. followed w e) r.1)

pub ready_refused : (c : Content) (e : Entry) (new last : Content) → IsReady c e new → last ≡ new → NotAddedBy c e NoMemory last
ready_refused c e new last (inl r) is = inl (r.0, is ∙ r.1)
ready_refused c e new last (inr r) is = inr (r.0, inr (is ∙ r.1))

stands_at : (c new : Content) (history : List Entry) → new ≡ c → Stands c history → Stands new history
stands_at c new history is s = let P : Content → Type 0 = λ w. Stands w history in subst P (sym is) s

pub adds : (c : Content) (history : List Entry) (e : Entry) (new : Content) → Stands c history → e.origin.place ≤ MAX_LINES → IsAdded c e new → Adds c.limit history e (Stands new)
unfolding swept_for
adds c history e new s small (inl a) = inl (legal_more c history e s a.0, stands_at (followed c e) new (extended history e) a.1 (stands_more c history e s small a.0))
adds c history e new s small (inr a) =
    let m = a.0.message.received in
    inr (swept_for c history e s small a.0, stands_at (followed (swept m c) e) new (extended (cleaned m history) e) a.1 (stands_more (swept m c) (cleaned m history) e (stands_swept c history m s a.0.sweeps) small a.0.fits))

pub not_adds : (c : Content) (history : List Entry) (e : Entry) (r : Refusal) (new : Content) → Stands c history → e.origin.place ≤ MAX_LINES → 0 < e.origin.serial → NotAddedBy c e r new → NotAdds c.limit history e r (Stands new)
unfolding swept_for
not_adds c history e Stale new s small some n = (may_not_come c history e Stale s some n.0, stands_at c new history n.1 s)
not_adds c history e Full new s small some n = (may_not_come c history e Full s some n.0, stands_at c new history n.1 s)
not_adds c history e NoMemory new s small some (inl n) = inl (legal_more c history e s n.0, stands_at c new history n.1 s)
not_adds c history e NoMemory new s small some (inr n) = inr (
  swept_for c history e s small n.0,
  ⊎_elim
      (λ k. inl (stands_at c new history k s))
      (λ k. inr (stands_at (swept n.0.message.received c) new (cleaned n.0.message.received history) k (stands_swept c history n.0.message.received s n.0.sweeps)))
      n.1,
)
