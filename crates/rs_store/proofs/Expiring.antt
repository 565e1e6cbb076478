-- When messages expire.
use Rattle.std.proofs.Common.{◌≡◌, ℕ, ◌+◌, ◌-◌, ◌<◌, ◌≤◌, ◌^◌, min, Bool, true, false, Option, Some, None, List, [], ◌∷◌, length, ⊎_elim, refl, sym, subst, arith}
use Rattle.std.specs.Prelude.{nat_eq, nat_le}
use Rattle.std.specs.List.{filter}
use Rattle.std.specs.Map.{remove_entry}
use Rattle.std.specs.BTreeMap.{insert_entry, is_at}
use Rattle.std.specs.declared.cmp.Ordering.{Ordering}
use Rattle.std.specs.declared.cmp.Ordering.TheVariants.{Less, Equal, Greater}
use Rattle.std.proofs.lemmas.Bool.{cases_lt}
use Rattle.std.proofs.lemmas.Bool.Decides.{nat_tests}
use Rattle.rs_topic.specs.Order.{topic_cmp}
use Rattle.rs_message.specs.Values.{MessageValue}
use Rattle.rs_message.specs.Messages.{is_over, left_of, set_of}
use Rattle.rs_message.specs.declared.entry.Entry.{Entry}
use Rattle.rs_message.specs.declared.entry.Operation.TheVariants.{Clear, Sweep}
use Rattle.rs_store.specs.Contents.{followed, is_gone, stays}
use Rattle.rs_store.specs.Expiring.{NoneExpiredBefore, ends_at, ends_of, first_end}
use Rattle.rs_store.specs.declared.content.Content.{Content}

-- ---- before the end of a message it is not expired, and at its end it is

fresh : (expiry : Option ℕ) (received now x : ℕ) → x ≤ ends_of expiry received → now < x → is_over (left_of expiry (now - received)) ≡ false
fresh None received now x h small = refl
fresh (Some n) received now x h small = at (nat_le n (now - received)) refl (nat_eq n 0) refl
  where
    at : (b : Bool) → nat_le n (now - received) ≡ b → (z : Bool) → nat_eq n 0 ≡ z → is_over (left_of (Some n) (now - received)) ≡ false
    at false p z q = rw p refl
    at true p true q = absurd (let k : x ≤ 0 = (rw q at h) in omega (arith, k, small))
    at true p false q = absurd (let k : x ≤ min (received + n) (2 ^ 64 - 1) = (rw q at h) in let less : x ≤ received + n = omega (arith, k) in grind (arith, nat_tests, p, q, less, small))

ended : (expiry : Option ℕ) (received : ℕ) → ends_of expiry received < 2 ^ 64 - 1 → is_over (left_of expiry (ends_of expiry received - received)) ≡ true
ended None received small = absurd (omega (arith, small))
ended (Some n) received small = at (nat_eq n 0) refl (nat_le n (ends_of (Some n) received - received)) refl
  where
    at : (z : Bool) → nat_eq n 0 ≡ z → (b : Bool) → nat_le n (ends_of (Some n) received - received) ≡ b → is_over (left_of (Some n) (ends_of (Some n) received - received)) ≡ true
    at z q true p = rw p refl
    at true q false p = absurd (grind (arith, nat_tests, p, q))
    at false q false p = absurd (
        let s : min (received + n) (2 ^ 64 - 1) < 2 ^ 64 - 1 = rw q at small in
        let e : nat_le n (min (received + n) (2 ^ 64 - 1) - received) ≡ false = rw q at p in
        grind (arith, nat_tests, s, e)
        )

-- ---- the first end of messages

pub end_below : (bound : ℕ) (es : List (List ℕ × MessageValue)) → first_end bound es ≤ bound
end_below bound [] = omega arith
end_below bound (e ∷ es) = omega (arith, end_below (min bound (ends_at e.1)) es)

-- before it none is expired
none_before : (bound now : ℕ) (es : List (List ℕ × MessageValue)) → now < first_end bound es → length (filter (is_gone now) es) ≡ 0
none_before bound now [] small = refl
none_before bound now (e ∷ es) small =
    let less : first_end bound (e ∷ es) ≤ ends_at e.1 = omega (arith, end_below (min bound (ends_at e.1)) es) in
    let is : is_gone now e ≡ false = fresh e.1.expiry e.1.received now (first_end bound (e ∷ es)) less small in
    rw is (none_before (min bound (ends_at e.1)) now es small)

pub calm_until : (until : ℕ) (es : List (List ℕ × MessageValue)) → until ≡ first_end (2 ^ 64 - 1) es → (now : ℕ) → now < until → length (filter (is_gone now) es) ≡ 0
calm_until until es is now small = none_before (2 ^ 64 - 1) now es (omega (arith, is, small))

-- at it one is
gone_here : (now : ℕ) (e : List ℕ × MessageValue) (es : List (List ℕ × MessageValue)) → is_gone now e ≡ true → 0 < length (filter (is_gone now) (e ∷ es))
gone_here now e es is = rw is (omega arith)

gone_later : (now : ℕ) (e : List ℕ × MessageValue) (es : List (List ℕ × MessageValue)) → 0 < length (filter (is_gone now) es) → 0 < length (filter (is_gone now) (e ∷ es))
gone_later now e es some = at (is_gone now e) refl
  where
    at : (b : Bool) → is_gone now e ≡ b → 0 < length (filter (is_gone now) (e ∷ es))
    at true is = gone_here now e es is
    at false is = rw is some

some_at : (bound : ℕ) (es : List (List ℕ × MessageValue)) → bound ≤ 2 ^ 64 - 1 → first_end bound es < bound → 0 < length (filter (is_gone (first_end bound es)) es)
some_at bound [] few small = absurd (omega (arith, small))
some_at bound (e ∷ es) few small =
    let least = min bound (ends_at e.1) in
    ⊎_elim
    (λ less. gone_later (first_end least es) e es (some_at least es (omega (arith, few)) less))
    (λ reached.
    let same : first_end least es ≡ ends_at e.1 = omega (arith, reached, end_below least es, small) in
    let P : ℕ → Type 0 = λ n. is_gone n e ≡ true in
    gone_here (first_end least es) e es (subst P (sym same) (ended e.1.expiry e.1.received (omega (arith, same, small, few)))))
    (cases_lt (first_end least es) least)

pub some_gone : (until : ℕ) (es : List (List ℕ × MessageValue)) → until ≡ first_end (2 ^ 64 - 1) es → until < 2 ^ 64 - 1 → 0 < length (filter (is_gone until) es)
some_gone until es is small = rw is (some_at (2 ^ 64 - 1) es (omega arith) (omega (arith, is, small)))

-- those that stay and those that do not are all
pub all_counted : (moment : ℕ) (retained : List (List ℕ × MessageValue)) → length (filter (stays moment) retained) + length (filter (is_gone moment) retained) ≡ length retained
all_counted moment [] = refl
all_counted moment (e ∷ es) = at (is_gone moment e) refl (all_counted moment es)
  where
    at : (b : Bool) → is_gone moment e ≡ b → length (filter (stays moment) es) + length (filter (is_gone moment) es) ≡ length es → length (filter (stays moment) (e ∷ es)) + length (filter (is_gone moment) (e ∷ es)) ≡ length (e ∷ es)
    at true is more = rw is (omega (arith, more))
    at false is more = rw is (omega (arith, more))

-- ---- after an operation none is expired before the moment

split : (now : ℕ) (e : List ℕ × MessageValue) (es : List (List ℕ × MessageValue)) → length (filter (is_gone now) (e ∷ es)) ≡ 0 → (is_gone now e ≡ false) × (length (filter (is_gone now) es) ≡ 0)
split now e es none = at (is_gone now e) refl
  where
    at : (b : Bool) → is_gone now e ≡ b → (is_gone now e ≡ false) × (length (filter (is_gone now) es) ≡ 0)
    at true is = absurd (let n : length (e ∷ filter (is_gone now) es) ≡ 0 = rw is at none in omega (arith, n))
    at false is = (is, rw is at none)

none_set : (now : ℕ) (topic : List ℕ) (m : MessageValue) (es : List (List ℕ × MessageValue)) → is_gone now (topic, m) ≡ false → length (filter (is_gone now) es) ≡ 0 → length (filter (is_gone now) (insert_entry topic_cmp es topic m)) ≡ 0
none_set now topic m [] own none = rw own refl
none_set now topic m (e ∷ es) own none = at (topic_cmp topic e.0) refl (split now e es none) (none_set now topic m es own (split now e es none).1)
  where
    at : (o : Ordering) → topic_cmp topic e.0 ≡ o → (is_gone now e ≡ false) × (length (filter (is_gone now) es) ≡ 0) → length (filter (is_gone now) (insert_entry topic_cmp es topic m)) ≡ 0
        → length (filter (is_gone now) (insert_entry topic_cmp (e ∷ es) topic m)) ≡ 0
    at Less is both more = rw (is, own, both.0) both.1
    at Equal is both more = rw (is, own) both.1
    at Greater is both more = rw (is, both.0) more

none_clear : (now : ℕ) (test : List ℕ → Bool) (es : List (List ℕ × MessageValue)) → length (filter (is_gone now) es) ≡ 0 → length (filter (is_gone now) (remove_entry test es)) ≡ 0
none_clear now test [] none = refl
none_clear now test (e ∷ es) none = at (test e.0) refl (split now e es none) (none_clear now test es (split now e es none).1)
  where
    at : (b : Bool) → test e.0 ≡ b → (is_gone now e ≡ false) × (length (filter (is_gone now) es) ≡ 0) → length (filter (is_gone now) (remove_entry test es)) ≡ 0
        → length (filter (is_gone now) (remove_entry test (e ∷ es))) ≡ 0
    at true is both more = rw is both.1
    at false is both more = rw (is, both.0) more

none_swept : (now : ℕ) (test : List ℕ × MessageValue → Bool) (es : List (List ℕ × MessageValue)) → length (filter (is_gone now) es) ≡ 0 → length (filter (is_gone now) (filter test es)) ≡ 0
none_swept now test [] none = refl
none_swept now test (e ∷ es) none = at (test e) refl (split now e es none) (none_swept now test es (split now e es none).1)
  where
    at : (b : Bool) → test e ≡ b → (is_gone now e ≡ false) × (length (filter (is_gone now) es) ≡ 0) → length (filter (is_gone now) (filter test es)) ≡ 0
        → length (filter (is_gone now) (filter test (e ∷ es))) ≡ 0
    at true is both more = rw (is, both.0) more
    at false is both more = rw is more

-- the moment is lowered to the end of a message that is set
pub calm_after_set : (x y : ℕ) (topic : List ℕ) (m : MessageValue) (e : Entry) → y ≡ min x (ends_at m) → e.operation ≡ set_of topic m → (c : Content) → NoneExpiredBefore x c → NoneExpiredBefore y (followed c e)
calm_after_set x y topic m e is sets c calm now small = rw sets (none_set now topic m c.retained (fresh m.expiry m.received now y (omega (arith, is)) small) (calm now (omega (arith, is, small))))

pub calm_after_clear : (x : ℕ) (topic : List ℕ) (e : Entry) → e.operation ≡ Clear topic → (c : Content) → NoneExpiredBefore x c → NoneExpiredBefore x (followed c e)
calm_after_clear x topic e clears c calm now small = rw clears (none_clear now (is_at (topic_cmp topic)) c.retained (calm now small))

pub calm_after_sweep : (x moment : ℕ) (e : Entry) → e.operation ≡ Sweep moment → (c : Content) → NoneExpiredBefore x c → NoneExpiredBefore x (followed c e)
calm_after_sweep x moment e sweeps c calm now small = rw sweeps (none_swept now (stays moment) c.retained (calm now small))
