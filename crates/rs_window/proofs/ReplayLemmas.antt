-- Lemmas on every list of calls.
use Rattle.std.proofs.Common.{◌≡◌, ◌≢◌, ◌⊎◌, ℕ, ◌+◌, ◌<◌, ◌≤◌, ◌==◌, min, Bool, true, false, List, [], ◌∷◌, ◌++◌, length, map, Option, Some, None, is_some, Result, Ok, Err, cond, refl, sym, ap, subst, ◌∙◌, inl, inr, append_assoc, append-nil, length-append, lit≤, ◌-◌, arith}
use Rattle.std.specs.Option.{option_and_then}
use Rattle.std.proofs.lemmas.Bool.{cases_eq}
use Rattle.std.proofs.lemmas.List.{length-map}
use Rattle.std.proofs.lemmas.Bool.Decides.{Decides-eqb}
use Rattle.std.specs.Ordering.{nat_cmp}
use Rattle.std.specs.Cmp.{unsigned_tied}
use Rattle.std.proofs.lemmas.Cmp.{nat_cmp_total}
use Rattle.std.specs.FinMap.{get, insert, remove, len, get-empty, get-insert, get-remove, len-insert, len-remove, len-empty}
use Rattle.rs_message.specs.declared.qos.Qos.{Qos}
use Rattle.rs_message.specs.declared.qos.Qos.TheVariants as qos
use Rattle.rs_window.specs.declared.fault.Ack.{Ack}
use Rattle.rs_window.specs.declared.fault.WindowFault.{WindowFault}
use Rattle.rs_window.specs.declared.fault.WindowFault.TheVariants.{TooManyWaiting, NoMemory, WrongKind, TooManyHeld}
use Rattle.rs_window.specs.declared.identifiers.Kind.{Kind}
use Rattle.rs_window.specs.declared.identifiers.Kind.TheVariants.{AtLeastOnce, ExactlyOnce}
use Rattle.rs_window.specs.declared.waiting.Waiting.{Waiting}
use Rattle.rs_window.specs.Values.{OutgoingValue}
use Rattle.rs_window.specs.Identifiers.{Kinds, kind_sent, kinds_put, kinds_given, IsNumbered}
use Rattle.rs_window.specs.State.{State}
use Rattle.rs_window.specs.Waiting.{granted_at, is_dropped, sendable, AllDropped}
use Rattle.rs_window.specs.Calls.{Acknowledgement, Call, Queue, Next, Acknowledge, kind_acknowledged, kinds_acknowledged, answer_to, fresh, Step, NeedsQuota}
use Rattle.rs_window.specs.declared.waiting.TheConstants.{MAX_WAITING}
use Rattle.rs_window.specs.declared.window.TheConstants.{MAX_QUOTA}
use Rattle.rs_window.specs.Replay.{Run, kind_given, Concerns, NoneConcerns, kind_by, kind_from, kind_after, AreUnacknowledged, brought, queued, Leaves, HasLeft, IsReplayed, IsFreeFor, MayGiveNothing}
use Rattle.rs_window.proofs.IdentifierLemmas.{other_number}
use Rattle.rs_window.proofs.WaitingLemmas.{drops, keeps, first_is_sent, sendable_fewer}

-- ---- limits

pub step_limits : (old : State) (call : Call) (new : State) → Step old call new → (new.quota ≡ old.quota) × (new.packet_maximum ≡ old.packet_maximum)
step_limits old (Queue found granted subscription (Ok done)) new h = (ap (λ (s : State). s.quota) h.1, ap (λ (s : State). s.packet_maximum) h.1)
step_limits old (Queue found granted subscription (Err TooManyWaiting)) new h = (ap (λ (s : State). s.quota) h.1, ap (λ (s : State). s.packet_maximum) h.1)
step_limits old (Queue found granted subscription (Err NoMemory)) new h = (ap (λ (s : State). s.quota) h.1, ap (λ (s : State). s.packet_maximum) h.1)
step_limits old (Queue found granted subscription (Err WrongKind)) new h = absurd h
step_limits old (Queue found granted subscription (Err TooManyHeld)) new h = absurd h
step_limits old (Next now None) new h = (ap (λ (s : State). s.quota) h.0, ap (λ (s : State). s.packet_maximum) h.0)
step_limits old (Next now (Some p)) new h = (ap (λ (s : State). s.quota) h.becomes, ap (λ (s : State). s.packet_maximum) h.becomes)
step_limits old (Acknowledge ack id answer) new h = (ap (λ (s : State). s.quota) h.1, ap (λ (s : State). s.packet_maximum) h.1)

run_limits : (from : State) (calls : List Call) (to : State) → Run from calls to → (to.quota ≡ from.quota) × (to.packet_maximum ≡ from.packet_maximum)
run_limits from [] to e = (ap (λ (s : State). s.quota) e, ap (λ (s : State). s.packet_maximum) e)
run_limits from (call ∷ calls) to (mid, step, rest) =
    let one = step_limits from call mid step in
    let more = run_limits mid calls to rest in
    (more.0 ∙ one.0, more.1 ∙ one.1)

-- a run is cut at a call
run_at : (from : State) (before : List Call) (call : Call) (after : List Call) (to : State) → Run from (before ++ call ∷ after) to
    → (mid : State) × (next : State) × Run from before mid × Step mid call next × Run next after to
run_at from [] call after to (next, step, rest) = (from, next, refl, step, rest)
run_at from (first ∷ before) call after to (second, step, rest) =
    let (mid, next, begun, here, later) = run_at second before call after to rest in
    (mid, next, (second, step, begun), here, later)

-- ---- kinds

get_put : (m : Kinds) (other : ℕ) (kind : Option Kind) (id : ℕ) → get (kinds_put m other kind) id ≡ cond (id == other) kind (get m id)
get_put m other None id = get-remove nat_cmp_total m other id ∙ ap (λ b. cond b None (get m id)) (unsigned_tied id other)
get_put m other (Some kind) id = get-insert nat_cmp_total m other kind id ∙ ap (λ b. cond b (Some kind) (get m id)) (unsigned_tied id other)

get_given : (m : Kinds) (quality : Qos) (given : Option ℕ) (id : ℕ) → get (kinds_given quality given m) id ≡ kind_given id quality given (get m id)
get_given m quality None id = refl
get_given m quality (Some given) id = get_put m given (kind_sent quality) id

same_test : (m n : ℕ) → m ≡ n → (m == n) ≡ true
same_test m n e = (Decides-eqb m n).1 e

other_test : (m n : ℕ) → m ≢ n → (m == n) ≡ false
other_test m n e = sym (unsigned_tied m n) ∙ other_number m n e

get_acknowledged : (ack : Acknowledgement) (m : Kinds) (other : ℕ) (kind : Option Kind) (id : ℕ) → get m other ≡ kind
    → get (kinds_acknowledged ack other kind m) id ≡ cond (id == other) (option_and_then (kind_acknowledged ack) (get m id)) (get m id)
get_acknowledged ack m other None id e = by_case (cases_eq id other)
  where
    by_case : (id ≡ other) ⊎ (id ≡ other → ⊥) → get m id ≡ cond (id == other) (option_and_then (kind_acknowledged ack) (get m id)) (get m id)
    by_case (inl same) =
        let none : get m id ≡ None = ap (get m) same ∙ e in
        none ∙ sym (ap (λ (o : Option Kind). cond (id == other) (option_and_then (kind_acknowledged ack) o) o) none ∙ ap (λ b. cond b (option_and_then (kind_acknowledged ack) None) None) (same_test id other same))
    by_case (inr differs) = sym (ap (λ b. cond b (option_and_then (kind_acknowledged ack) (get m id)) (get m id)) (other_test id other differs))
get_acknowledged ack m other (Some kind) id e = get_put m other (kind_acknowledged ack kind) id ∙ by_case (cases_eq id other)
  where
    by_case : (id ≡ other) ⊎ (id ≡ other → ⊥) → cond (id == other) (kind_acknowledged ack kind) (get m id) ≡ cond (id == other) (option_and_then (kind_acknowledged ack) (get m id)) (get m id)
    by_case (inl same) =
        let some : get m id ≡ Some kind = ap (get m) same ∙ e in
        ap (λ b. cond b (kind_acknowledged ack kind) (get m id)) (same_test id other same)
        ∙ sym (ap (λ b. cond b (option_and_then (kind_acknowledged ack) (get m id)) (get m id)) (same_test id other same) ∙ ap (option_and_then (kind_acknowledged ack)) some)
    by_case (inr differs) =
        ap (λ b. cond b (kind_acknowledged ack kind) (get m id)) (other_test id other differs)
        ∙ sym (ap (λ b. cond b (option_and_then (kind_acknowledged ack) (get m id)) (get m id)) (other_test id other differs))

same_get : (a b : State) (id : ℕ) → a.kinds ≡ b.kinds → get a.kinds id ≡ get b.kinds id
same_get a b id e = ap (λ (m : Kinds). get m id) e

step_kinds : (old : State) (call : Call) (new : State) → Step old call new → (id : ℕ) → get new.kinds id ≡ kind_by id call (get old.kinds id)
step_kinds old (Queue found granted subscription (Ok done)) new h id = same_get new old id (ap (λ (s : State). s.kinds) h.1)
step_kinds old (Queue found granted subscription (Err TooManyWaiting)) new h id = same_get new old id (ap (λ (s : State). s.kinds) h.1)
step_kinds old (Queue found granted subscription (Err NoMemory)) new h id = same_get new old id (ap (λ (s : State). s.kinds) h.1)
step_kinds old (Queue found granted subscription (Err WrongKind)) new h id = absurd h
step_kinds old (Queue found granted subscription (Err TooManyHeld)) new h id = absurd h
step_kinds old (Next now None) new h id = same_get new old id (ap (λ (s : State). s.kinds) h.0)
step_kinds old (Next now (Some p)) new h id = ap (λ (s : State). get s.kinds id) h.becomes ∙ get_given old.kinds p.qos p.id id
step_kinds old (Acknowledge ack other answer) new h id = ap (λ (s : State). get s.kinds id) h.1 ∙ get_acknowledged ack old.kinds other (get old.kinds other) id refl

run_kinds : (from : State) (calls : List Call) (to : State) → Run from calls to → (id : ℕ) → get to.kinds id ≡ kind_from id (get from.kinds id) calls
run_kinds from [] to e id = ap (λ (s : State). get s.kinds id) e
run_kinds from (call ∷ calls) to (mid, step, rest) id =
    run_kinds mid calls to rest id ∙ ap (λ (k : Option Kind). kind_from id k calls) (step_kinds from call mid step id)

pub kinds_read : (receive_maximum packet_maximum : ℕ) (calls : List Call) (end : State) → Run (fresh receive_maximum packet_maximum) calls end → AreUnacknowledged calls end.kinds
kinds_read receive_maximum packet_maximum calls end h id =
    run_kinds (fresh receive_maximum packet_maximum) calls end h id ∙ ap (λ (k : Option Kind). kind_from id k calls) (get-empty nat_cmp id)

-- ---- the quota

len_inserted : (m : Kinds) (quota id : ℕ) (kind : Kind) → get m id ≡ None → len m < quota → len (insert m id kind) ≤ quota
len_inserted m quota id kind e h =
    let more : len (insert m id kind) ≡ len m + 1 = len-insert nat_cmp_total m id kind ∙ ap (λ (o : Option Kind). cond (is_some o) (len m) (len m + 1)) e in
    omega (arith, more, h)

len_given : (m : Kinds) (quota : ℕ) (quality : Qos) (id : Option ℕ) → IsNumbered m quota quality id → len m ≤ quota → len (kinds_given quality id m) ≤ quota
len_given m quota quality None n h = h
len_given m quota qos.AtMostOnce (Some id) n h = absurd n.fits
len_given m quota qos.AtLeastOnce (Some id) n h = len_inserted m quota id AtLeastOnce n.free n.within
len_given m quota qos.ExactlyOnce (Some id) n h = len_inserted m quota id ExactlyOnce n.free n.within

len_put : (m : Kinds) (id : ℕ) (was : Kind) (kind : Option Kind) → get m id ≡ Some was → len (kinds_put m id kind) ≤ len m
len_put m id was None e = let less : len (remove m id) ≡ len m - 1 = len-remove nat_cmp_total m id ∙ ap (λ (o : Option Kind). cond (is_some o) (len m - 1) (len m)) e in omega (arith, less)
len_put m id was (Some kind) e = let same : len (insert m id kind) ≡ len m = len-insert nat_cmp_total m id kind ∙ ap (λ (o : Option Kind). cond (is_some o) (len m) (len m + 1)) e in omega (arith, same)

len_acknowledged : (ack : Acknowledgement) (m : Kinds) (id : ℕ) (kind : Option Kind) → get m id ≡ kind → len (kinds_acknowledged ack id kind m) ≤ len m
len_acknowledged ack m id None e = omega arith
len_acknowledged ack m id (Some kind) e = len_put m id kind (kind_acknowledged ack kind) e

pub step_quota : (old : State) (call : Call) (new : State) → Step old call new → len old.kinds ≤ old.quota → len new.kinds ≤ old.quota
step_quota old (Queue found granted subscription (Ok done)) new h q = omega (arith, q, ap (λ (s : State). len s.kinds) h.1)
step_quota old (Queue found granted subscription (Err TooManyWaiting)) new h q = omega (arith, q, ap (λ (s : State). len s.kinds) h.1)
step_quota old (Queue found granted subscription (Err NoMemory)) new h q = omega (arith, q, ap (λ (s : State). len s.kinds) h.1)
step_quota old (Queue found granted subscription (Err WrongKind)) new h q = absurd h
step_quota old (Queue found granted subscription (Err TooManyHeld)) new h q = absurd h
step_quota old (Next now None) new h q = omega (arith, q, ap (λ (s : State). len s.kinds) h.0)
step_quota old (Next now (Some p)) new h q = omega (arith, len_given old.kinds old.quota p.qos p.id h.numbered q, ap (λ (s : State). len s.kinds) h.becomes)
step_quota old (Acknowledge ack id answer) new h q = omega (arith, q, len_acknowledged ack old.kinds id (get old.kinds id) refl, ap (λ (s : State). len s.kinds) h.1)

run_quota : (from : State) (calls : List Call) (to : State) → Run from calls to → len from.kinds ≤ from.quota → len to.kinds ≤ from.quota
run_quota from [] to e q = omega (arith, q, ap (λ (s : State). len s.kinds) e)
run_quota from (call ∷ calls) to (mid, step, rest) q =
    let one = step_quota from call mid step q in
    let limit = (step_limits from call mid step).0 in
    let here : len mid.kinds ≤ mid.quota = omega (arith, one, limit) in
    omega (arith, run_quota mid calls to rest here, limit)

pub quota_holds : (receive_maximum packet_maximum : ℕ) (calls : List Call) (end : State) → Run (fresh receive_maximum packet_maximum) calls end → len end.kinds ≤ min receive_maximum MAX_QUOTA
quota_holds receive_maximum packet_maximum calls end h =
    let start : len (fresh receive_maximum packet_maximum).kinds ≤ (fresh receive_maximum packet_maximum).quota = omega (arith, len-empty nat_cmp Kind) in
    run_quota (fresh receive_maximum packet_maximum) calls end h start

-- ---- what waits

-- what leaves before the first that is to be sent
gone_before : (packet_maximum now : ℕ) (ws : List Waiting) → (dropped : List Waiting) × (ws ≡ dropped ++ sendable packet_maximum now ws) × AllDropped packet_maximum now dropped
gone_before packet_maximum now [] = ([], refl, tt)
gone_before packet_maximum now (w ∷ ws) = by_case (is_dropped packet_maximum now w) refl (gone_before packet_maximum now ws)
  where
    by_case : (b : Bool) → is_dropped packet_maximum now w ≡ b → ((dropped : List Waiting) × (ws ≡ dropped ++ sendable packet_maximum now ws) × AllDropped packet_maximum now dropped)
        → (dropped : List Waiting) × (w ∷ ws ≡ dropped ++ cond b (sendable packet_maximum now ws) (w ∷ ws)) × AllDropped packet_maximum now dropped
    by_case true e (dropped, whole, all) = (w ∷ dropped, ap (λ (xs : List Waiting). w ∷ xs) whole, (drops packet_maximum now w e, all))
    by_case false e later = ([], refl, tt)

-- what was queued and what is brought is what leaves and what waits then
step_waiting : (old : State) (call : Call) (new : State) → Step old call new
    → (gone : List Waiting) × (old.waiting ++ brought call ≡ gone ++ new.waiting) × Leaves old.packet_maximum call gone
step_waiting old (Queue found granted subscription (Ok done)) new h = ([], sym (ap (λ (s : State). s.waiting) h.1), refl)
step_waiting old (Queue found granted subscription (Err TooManyWaiting)) new h = ([], append-nil old.waiting ∙ sym (ap (λ (s : State). s.waiting) h.1), refl)
step_waiting old (Queue found granted subscription (Err NoMemory)) new h = ([], append-nil old.waiting ∙ sym (ap (λ (s : State). s.waiting) h.1), refl)
step_waiting old (Queue found granted subscription (Err WrongKind)) new h = absurd h
step_waiting old (Queue found granted subscription (Err TooManyHeld)) new h = absurd h
step_waiting old (Next now None) new h =
    let (dropped, whole, all) = gone_before old.packet_maximum now old.waiting in
    (dropped, append-nil old.waiting ∙ whole ∙ ap (λ (xs : List Waiting). dropped ++ xs) (sym (ap (λ (s : State). s.waiting) h.0)), all)
step_waiting old (Next now (Some p)) new h =
    let (dropped, whole, all) = gone_before old.packet_maximum now old.waiting in (
      dropped ++ h.first ∷ [],
      append-nil old.waiting ∙ whole ∙ ap (λ (xs : List Waiting). dropped ++ xs) h.leaves ∙ sym (append_assoc dropped (h.first ∷ []) new.waiting),
      (dropped, h.first, refl, all, h.carries),
    )
step_waiting old (Acknowledge ack id answer) new h = ([], append-nil old.waiting ∙ sym (ap (λ (s : State). s.waiting) h.1), refl)

run_waiting : (packet_maximum : ℕ) (from : State) (calls : List Call) (to : State) → packet_maximum ≡ from.packet_maximum → Run from calls to
    → (prefix : List Waiting) × (from.waiting ++ queued calls ≡ prefix ++ to.waiting) × HasLeft packet_maximum calls prefix
run_waiting packet_maximum from [] to m e = ([], append-nil from.waiting ∙ sym (ap (λ (s : State). s.waiting) e), refl)
run_waiting packet_maximum from (call ∷ calls) to m (mid, step, rest) =
    let (gone, here, leaves) = step_waiting from call mid step in
    let (prefix, later, left) = run_waiting packet_maximum mid calls to (m ∙ sym (step_limits from call mid step).1) rest in (
      gone ++ prefix,
      sym (append_assoc from.waiting (brought call) (queued calls)) ∙ ap (λ (xs : List Waiting). xs ++ queued calls) here ∙ append_assoc gone mid.waiting (queued calls)
          ∙ ap (λ (xs : List Waiting). gone ++ xs) later ∙ sym (append_assoc gone prefix to.waiting),
      (gone, prefix, refl, subst (λ (n : ℕ). Leaves n call gone) (sym m) leaves, left),
    )

pub replayed : (receive_maximum packet_maximum : ℕ) (calls : List Call) (end : State) → Run (fresh receive_maximum packet_maximum) calls end → IsReplayed packet_maximum calls end.waiting
replayed receive_maximum packet_maximum calls end h =
    let (prefix, whole, left) = run_waiting packet_maximum (fresh receive_maximum packet_maximum) calls end refl h in
    record { prefix = prefix; whole = whole; leaves = left }

pub step_few : (old : State) (call : Call) (new : State) → Step old call new → length old.waiting ≤ MAX_WAITING → length new.waiting ≤ MAX_WAITING
step_few old (Queue found granted subscription (Ok done)) new h f =
    let whole : length new.waiting ≡ length old.waiting + length found =
    ap (λ (s : State). length s.waiting) h.1 ∙ length-append old.waiting (map (granted_at granted subscription) found) ∙ ap (λ n. length old.waiting + n) (length-map found (granted_at granted subscription)) in
    omega (arith, whole, h.0)
step_few old (Queue found granted subscription (Err TooManyWaiting)) new h f = omega (arith, f, ap (λ (s : State). length s.waiting) h.1)
step_few old (Queue found granted subscription (Err NoMemory)) new h f = omega (arith, f, ap (λ (s : State). length s.waiting) h.1)
step_few old (Queue found granted subscription (Err WrongKind)) new h f = absurd h
step_few old (Queue found granted subscription (Err TooManyHeld)) new h f = absurd h
step_few old (Next now None) new h f = omega (arith, f, sendable_fewer old.packet_maximum now old.waiting, ap (λ (s : State). length s.waiting) h.0)
step_few old (Next now (Some p)) new h f = omega (arith, f, sendable_fewer old.packet_maximum now old.waiting, ap (λ (xs : List Waiting). length xs) h.leaves)
step_few old (Acknowledge ack id answer) new h f = omega (arith, f, ap (λ (s : State). length s.waiting) h.1)

run_few : (from : State) (calls : List Call) (to : State) → Run from calls to → length from.waiting ≤ MAX_WAITING → length to.waiting ≤ MAX_WAITING
run_few from [] to e f = omega (arith, f, ap (λ (s : State). length s.waiting) e)
run_few from (call ∷ calls) to (mid, step, rest) f = run_few mid calls to rest (step_few from call mid step f)

pub few_wait : (receive_maximum packet_maximum : ℕ) (calls : List Call) (end : State) → Run (fresh receive_maximum packet_maximum) calls end → length end.waiting ≤ MAX_WAITING
few_wait receive_maximum packet_maximum calls end h = run_few (fresh receive_maximum packet_maximum) calls end h (lit≤ tt)

-- ---- single calls

free_for : (before : List Call) (mid : State) (quality : Qos) (id : Option ℕ) → AreUnacknowledged before mid.kinds → IsNumbered mid.kinds mid.quota quality id → IsFreeFor before quality id
free_for before mid quality None known n = record { fits = n.fits; free = tt }
free_for before mid quality (Some id) known n = record { fits = n.fits; free = sym (known id) ∙ n.free }

pub fresh_id : (receive_maximum packet_maximum : ℕ) (before after : List Call) (now : ℕ) (p : OutgoingValue) (end : State) → Run (fresh receive_maximum packet_maximum) (before ++ Next now (Some p) ∷ after) end → IsFreeFor before p.qos p.id
fresh_id receive_maximum packet_maximum before after now p end h =
    let (mid, next, begun, step, later) = run_at (fresh receive_maximum packet_maximum) before (Next now (Some p)) after end h in
    free_for before mid p.qos p.id (kinds_read receive_maximum packet_maximum before mid begun) step.numbered

gives_nothing : (packet_maximum now : ℕ) (mid : State) (ws : List Waiting) → sendable packet_maximum now mid.waiting ≡ ws → NeedsQuota mid.kinds mid.quota ws → MayGiveNothing packet_maximum now mid.kinds mid.quota ws
gives_nothing packet_maximum now mid [] e n = tt
gives_nothing packet_maximum now mid (w ∷ ws) e n = (n.0, keeps packet_maximum now w (first_is_sent packet_maximum now w mid.waiting ws e), n.1)

pub nothing_given : (receive_maximum packet_maximum : ℕ) (before : List Call) (now : ℕ) (end : State) → Run (fresh receive_maximum packet_maximum) (before ++ Next now None ∷ []) end → MayGiveNothing packet_maximum now end.kinds (min receive_maximum MAX_QUOTA) end.waiting
nothing_given receive_maximum packet_maximum before now end h =
    let (mid, next, begun, step, later) = run_at (fresh receive_maximum packet_maximum) before (Next now None) [] end h in
    let limits = run_limits (fresh receive_maximum packet_maximum) before mid begun in
    let at_mid : MayGiveNothing mid.packet_maximum now mid.kinds mid.quota (sendable mid.packet_maximum now mid.waiting) = gives_nothing mid.packet_maximum now mid (sendable mid.packet_maximum now mid.waiting) refl step.1 in
    let at_limits : MayGiveNothing packet_maximum now mid.kinds (min receive_maximum MAX_QUOTA) (sendable mid.packet_maximum now mid.waiting) =
    subst (λ (n : ℕ). MayGiveNothing n now mid.kinds (min receive_maximum MAX_QUOTA) (sendable mid.packet_maximum now mid.waiting)) limits.1 (subst (λ (n : ℕ). MayGiveNothing mid.packet_maximum now mid.kinds n (sendable mid.packet_maximum now mid.waiting)) limits.0 at_mid) in
    subst (λ (s : State). MayGiveNothing packet_maximum now s.kinds (min receive_maximum MAX_QUOTA) s.waiting) (sym (later ∙ step.0)) at_limits

pub answered : (receive_maximum packet_maximum : ℕ) (before after : List Call) (ack : Acknowledgement) (id : ℕ) (answer : Result Ack WindowFault) (end : State) → Run (fresh receive_maximum packet_maximum) (before ++ Acknowledge ack id answer ∷ after) end → answer ≡ answer_to ack (kind_after id before)
answered receive_maximum packet_maximum before after ack id answer end h =
    let (mid, next, begun, step, later) = run_at (fresh receive_maximum packet_maximum) before (Acknowledge ack id answer) after end h in
    step.0 ∙ ap (answer_to ack) (kinds_read receive_maximum packet_maximum before mid begun id)

-- ---- the last call that concerns an identifier

given_elsewhere : (id : ℕ) (quality : Qos) (given : Option ℕ) (kind : Option Kind) → (given ≡ Some id → ⊥) → kind_given id quality given kind ≡ kind
given_elsewhere id quality None kind h = refl
given_elsewhere id quality (Some other) kind h = ap (λ b. cond b (kind_sent quality) kind) (other_test id other (λ e. h (ap Some (sym e))))

unconcerned : (id : ℕ) (call : Call) (kind : Option Kind) → (Concerns id call → ⊥) → kind_by id call kind ≡ kind
unconcerned id (Queue found granted subscription answer) kind h = refl
unconcerned id (Next now None) kind h = refl
unconcerned id (Next now (Some p)) kind h = given_elsewhere id p.qos p.id kind h
unconcerned id (Acknowledge ack other answer) kind h = ap (λ b. cond b (option_and_then (kind_acknowledged ack) kind) kind) (other_test id other (λ e. h (sym e)))

none_later : (id : ℕ) (calls : List Call) (kind : Option Kind) → NoneConcerns id calls → kind_from id kind calls ≡ kind
none_later id [] kind h = refl
none_later id (call ∷ calls) kind (here, later) = ap (λ (k : Option Kind). kind_from id k calls) (unconcerned id call kind here) ∙ none_later id calls kind later

last_from : (id : ℕ) (kind : Option Kind) (before : List Call) (call : Call) (after : List Call) → NoneConcerns id after
    → kind_from id kind (before ++ call ∷ after) ≡ kind_by id call (kind_from id kind before)
last_from id kind [] call after h = none_later id after (kind_by id call kind) h
last_from id kind (first ∷ before) call after h = last_from id (kind_by id first kind) before call after h

pub last_concerns : (id : ℕ) (before : List Call) (call : Call) (after : List Call) → NoneConcerns id after → kind_after id (before ++ call ∷ after) ≡ kind_by id call (kind_after id before)
last_concerns id before call after h = last_from id None before call after h
