-- Lemmas on the limits of an open session.
use Rattle.std.proofs.Common.{◌≡◌, ℕ, ◌+◌, ◌-◌, ◌≤◌, ◌==◌, Bool, true, false, not, ◌&&◌, cond, List, [], ◌∷◌, Option, Some, None, Ok, Err, sym, ap, subst, inl, inr, lit≤, arith}
use Rattle.std.specs.Prelude.{MatchBool}
use Rattle.std.proofs.lemmas.Bool.Decides.{nat_tests}
use Rattle.std.proofs.lemmas.Cmp.{nat_cmp_total}
use Rattle.std.specs.Cmp.Lexicographic.{slice_cmp}
use Rattle.std.specs.Ordering.{nat_cmp}
use Rattle.std.specs.FinMap as finite
use Rattle.std.specs.FinSet as set
use Rattle.rs_packet.specs.declared.limits.TheConstants.{RECEIVE_MAXIMUM}
use Rattle.rs_packet.specs.Values.{Asked, Filter}
use Rattle.rs_packet.specs.declared.packet.Connect.{Connect}
use Rattle.rs_packet.specs.declared.packet.Publish.{Publish}
use Rattle.rs_packet.specs.declared.reply.Reply.{Reply}
use Rattle.rs_message.specs.declared.entry.Entry.{Entry}
use Rattle.rs_window.specs.Calls as window
use Rattle.rs_window.specs.State as window_state
use Rattle.rs_window.specs.declared.identifiers.Kind.{Kind}
use Rattle.rs_window.proofs.ReplayLemmas.{step_limits, step_quota, step_few}
use Rattle.rs_session.specs.declared.open.Open.{Open}
use Rattle.rs_session.specs.declared.open.Effect.{Effect}
use Rattle.rs_session.specs.declared.open.Effect.TheVariants.{Replies, Closes, Leaves}
use Rattle.rs_session.specs.declared.phase.Phase.{Phase}
use Rattle.rs_session.specs.declared.phase.Phase.TheVariants as phase
use Rattle.rs_session.specs.declared.subscriptions.Subscription.{Subscription}
use Rattle.rs_session.specs.Subscriptions.{Subscriptions, is_subscribed, replays}
use Rattle.rs_session.specs.declared.subscriptions.TheConstants.{MAX_SUBSCRIPTIONS}
use Rattle.rs_session.specs.State.{State, fresh, IsGiven, IsReplayed}
use Rattle.rs_session.specs.Table.{subscription_for, unreleased_id, unreleased_with, is_one_too_many, awaiting_release, open_for, IsTaken, IsSubscribed, IsQueued, IsGrantedTo, Grants, without, without_all, OpenCase, OpenRow, Case, SessionRow, state_after, With_method, With_will, Connect_refused, Accepted, Connack_too_long, Other_version, Unexpected, In_session, Over, Faulty, With_alias, Bad_topic, Sent_again, Too_many_unreleased, Not_retained, Stored, Topic_unread, Not_stored, Uncertain, Gate_closed, Released, Wrong_acknowledgement, Acknowledged, Shared_no_local, Not_subscribed, Subscribed, Not_unsubscribed, Unsubscribed, Connected_twice, Pinged, Disconnected}
use Rattle.rs_session.specs.Points.{Given, Point, with_state}
use Rattle.rs_session.specs.Run.{Exchange, Gives, IsExchange, Run, IsWithinLimits}
use Rattle.rs_session.proofs.SubscriptionLemmas.{len_inserted, len_removed}

-- ---- identifiers of QoS 2

insert_within : (there : Bool) (n : ℕ) → (not there && n == RECEIVE_MAXIMUM) ≡ false → n ≤ RECEIVE_MAXIMUM → cond there n (n + 1) ≤ RECEIVE_MAXIMUM
insert_within true n fits few = few
insert_within false n fits few = grind (arith, nat_tests)

unreleased_within : (id : Option ℕ) (unreleased : set.FinSet nat_cmp) → is_one_too_many id unreleased ≡ false → set.len unreleased ≤ RECEIVE_MAXIMUM → set.len (unreleased_with id unreleased) ≤ RECEIVE_MAXIMUM
unreleased_within None unreleased fits few = few
unreleased_within (Some id) unreleased fits few =
    let inserted : cond (set.contains unreleased id) (set.len unreleased) (set.len unreleased + 1) ≤ RECEIVE_MAXIMUM = insert_within (set.contains unreleased id) (set.len unreleased) fits few in
    subst (λ n. n ≤ RECEIVE_MAXIMUM) (sym (set.len-insert nat_cmp_total unreleased id)) inserted

remove_within : (there : Bool) (n : ℕ) → n ≤ RECEIVE_MAXIMUM → cond there (n - 1) n ≤ RECEIVE_MAXIMUM
remove_within true n few = omega arith
remove_within false n few = few

released_within : (unreleased : set.FinSet nat_cmp) (id : ℕ) → set.len unreleased ≤ RECEIVE_MAXIMUM → set.len (set.remove unreleased id) ≤ RECEIVE_MAXIMUM
released_within unreleased id few = subst (λ n. n ≤ RECEIVE_MAXIMUM) (sym (set.len-remove nat_cmp_total unreleased id)) (remove_within (set.contains unreleased id) (set.len unreleased) few)

awaiting_release_within : (p : Publish) (o : Open) → IsTaken p o → IsWithinLimits o → IsWithinLimits (awaiting_release p o)
awaiting_release_within p o taken h =
    record { subscriptions = h.subscriptions; unreleased = unreleased_within (unreleased_id p.qos p.id) o.inbound taken.fits h.unreleased; waiting = h.waiting; unacknowledged = h.unacknowledged; quota = h.quota }

-- ---- the window

called_within : (old : Open) (call : window.Call) (after : window_state.State) → window.Step old.window call after → IsWithinLimits old → IsWithinLimits (record old { window = after })
called_within old call after step h =
    let limit : after.quota ≡ old.window.quota = (step_limits old.window call after step).0 in
    record {
      subscriptions = h.subscriptions;
      unreleased = h.unreleased;
      waiting = step_few old.window call after step h.waiting;
      unacknowledged = omega (arith, limit, step_quota old.window call after step h.unacknowledged);
      quota = omega (arith, limit, h.quota);
    }

-- ---- subscriptions

subscriptions_within : (o : Open) (left : Subscriptions) → finite.len left ≤ MAX_SUBSCRIPTIONS → IsWithinLimits o → IsWithinLimits (record o { subscriptions = left })
subscriptions_within o left few h = record { subscriptions = few; unreleased = h.unreleased; waiting = h.waiting; unacknowledged = h.unacknowledged; quota = h.quota }

-- what waits is as before, or more waits
queued_within : (replayed : Bool) (now : ℕ) (filter : List ℕ) (subscription : Subscription) (list : List Entry) (old new : Open)
    → MatchBool replayed (IsQueued now filter subscription list old new) (new.window ≡ old.window) → IsWithinLimits old → IsWithinLimits (record old { window = new.window })
queued_within true now filter subscription list old new (found, answer, queued) h = called_within old (window.Queue found subscription.options.qos subscription.identifier (Ok tt)) new.window queued h
queued_within false now filter subscription list old new same h = subst (λ (w : window_state.State). IsWithinLimits (record old { window = w })) (sym same) h

subscribed_within : (now : ℕ) (filter : List ℕ) (subscription : Subscription) (list : List Entry) (old new : Open) → IsSubscribed now filter subscription list old new → IsWithinLimits old → IsWithinLimits new
subscribed_within now filter subscription list old new s h =
    let w = queued_within (replays subscription.options.retain_handling (is_subscribed filter old.subscriptions)) now filter subscription list old new s.replay h in
    let few = len_inserted old.subscriptions filter subscription s.fits h.subscriptions in
    record {
      subscriptions = subst (λ (m : Subscriptions). finite.len m ≤ MAX_SUBSCRIPTIONS) (sym s.kept) few;
      unreleased = subst (λ (ids : set.FinSet nat_cmp). set.len ids ≤ RECEIVE_MAXIMUM) (sym s.inbound) h.unreleased;
      waiting = w.waiting;
      unacknowledged = w.unacknowledged;
      quota = w.quota;
    }

granted_within : (asked : Filter) (subscription : Subscription) (now : ℕ) (list : List Entry) (old : Open) (code : ℕ) (new : Open) → IsGrantedTo asked subscription now list old code new → IsWithinLimits old → IsWithinLimits new
granted_within (Err fault) subscription now list old code new (c, same) h = subst IsWithinLimits (sym same) h
granted_within (Ok filter) subscription now list old code new (inl (c, s)) h = subscribed_within now filter subscription list old new s h
granted_within (Ok filter) subscription now list old code new (inr (c, same)) h = subst IsWithinLimits (sym same) h

grants_within : (now : ℕ) (filters : List Asked) (identifier : Option ℕ) (from : Point Open) (codes : List ℕ) (answered : List (List Entry)) (to : Point Open) → Grants now filters identifier from codes answered to → IsWithinLimits from.state → IsWithinLimits to.state
grants_within now [] identifier from codes answered to (c, a, seen, same) h = subst IsWithinLimits (sym same) h
grants_within now (asked ∷ more) identifier from codes answered to (code, rest, later, between, c, a, begins, granted, grants) h =
    grants_within now more identifier between rest later to grants (granted_within asked.0 (subscription_for asked identifier) now between.seen from.state code between.state granted h)

without_fewer : (filter : Filter) (m : Subscriptions) → finite.len (without filter m) ≤ finite.len m
without_fewer (Err fault) m = omega arith
without_fewer (Ok filter) m = len_removed m filter

all_fewer : (filters : List Filter) (m : Subscriptions) → finite.len (without_all filters m) ≤ finite.len m
all_fewer [] m = omega arith
all_fewer (filter ∷ more) m = omega (arith, without_fewer filter m, all_fewer more (without filter m))

-- ---- the rows of an open session

row_within : (case : OpenCase) (given : Given) (from : Point Open) (answered : List (List Entry)) (effect : Effect) (to : Point Open)
    → OpenRow case given from answered effect to → IsWithinLimits from.state → IsWithinLimits to.state
row_within Connected_twice given from answered effect to (c, i, out, unchanged) h = subst IsWithinLimits (sym unchanged.same) h
row_within Faulty given from answered effect to (f, i, out, unchanged) h = subst IsWithinLimits (sym unchanged.same) h
row_within With_alias given from answered effect to (p, i, a, out, unchanged) h = subst IsWithinLimits (sym unchanged.same) h
row_within Bad_topic given from answered effect to (p, f, i, a, t, other, out, unchanged) h = subst IsWithinLimits (sym unchanged.same) h
row_within Sent_again given from answered effect to (p, i, a, t, unreleased, out, unchanged) h = subst IsWithinLimits (sym unchanged.same) h
row_within Too_many_unreleased given from answered effect to (p, i, a, t, many, out, unchanged) h = subst IsWithinLimits (sym unchanged.same) h
row_within Not_retained given from answered effect to (p, topic, i, taken, t, r, out, u, same) h = subst IsWithinLimits (sym same) (awaiting_release_within p from.state taken h)
row_within Stored given from answered effect to (p, topic, operation, i, s, submitted, out, same) h = subst IsWithinLimits (sym same) (awaiting_release_within p from.state s.taken h)
row_within Topic_unread given from answered effect to (p, i, taken, t, out, unchanged) h = subst IsWithinLimits (sym unchanged.same) h
row_within Not_stored given from answered effect to (p, topic, operation, i, s, out, same) h = subst IsWithinLimits (sym same) h
row_within Uncertain given from answered effect to (p, topic, operation, i, s, out, same) h = subst IsWithinLimits (sym same) h
row_within Gate_closed given from answered effect to (p, topic, operation, i, s, out, same) h = subst IsWithinLimits (sym same) h
row_within Released given from answered effect to (a, i, out, u, same) h =
    let left : IsWithinLimits (record from.state { inbound = set.remove from.state.inbound a.id }) =
    record { subscriptions = h.subscriptions; unreleased = released_within from.state.inbound a.id h.unreleased; waiting = h.waiting; unacknowledged = h.unacknowledged; quota = h.quota } in
    subst IsWithinLimits (sym same) left
row_within Wrong_acknowledgement given from answered effect to (p, ack, id, i, is, wrong, out, unchanged) h = subst IsWithinLimits (sym unchanged.same) h
row_within Acknowledged given from answered effect to (p, ack, id, answer, i, is, step, out, u, same) h =
    subst IsWithinLimits (sym same) (called_within from.state (window.Acknowledge ack id (Ok answer)) to.state.window step h)
row_within Shared_no_local given from answered effect to (s, i, n, out, unchanged) h = subst IsWithinLimits (sym unchanged.same) h
row_within Not_subscribed given from answered effect to (s, i, n, out, unchanged) h = subst IsWithinLimits (sym unchanged.same) h
row_within Subscribed given from answered effect to (s, codes, i, n, grants, out, u) h = grants_within given.now s.filters s.subscription from codes answered to grants h
row_within Not_unsubscribed given from answered effect to (u, i, out, unchanged) h = subst IsWithinLimits (sym unchanged.same) h
row_within Unsubscribed given from answered effect to (u, i, out, m, same) h =
    subst IsWithinLimits (sym same) (subscriptions_within from.state (without_all u.filters from.state.subscriptions) (omega (arith, all_fewer u.filters from.state.subscriptions, h.subscriptions)) h)
row_within Pinged given from answered effect to (i, out, unchanged) h = subst IsWithinLimits (sym unchanged.same) h
row_within Disconnected given from answered effect to (code, i, out, unchanged) h = subst IsWithinLimits (sym unchanged.same) h

-- ---- a session

abbrev PhaseWithin : Phase → Type 0
PhaseWithin phase.Before = Unit {0}
PhaseWithin (phase.Open o) = IsWithinLimits o
PhaseWithin (phase.Ended closing) = Unit {0}

begun_within : (c : Connect) → IsWithinLimits (open_for c)
begun_within c = record {
  subscriptions = omega (arith, finite.len-empty (slice_cmp nat_cmp) Subscription);
  unreleased = omega (arith, set.len-empty nat_cmp);
  waiting = lit≤ tt;
  unacknowledged = omega (arith, finite.len-empty nat_cmp Kind);
  quota = omega arith;
}

after_within : (effect : Effect) (old : State) (left : Open) → IsWithinLimits left → PhaseWithin (state_after effect old left).phase
after_within (Replies r) old left h = h
after_within (Closes code) old left h = tt
after_within Leaves old left h = tt

same_within : (old new : State) → new ≡ old → PhaseWithin old.phase → PhaseWithin new.phase
same_within old new e h = subst (λ (s : State). PhaseWithin s.phase) (sym e) h

answer_within : (case : Case) (given : Given) (from : Point State) (answered : List (List Entry)) (due : Option Reply) (to : Point State)
    → SessionRow case given from answered due to → PhaseWithin from.state.phase → PhaseWithin to.state.phase
answer_within With_method given from answered due to (c, i, before, m, refused) h = same_within _ to.state refused.end tt
answer_within With_will given from answered due to (c, i, before, m, w, refused) h = same_within _ to.state refused.end tt
answer_within Connect_refused given from answered due to (c, i, before, m, w, refused) h = same_within _ to.state refused.end tt
answer_within Accepted given from answered due to (c, i, before, m, w, short, u, d, same) h = same_within _ to.state same (begun_within c)
answer_within Connack_too_long given from answered due to (c, i, before, m, w, long, u, d, same) h = same_within _ to.state same tt
answer_within Other_version given from answered due to (i, before, u, d, same) h = same_within _ to.state same tt
answer_within Unexpected given from answered due to (i, before, u, d, same) h = same_within _ to.state same tt
answer_within In_session given from answered due to (o, left, effect, is, (case, a, row), d, same) h =
    same_within _ to.state same (after_within effect from.state left (row_within case given (with_state from o) answered effect (with_state to left) row (subst PhaseWithin is h)))
answer_within Over given from answered due to (closing, is, u, d, same) h = same_within from.state to.state same h

replayed_within : (now : ℕ) (old : Phase) (given : Option Reply) (new : Phase) → IsReplayed now old given new → PhaseWithin old → PhaseWithin new
replayed_within now phase.Before given new (none, same) h = subst PhaseWithin (sym same) tt
replayed_within now (phase.Open o) given new (left, same, sent) h =
    subst PhaseWithin (sym same) (subst IsWithinLimits (sym sent.rest) (called_within o (window.Next now sent.publish) left.window sent.next h))
replayed_within now (phase.Ended closing) given new (none, same) h = subst PhaseWithin (sym same) tt

given_within : (now : ℕ) (due : Option Reply) (old : State) (given left : Option Reply) (new : State) → IsGiven now due old given left new → PhaseWithin old.phase → PhaseWithin new.phase
given_within now (Some first) old given left new (g, d, same) h = same_within old new same h
given_within now None old given left new (d, a, replayed) h = replayed_within now old.phase given new.phase replayed h

gives_within : (now : ℕ) (due : Option Reply) (old : State) (replies : List Reply) (left : Option Reply) (new : State) → Gives now due old replies left new → PhaseWithin old.phase → PhaseWithin new.phase
gives_within now due old [] left new (d, same) h = same_within old new same h
gives_within now due old (reply ∷ replies) left new (later, mid, given, rest) h =
    gives_within now later mid replies left new rest (given_within now due old (Some reply) later mid given h)

exchange_within : (from : Point State) (exchange : Exchange) → IsExchange from exchange → PhaseWithin from.state.phase → PhaseWithin exchange.to.state.phase
exchange_within from exchange t h =
    let after = answer_within t.case exchange.given from exchange.answered t.due (with_state exchange.to t.mid) t.row.1 h in
    let given = gives_within exchange.given.now t.due t.mid exchange.replies t.all_given.left t.all_given.last t.all_given.given after in
    given_within exchange.given.now t.all_given.left t.all_given.last None None exchange.to.state t.all_given.none_left given

exchanges_within : (from to : Point State) (exchanges : List Exchange) → Run from exchanges to → PhaseWithin from.state.phase → PhaseWithin to.state.phase
exchanges_within from to [] e h = same_within from.state to.state (ap (λ (p : Point State). p.state) e) h
exchanges_within from to (exchange ∷ exchanges) (first, rest) h = exchanges_within exchange.to to exchanges rest (exchange_within from exchange first h)

pub run_within : (assigned : List ℕ) (from to : Point State) (exchanges : List Exchange) (o : Open) → from.state ≡ fresh assigned → Run from exchanges to → to.state.phase ≡ phase.Open o → IsWithinLimits o
run_within assigned from to exchanges o begun run is = subst PhaseWithin is (exchanges_within from to exchanges run (same_within (fresh assigned) from.state begun tt))
