-- Lemmas on the calls that a run of a session makes of its window.
use Rattle.std.proofs.Common.{◌≡◌, ℕ, ◌⊎◌, ◌&&◌, Bool, true, false, cond, List, [], ◌∷◌, ◌++◌, map, Option, Some, None, Result, Ok, Err, refl, sym, ap, subst, ◌∙◌, inl, inr, append_assoc, append-nil, leb, nat_lt, length}
use Rattle.std.specs.Prelude.{MatchBool, option_map}
use Rattle.std.specs.FinMap as finite
use Rattle.std.proofs.lemmas.Bool.{le-leb}
use Rattle.std.proofs.lemmas.Option.{none-some, same_Some}
use Rattle.rs_packet.specs.declared.packet.Connect.{Connect}
use Rattle.rs_packet.specs.declared.packet.Packet.{Packet}
use Rattle.rs_packet.specs.declared.packet.Packet.TheVariants as packet
use Rattle.rs_message.specs.declared.qos.Qos.{Qos}
use Rattle.rs_message.specs.declared.qos.Qos.TheVariants as qos
use Rattle.rs_packet.specs.declared.reply.PublishReply.{PublishReply}
use Rattle.rs_packet.specs.declared.reply.Reply.{Reply}
use Rattle.rs_packet.specs.declared.reply.Reply.TheVariants as reply
use Rattle.rs_packet.specs.Values.{Asked, Filter}
use Rattle.rs_message.specs.Sizes.{level}
use Rattle.rs_packet.specs.Replies.{reply_bytes}
use Rattle.rs_message.specs.declared.entry.Entry.{Entry}
use Rattle.rs_window.specs.Calls as window
use Rattle.rs_window.specs.Calls.{Call, Queue, Next, Acknowledge}
use Rattle.rs_window.specs.Packets.{reply_of, publish_reply_of}
use Rattle.rs_window.specs.Replay as calls
use Rattle.rs_window.specs.State as window_state
use Rattle.rs_window.specs.Values.{OutgoingValue}
use Rattle.rs_window.specs.Waiting.{AllDropped}
use Rattle.rs_window.specs.declared.waiting.Waiting.{Waiting}
use Rattle.rs_window.specs.declared.fault.Ack.{Ack}
use Rattle.rs_window.specs.declared.fault.Ack.TheVariants as ack_case
use Rattle.rs_window.specs.declared.fault.Ack.TheVariants.{Freed, Unknown}
use Rattle.rs_window.specs.declared.fault.WindowFault.{WindowFault}
use Rattle.rs_window.specs.Identifiers.{Kinds, kinds_put}
use Rattle.rs_window.specs.declared.fault.WindowFault.TheVariants.{WrongKind}
use Rattle.rs_window.specs.declared.identifiers.Kind.{Kind}
use Rattle.rs_window.specs.declared.identifiers.Kind.TheVariants.{AtLeastOnce, ExactlyOnce, Received}
use Rattle.rs_window.proofs.IdentifierLemmas.{put_same}
use Rattle.rs_window.proofs.ReplayLemmas.{step_limits, replayed, kinds_read, quota_holds}
use Rattle.rs_session.specs.declared.open.Open.{Open}
use Rattle.rs_session.specs.declared.open.Effect.{Effect}
use Rattle.rs_session.specs.declared.open.Effect.TheVariants.{Replies, Closes, Leaves}
use Rattle.rs_session.specs.declared.phase.Closing.{Closing}
use Rattle.rs_session.specs.declared.phase.Closing.TheVariants.{ByClient, ByServer, Dropped}
use Rattle.rs_session.specs.declared.phase.Input.{Input}
use Rattle.rs_session.specs.declared.phase.Input.TheVariants.{Whole, Broken}
use Rattle.rs_session.specs.declared.phase.Phase.{Phase}
use Rattle.rs_session.specs.declared.phase.Phase.TheVariants as phase
use Rattle.rs_session.specs.Reasons.{reason_value}
use Rattle.rs_session.specs.declared.reason.ReasonCode.{ReasonCode}
use Rattle.rs_session.specs.declared.reason.ReasonCode.TheVariants.{Success, PacketIdentifierNotFound, QuotaExceeded, ProtocolError, BadAuthenticationMethod, ImplementationSpecificError, UnsupportedProtocolVersion}
use Rattle.rs_session.specs.declared.subscriptions.Subscription.{Subscription}
use Rattle.rs_session.specs.Subscriptions.{Subscriptions, none, is_subscribed, replays}
use Rattle.rs_session.specs.State.{State, fresh, closing_of, IsGiven, IsReplayed}
use Rattle.rs_session.specs.Table.{subscription_for, acknowledged_by, acknowledgement_of, released_by, IsGrantedTo, Grants, OpenCase, OpenRow, Case, SessionRow, due_for, state_after, connack, open_for, packet_maximum, receive_maximum, With_method, With_will, Connect_refused, Accepted, Connack_too_long, Other_version, Unexpected, In_session, Over, Faulty, With_alias, Bad_topic, Sent_again, Too_many_unreleased, Not_retained, Stored, Topic_unread, Not_stored, Uncertain, Gate_closed, Wrong_acknowledgement, Acknowledged, Shared_no_local, Not_subscribed, Subscribed, Not_unsubscribed, Unsubscribed, Connected_twice, Pinged, Disconnected}
use Rattle.rs_session.specs.Table as table
use Rattle.rs_session.specs.Points.{Given, Point, with_state}
use Rattle.rs_session.specs.Run.{Exchange, Gives, GivesAll, IsExchange, Run}
use Rattle.rs_session.specs.Replay.{is_granted, subscribed_by, IsQueuedAt, IsQueuedFor, AreQueued, IsAcknowledged, AreCalledBy, acknowledgement_in, IsRefused, giving, listed, publish_replies, IsNoPublish, IsServed, IsLast, AreMade, subscriptions_of, AreCalls, window_of, window_after, window_for, IsOpen, Opens, IsReplaying, AreSentOrDropped, AreSent, IsWithinQuota, IsSentInOrder}

-- ---- a SUBSCRIBE

level_granted : (quality : Qos) → is_granted (level quality) ≡ true
level_granted qos.AtMostOnce = refl
level_granted qos.AtLeastOnce = refl
level_granted qos.ExactlyOnce = refl

run_append : (from mid : window_state.State) (before after : List Call) (to : window_state.State) → calls.Run from before mid → calls.Run mid after to → calls.Run from (before ++ after) to
run_append from mid [] after to e h = subst (λ (s : window_state.State). calls.Run s after to) e h
run_append from mid (call ∷ before) after to (next, step, rest) h = (next, step, run_append next mid before after to rest h)

-- what waits is as before, or all that is found waits behind it
queued_calls : (replayed : Bool) (filter : List ℕ) (subscription : Subscription) (now : ℕ) (list : List Entry) (code : ℕ) (old new : Open) → code ≡ level subscription.options.qos
    → MatchBool replayed (table.IsQueued now filter subscription list old new) (new.window ≡ old.window)
    → (own : List Call) × calls.Run old.window own new.window × MatchBool replayed (IsQueuedAt filter subscription now list code own) (own ≡ [])
queued_calls true filter subscription now list code old new c (found, answer, queued) =
    (Queue found subscription.options.qos subscription.identifier (Ok tt) ∷ [], (new.window, queued, refl), (found, answer, c, refl))
queued_calls false filter subscription now list code old new c same = ([], same, refl)

granted_calls : (asked : Filter) (subscription : Subscription) (now : ℕ) (list : List Entry) (old : Open) (code : ℕ) (new : Open) → IsGrantedTo asked subscription now list old code new
    → (own : List Call) × calls.Run old.window own new.window × IsQueuedFor asked subscription now list code old.subscriptions own
    × (new.subscriptions ≡ subscribed_by asked subscription code old.subscriptions)
granted_calls (Err fault) subscription now list old code new (c, same) = ([], ap (λ (o : Open). o.window) same, refl, ap (λ (o : Open). o.subscriptions) same)
granted_calls (Ok filter) subscription now list old code new (inl (c, s)) =
    let r : Bool = replays subscription.options.retain_handling (is_subscribed filter old.subscriptions) in
    let e : is_granted code ≡ true = ap is_granted c ∙ level_granted subscription.options.qos in
    let (own, run, queued) = queued_calls r filter subscription now list code old new c s.replay in (
      own,
      run,
      subst (λ (b : Bool). MatchBool (b && r) (IsQueuedAt filter subscription now list code own) (own ≡ [])) (sym e) queued,
      s.kept ∙ sym (ap (λ (b : Bool). cond b (finite.insert old.subscriptions filter subscription) old.subscriptions) e),
    )
granted_calls (Ok filter) subscription now list old code new (inr (c, same)) =
    let r : Bool = replays subscription.options.retain_handling (is_subscribed filter old.subscriptions) in
    let e : is_granted code ≡ false = ap is_granted c in
    let nothing : List Call = [] in (
      [],
      ap (λ (o : Open). o.window) same,
      subst (λ (b : Bool). MatchBool (b && r) (IsQueuedAt filter subscription now list code []) (nothing ≡ [])) (sym e) refl,
      ap (λ (o : Open). o.subscriptions) same
          ∙ sym (ap (λ (b : Bool). cond b (finite.insert old.subscriptions filter subscription) old.subscriptions) e),
    )

grants_calls : (now : ℕ) (filters : List Asked) (identifier : Option ℕ) (from : Point Open) (codes : List ℕ) (answered : List (List Entry)) (to : Point Open)
    → Grants now filters identifier from codes answered to → (own : List Call) × calls.Run from.state.window own to.state.window × AreQueued now filters identifier codes answered from.state.subscriptions own
grants_calls now [] identifier from codes answered to (c, a, seen, same) = ([], ap (λ (o : Open). o.window) same, (c, a, refl))
grants_calls now (asked ∷ more) identifier from codes answered to (code, rest, later, between, c, a, begins, granted, grants) =
    let (own, run, queued, kept) = granted_calls asked.0 (subscription_for asked identifier) now between.seen from.state code between.state granted in
    let (others, runs, are) = grants_calls now more identifier between rest later to grants in (
      own ++ others,
      run_append from.state.window between.state.window own others to.state.window run runs,
      (code, rest, between.seen, later, own, others, c, a, refl, queued, subst (λ (there : Subscriptions). AreQueued now more identifier rest later there others) kept are),
    )

-- ---- the rows of an open session

-- the calls of an input, by what it leads to
abbrev IsLed : Input → ℕ → List (List Entry) → Open → Effect → Open → Type 0
IsLed input now answered old (Replies answer) new = (own : List Call) × calls.Run old.window own new.window × AreCalledBy input now answered old.subscriptions answer own × IsNoPublish answer
IsLed input now answered old (Closes code) new = (own : List Call) × calls.Run old.window own old.window × IsRefused (acknowledgement_in input) own
IsLed input now answered old Leaves new = (own : List Call) × calls.Run old.window own old.window × IsRefused (acknowledgement_in input) own

-- it goes on with the same window
answers : (input as_read : Input) (now : ℕ) (answered : List (List Entry)) (old : Open) (effect : Effect) (answer : Option Reply) (new : Open) → input ≡ as_read → effect ≡ Replies answer → new.window ≡ old.window
    → AreCalledBy as_read now answered old.subscriptions answer [] → IsNoPublish answer → IsLed input now answered old effect new
answers input as_read now answered old effect answer new i out same called no_publish =
    let led : IsLed as_read now answered old (Replies answer) new = ([], same, called, no_publish) in
    subst (λ (read : Input). IsLed read now answered old effect new) (sym i) (subst (λ (o : Effect). IsLed as_read now answered old o new) (sym out) led)

closes : (input as_read : Input) (now : ℕ) (answered : List (List Entry)) (old : Open) (effect : Effect) (code : ReasonCode) (new : Open) → input ≡ as_read → effect ≡ Closes code
    → IsRefused (acknowledgement_in as_read) [] → IsLed input now answered old effect new
closes input as_read now answered old effect code new i out refused =
    let led : IsLed as_read now answered old (Closes code) new = ([], refl, refused) in
    subst (λ (read : Input). IsLed read now answered old effect new) (sym i) (subst (λ (o : Effect). IsLed as_read now answered old o new) (sym out) led)

no_publish_by : (quality : Qos) (id : Option ℕ) (code : ReasonCode) → IsNoPublish (acknowledged_by quality id code)
no_publish_by qos.AtMostOnce id code = tt
no_publish_by qos.AtLeastOnce None code = tt
no_publish_by qos.AtLeastOnce (Some n) code = tt
no_publish_by qos.ExactlyOnce None code = tt
no_publish_by qos.ExactlyOnce (Some n) code = tt

no_publish_release : (code id : ℕ) (b : Bool) → IsNoPublish (cond b (Some (reply.Pubrel id code)) None)
no_publish_release code id true = tt
no_publish_release code id false = tt

no_publish_released : (ack : window.Acknowledgement) (id : ℕ) (answer : Ack) → IsNoPublish (released_by ack id answer)
no_publish_released window.Puback id answer = tt
no_publish_released window.Pubcomp id answer = tt
no_publish_released (window.Pubrec code) id ack_case.Released = tt
no_publish_released (window.Pubrec code) id Freed = tt
no_publish_released (window.Pubrec code) id Unknown = no_publish_release (reason_value PacketIdentifierNotFound) id (nat_lt code 0x80)

acknowledging : (p : Packet) (now : ℕ) (answered : List (List Entry)) (there : Subscriptions) (reply : Option Reply) (ack : window.Acknowledgement) (id : ℕ) (answer : Ack) → acknowledgement_of p ≡ Some (ack, id)
    → AreCalledBy (Whole p) now answered there reply (Acknowledge ack id (Ok answer) ∷ [])
acknowledging (packet.Subscribe s) now answered there reply ack id answer is = absurd (none-some (ack, id) is)
acknowledging p now answered there reply ack id answer is =
    subst (λ (a : Option (window.Acknowledgement × ℕ)). IsAcknowledged a (Acknowledge ack id (Ok answer) ∷ [])) (sym is) (answer, refl)

ok_is_not_err : (answer : Ack) → Ok answer ≡ Err WrongKind → ⊥
ok_is_not_err answer e = subst IsOk e tt
  where
    IsOk : Result Ack WindowFault → Type 0
    IsOk (Ok a) = Unit {0}
    IsOk (Err fault) = ⊥

-- what is left of a kind after an acknowledgement that it does not await is that kind
wrong_left : (ack : window.Acknowledgement) (kind : Kind) → window.answer_to ack (Some kind) ≡ Err WrongKind → window.kind_acknowledged ack kind ≡ Some kind
wrong_left window.Puback AtLeastOnce e = absurd (ok_is_not_err Freed e)
wrong_left window.Puback ExactlyOnce e = refl
wrong_left window.Puback Received e = refl
wrong_left (window.Pubrec code) AtLeastOnce e = refl
wrong_left (window.Pubrec code) ExactlyOnce e = by_case (nat_lt code 0x80) e
  where
    by_case : (b : Bool) → window.answer_left (window.Pubrec code) (cond b (Some Received) None) ≡ Err WrongKind → cond b (Some Received) None ≡ Some ExactlyOnce
    by_case true h = absurd (ok_is_not_err ack_case.Released h)
    by_case false h = absurd (ok_is_not_err Freed h)
wrong_left (window.Pubrec code) Received e = by_case (nat_lt code 0x80) e
  where
    by_case : (b : Bool) → window.answer_left (window.Pubrec code) (cond b (Some Received) None) ≡ Err WrongKind → cond b (Some Received) None ≡ Some Received
    by_case true h = absurd (ok_is_not_err ack_case.Released h)
    by_case false h = absurd (ok_is_not_err Freed h)
wrong_left window.Pubcomp AtLeastOnce e = refl
wrong_left window.Pubcomp ExactlyOnce e = refl
wrong_left window.Pubcomp Received e = absurd (ok_is_not_err Freed e)

-- an acknowledgement that is not awaited changes nothing
wrong_step : (ack : window.Acknowledgement) (id : ℕ) (old : window_state.State) (kind : Option Kind) → finite.get old.kinds id ≡ kind → window.answer_to ack kind ≡ Err WrongKind
    → old ≡ record old { kinds = window.kinds_acknowledged ack id kind old.kinds }
wrong_step ack id old None is e = absurd (ok_is_not_err Unknown e)
wrong_step ack id old (Some kind) is e =
    let same : window.kinds_acknowledged ack id (Some kind) old.kinds ≡ old.kinds = ap (kinds_put old.kinds id) (wrong_left ack kind e) ∙ put_same old.kinds id kind is in
    ap (λ (kinds : Kinds). let s : window_state.State = record old { kinds = kinds } in s) (sym same)

same_window : (old new : Open) → new ≡ old → new.window ≡ old.window
same_window old new e = ap (λ (o : Open). o.window) e

row_calls : (case : OpenCase) (given : Given) (from : Point Open) (answered : List (List Entry)) (effect : Effect) (to : Point Open)
    → OpenRow case given from answered effect to → IsLed given.input given.now answered from.state effect to.state
row_calls Connected_twice given from answered effect to (c, i, out, unchanged) = closes given.input _ given.now answered from.state effect _ to.state i out refl
row_calls Faulty given from answered effect to (f, i, out, unchanged) = closes given.input _ given.now answered from.state effect _ to.state i out refl
row_calls With_alias given from answered effect to (p, i, a, out, unchanged) = closes given.input _ given.now answered from.state effect _ to.state i out refl
row_calls Bad_topic given from answered effect to (p, f, i, a, t, other, out, unchanged) = closes given.input _ given.now answered from.state effect _ to.state i out refl
row_calls Sent_again given from answered effect to (p, i, a, t, unreleased, out, unchanged) =
    answers given.input _ given.now answered from.state effect _ to.state i out (same_window from.state to.state unchanged.same) refl (no_publish_by p.qos p.id Success)
row_calls Too_many_unreleased given from answered effect to (p, i, a, t, many, out, unchanged) = closes given.input _ given.now answered from.state effect _ to.state i out refl
row_calls Not_retained given from answered effect to (p, topic, i, taken, t, r, out, u, same) =
    answers given.input _ given.now answered from.state effect _ to.state i out (ap (λ (o : Open). o.window) same) refl (no_publish_by p.qos p.id Success)
row_calls Stored given from answered effect to (p, topic, operation, i, s, submitted, out, same) =
    answers given.input _ given.now answered from.state effect _ to.state i out (ap (λ (o : Open). o.window) same) refl (no_publish_by p.qos p.id Success)
row_calls Topic_unread given from answered effect to (p, i, taken, t, out, unchanged) =
    answers given.input _ given.now answered from.state effect _ to.state i out (same_window from.state to.state unchanged.same) refl (no_publish_by p.qos p.id QuotaExceeded)
row_calls Not_stored given from answered effect to (p, topic, operation, i, s, out, same) =
    answers given.input _ given.now answered from.state effect _ to.state i out (same_window from.state to.state same) refl (no_publish_by p.qos p.id QuotaExceeded)
row_calls Uncertain given from answered effect to (p, topic, operation, i, s, out, same) = closes given.input _ given.now answered from.state effect _ to.state i out refl
row_calls Gate_closed given from answered effect to (p, topic, operation, i, s, out, same) = closes given.input _ given.now answered from.state effect _ to.state i out refl
row_calls table.Released given from answered effect to (a, i, out, u, same) =
    answers given.input _ given.now answered from.state effect _ to.state i out (ap (λ (o : Open). o.window) same) refl tt
row_calls Wrong_acknowledgement given from answered effect to (p, ack, id, i, is, wrong, out, unchanged) =
    let led : IsLed (Whole p) given.now answered from.state (Closes ProtocolError) to.state = (
      Acknowledge ack id (Err WrongKind) ∷ [],
      (from.state.window, (sym wrong, wrong_step ack id from.state.window (finite.get from.state.window.kinds id) refl wrong), refl),
      subst (λ (a : Option (window.Acknowledgement × ℕ)). IsRefused a (Acknowledge ack id (Err WrongKind) ∷ [])) (sym is) refl,
    ) in
    subst (λ (read : Input). IsLed read given.now answered from.state effect to.state) (sym i) (subst (λ (o : Effect). IsLed (Whole p) given.now answered from.state o to.state) (sym out) led)
row_calls Acknowledged given from answered effect to (p, ack, id, answer, i, is, step, out, u, same) =
    let led : IsLed (Whole p) given.now answered from.state (Replies (released_by ack id answer)) to.state = (
      Acknowledge ack id (Ok answer) ∷ [],
      (to.state.window, step, refl),
      acknowledging p given.now answered from.state.subscriptions (released_by ack id answer) ack id answer is,
      no_publish_released ack id answer,
    ) in
    subst (λ (read : Input). IsLed read given.now answered from.state effect to.state) (sym i) (subst (λ (o : Effect). IsLed (Whole p) given.now answered from.state o to.state) (sym out) led)
row_calls Shared_no_local given from answered effect to (s, i, n, out, unchanged) = closes given.input _ given.now answered from.state effect _ to.state i out refl
row_calls Not_subscribed given from answered effect to (s, i, n, out, unchanged) = closes given.input _ given.now answered from.state effect _ to.state i out refl
row_calls Subscribed given from answered effect to (s, codes, i, n, grants, out, u) =
    let (own, run, queued) = grants_calls given.now s.filters s.subscription from codes answered to grants in
    let led : IsLed (Whole (packet.Subscribe s)) given.now answered from.state (Replies (Some (reply.Suback (record { id = s.id; codes = codes })))) to.state = (own, run, (codes, refl, queued), tt) in
    subst (λ (read : Input). IsLed read given.now answered from.state effect to.state) (sym i) (subst (λ (o : Effect). IsLed (Whole (packet.Subscribe s)) given.now answered from.state o to.state) (sym out) led)
row_calls Not_unsubscribed given from answered effect to (u, i, out, unchanged) = closes given.input _ given.now answered from.state effect _ to.state i out refl
row_calls Unsubscribed given from answered effect to (u, i, out, m, same) =
    answers given.input _ given.now answered from.state effect _ to.state i out (ap (λ (o : Open). o.window) same) refl tt
row_calls Pinged given from answered effect to (i, out, unchanged) =
    answers given.input _ given.now answered from.state effect _ to.state i out (same_window from.state to.state unchanged.same) refl tt
row_calls Disconnected given from answered effect to (code, i, out, unchanged) =
    let led : IsLed (Whole (packet.Disconnect code)) given.now answered from.state Leaves to.state = ([], refl, refl) in
    subst (λ (read : Input). IsLed read given.now answered from.state effect to.state) (sym i) (subst (λ (o : Effect). IsLed (Whole (packet.Disconnect code)) given.now answered from.state o to.state) (sym out) led)

-- ---- the replies

none_next : (now : ℕ) (old new : window_state.State) (publish : Option OutgoingValue) → None ≡ option_map reply_of publish → window.IsNext now old publish new → window.Step old (Next now None) new
none_next now old new None e step = step
none_next now old new (Some p) e step = absurd (none-some (reply_of p) e)

some_next : (now : ℕ) (answer : Reply) (old new : window_state.State) (publish : Option OutgoingValue) → Some answer ≡ option_map reply_of publish → window.IsNext now old publish new
    → (p : OutgoingValue) × (answer ≡ reply_of p) × window.Step old (Next now (Some p)) new
some_next now answer old new None e step = absurd (none-some answer (sym e))
some_next now answer old new (Some p) e step = (p, same_Some answer (reply_of p) e, step)

abbrev pub AreGiven : ℕ → Option Reply → Open → List Reply → State → Type 0
AreGiven now due o replies new = (given : List OutgoingValue) × (n : Open) × (new.phase ≡ phase.Open n) × calls.Run o.window (giving now given) n.window × (replies ≡ listed due ++ map reply_of given)

last_given : (now : ℕ) (due : Option Reply) (old : State) (o : Open) (new : State) → old.phase ≡ phase.Open o → IsGiven now due old None None new → AreGiven now due o [] new
last_given now (Some first) old o new e (g, d, same) = absurd (none-some first g)
last_given now None old o new e (d, a, r) =
    let (n, is, sent) : IsReplayed now (phase.Open o) None new.phase = subst (λ (p : Phase). IsReplayed now p None new.phase) e r in
    ([], n, is, (n.window, none_next now o.window n.window sent.publish sent.reply sent.next, refl), refl)

-- what an open session replies: what is due, and then what the window gives
pub given_calls : (now : ℕ) (due : Option Reply) (old : State) (o : Open) (replies : List Reply) (left : Option Reply) (last new : State) → old.phase ≡ phase.Open o → Gives now due old replies left last
    → IsGiven now left last None None new → AreGiven now due o replies new
given_calls now due old o [] left last new e (l, s) after =
    last_given now due old o new e (subst (λ (p : State). IsGiven now due p None None new) s (subst (λ (d : Option Reply). IsGiven now d last None None new) l after))
given_calls now (Some first) old o (answer ∷ replies) left last new e (later, mid, (g, d, same), rest) after =
    let (given, n, is, run, whole) =
    given_calls now None mid o replies left last new (ap (λ (p : State). p.phase) same ∙ e) (subst (λ (l : Option Reply). Gives now l mid replies left last) d rest) after in
    (given, n, is, run, ap (λ (r : Reply). r ∷ replies) (same_Some answer first g) ∙ ap (λ (rs : List Reply). first ∷ rs) whole)
given_calls now None old o (answer ∷ replies) left last new e (later, mid, (d, a, r), rest) after =
    let (o1, is1, sent) : IsReplayed now (phase.Open o) (Some answer) mid.phase = subst (λ (p : Phase). IsReplayed now p (Some answer) mid.phase) e r in
    let (p, carried, step) = some_next now answer o.window o1.window sent.publish sent.reply sent.next in
    let (given, n, is, run, whole) = given_calls now None mid o1 replies left last new is1 (subst (λ (l : Option Reply). Gives now l mid replies left last) d rest) after in
    (p ∷ given, n, is, (o1.window, step, run), ap (λ (r : Reply). r ∷ replies) carried ∙ ap (λ (rs : List Reply). reply_of p ∷ rs) whole)

-- what an ended one replies: what is due
abbrev pub AreLeft : Option Reply → Closing → List Reply → State → Type 0
AreLeft due closing replies new = (new.phase ≡ phase.Ended closing) × (replies ≡ listed due)

last_left : (now : ℕ) (due : Option Reply) (old : State) (closing : Closing) (new : State) → old.phase ≡ phase.Ended closing → IsGiven now due old None None new → AreLeft due closing [] new
last_left now (Some first) old closing new e (g, d, same) = absurd (none-some first g)
last_left now None old closing new e (d, a, r) =
    let (nothing, is) : IsReplayed now (phase.Ended closing) None new.phase = subst (λ (p : Phase). IsReplayed now p None new.phase) e r in
    (is, refl)

pub left_replies : (now : ℕ) (due : Option Reply) (old : State) (closing : Closing) (replies : List Reply) (left : Option Reply) (last new : State) → old.phase ≡ phase.Ended closing
    → Gives now due old replies left last → IsGiven now left last None None new → AreLeft due closing replies new
left_replies now due old closing [] left last new e (l, s) after =
    last_left now due old closing new e (subst (λ (p : State). IsGiven now due p None None new) s (subst (λ (d : Option Reply). IsGiven now d last None None new) l after))
left_replies now (Some first) old closing (answer ∷ replies) left last new e (later, mid, (g, d, same), rest) after =
    let (is, whole) = left_replies now None mid closing replies left last new (ap (λ (p : State). p.phase) same ∙ e) (subst (λ (l : Option Reply). Gives now l mid replies left last) d rest) after in
    (is, ap (λ (r : Reply). r ∷ replies) (same_Some answer first g) ∙ ap (λ (rs : List Reply). first ∷ rs) whole)
left_replies now None old closing (answer ∷ replies) left last new e (later, mid, (d, a, r), rest) after =
    let (given, is) : IsReplayed now (phase.Ended closing) (Some answer) mid.phase = subst (λ (p : Phase). IsReplayed now p (Some answer) mid.phase) e r in
    absurd (none-some answer (sym given))

-- ---- an exchange

run_maximum : (from : window_state.State) (made : List Call) (to : window_state.State) → calls.Run from made to → to.packet_maximum ≡ from.packet_maximum
run_maximum from [] to e = ap (λ (s : window_state.State). s.packet_maximum) e
run_maximum from (call ∷ made) to (mid, step, rest) = run_maximum mid made to rest ∙ (step_limits from call mid step).1

run_quota : (from : window_state.State) (made : List Call) (to : window_state.State) → calls.Run from made to → to.quota ≡ from.quota
run_quota from [] to e = ap (λ (s : window_state.State). s.quota) e
run_quota from (call ∷ made) to (mid, step, rest) = run_quota mid made to rest ∙ (step_limits from call mid step).0

-- the calls of an exchange, from the window of an open session to that in this phase
abbrev IsMadeTo : Open → Exchange → Phase → Type 0
IsMadeTo o exchange to = (made : List Call) × calls.Run o.window made (window_of o.window to) × AreMade o.subscriptions exchange to made

none_within : (b : Bool) (code : ℕ) → publish_replies (listed (cond b (Some (reply.Disconnect code)) None)) ≡ []
none_within true code = refl
none_within false code = refl

led_made : (exchange : Exchange) (o left : Open) (effect : Effect) (old mid : State) (due : Option Reply) → IsLed exchange.given.input exchange.given.now exchange.answered o effect left → due ≡ due_for o.window.packet_maximum effect
    → mid ≡ state_after effect old left → GivesAll exchange.given.now due mid exchange.replies exchange.to.state → IsMadeTo o exchange exchange.to.state.phase
led_made exchange o left (Replies answer) old mid due (own, run, called, no_publish) d same g =
    let (given, n, is, runs, whole) = given_calls exchange.given.now due mid left exchange.replies g.left g.last exchange.to.state (ap (λ (s : State). s.phase) same) g.given g.none_left in
    let all : calls.Run o.window (own ++ giving exchange.given.now given) n.window = run_append o.window left.window own (giving exchange.given.now given) n.window run runs in
    let served : IsServed o.subscriptions n.window.packet_maximum exchange (own ++ giving exchange.given.now given) = record {
      answer = answer;
      own = own;
      given = given;
      called = called;
      no_publish = no_publish;
      whole = refl;
      replies = whole ∙ ap (λ (r : Option Reply). listed r ++ map reply_of given) d
          ∙ ap (λ (maximum : ℕ). listed (due_for maximum (Replies answer)) ++ map reply_of given) (sym (run_maximum o.window (own ++ giving exchange.given.now given) n.window all));
    } in
    subst (λ (p : Phase). IsMadeTo o exchange p) (sym is) (own ++ giving exchange.given.now given, all, served)
led_made exchange o left (Closes code) old mid due (own, run, refused) d same g =
    let (is, whole) = left_replies exchange.given.now due mid (ByServer (reason_value code)) exchange.replies g.left g.last exchange.to.state (ap (λ (s : State). s.phase) same) g.given g.none_left in
    let last : IsLast exchange own = record {
      refused = refused;
      none_given = ap publish_replies whole ∙ ap (λ (r : Option Reply). publish_replies (listed r)) d ∙ none_within (leb (length (reply_bytes (reply.Disconnect (reason_value code)))) o.window.packet_maximum) (reason_value code);
    } in
    subst (λ (p : Phase). IsMadeTo o exchange p) (sym is) (own, run, last)
led_made exchange o left Leaves old mid due (own, run, refused) d same g =
    let (is, whole) = left_replies exchange.given.now due mid ByClient exchange.replies g.left g.last exchange.to.state (ap (λ (s : State). s.phase) same) g.given g.none_left in
    let last : IsLast exchange own = record { refused = refused; none_given = ap publish_replies whole ∙ ap (λ (r : Option Reply). publish_replies (listed r)) d } in
    subst (λ (p : Phase). IsMadeTo o exchange p) (sym is) (own, run, last)

-- from whatever phase
abbrev IsMade : window_state.State → Phase → Exchange → Type 0
IsMade w from exchange =
    (made : List Call) × calls.Run (window_of w from) made (window_of (window_of w from) exchange.to.state.phase) × AreMade (subscriptions_of from) exchange exchange.to.state.phase made

pub shut : {A : Type 0} (a b : Phase) → a ≡ b → IsOpen a → (IsOpen b → ⊥) → A
shut a b e h closed = absurd (closed (subst IsOpen e h))

open_made : (w : window_state.State) (from : Point State) (exchange : Exchange) (case : Case) (due : Option Reply) (mid : State) → IsOpen from.state.phase
    → SessionRow case exchange.given from exchange.answered due (with_state exchange.to mid) → GivesAll exchange.given.now due mid exchange.replies exchange.to.state → IsMade w from.state.phase exchange
open_made w from exchange With_method due mid h (c, i, before, m, refused) g = shut from.state.phase phase.Before before h (λ n. n)
open_made w from exchange With_will due mid h (c, i, before, m, k, refused) g = shut from.state.phase phase.Before before h (λ n. n)
open_made w from exchange Connect_refused due mid h (c, i, before, m, k, refused) g = shut from.state.phase phase.Before before h (λ n. n)
open_made w from exchange Accepted due mid h (c, i, before, m, k, short, u, d, same) g = shut from.state.phase phase.Before before h (λ n. n)
open_made w from exchange Connack_too_long due mid h (c, i, before, m, k, long, u, d, same) g = shut from.state.phase phase.Before before h (λ n. n)
open_made w from exchange Other_version due mid h (i, before, u, d, same) g = shut from.state.phase phase.Before before h (λ n. n)
open_made w from exchange Unexpected due mid h (i, before, u, d, same) g = shut from.state.phase phase.Before before h (λ n. n)
open_made w from exchange In_session due mid h (o, left, effect, is, (case, a, row), d, same) g =
    let led : IsLed exchange.given.input exchange.given.now exchange.answered o effect left = row_calls case exchange.given (with_state from o) exchange.answered effect (with_state exchange.to left) row in
    subst (λ (p : Phase). IsMade w p exchange) (sym is) (led_made exchange o left effect from.state mid due led d same g)
open_made w from exchange Over due mid h (closing, is, u, d, same) g = shut from.state.phase (phase.Ended closing) is h (λ n. n)

-- the first exchange, if it opens the session
abbrev connect_in : Connect → Input → Connect
connect_in other (Whole (packet.Connect c)) = c
connect_in other input = other

ended_first : {A : Type 0} (exchange : Exchange) (due : Option Reply) (mid : State) (closing : Closing) → mid.phase ≡ phase.Ended closing → GivesAll exchange.given.now due mid exchange.replies exchange.to.state → IsOpen exchange.to.state.phase → A
ended_first exchange due mid closing is g h =
    shut exchange.to.state.phase (phase.Ended closing) (left_replies exchange.given.now due mid closing exchange.replies g.left g.last exchange.to.state is g.given g.none_left).0 h (λ n. n)

pub phase_of : (a b : State) → a ≡ b → a.phase ≡ b.phase
phase_of a b e = ap (λ (s : State). s.phase) e

first_made : (from : Point State) (exchange : Exchange) (c : Connect) (case : Case) (due : Option Reply) (mid : State) → from.state.phase ≡ phase.Before → exchange.given.input ≡ Whole (packet.Connect c) → IsOpen exchange.to.state.phase
    → SessionRow case exchange.given from exchange.answered due (with_state exchange.to mid) → GivesAll exchange.given.now due mid exchange.replies exchange.to.state
    → IsMadeTo (open_for c) exchange exchange.to.state.phase
first_made from exchange c With_method due mid begun is h (d, i, before, m, refused) g = ended_first exchange due mid (ByServer (reason_value BadAuthenticationMethod)) (phase_of mid _ refused.end) g h
first_made from exchange c With_will due mid begun is h (d, i, before, m, k, refused) g = ended_first exchange due mid (ByServer (reason_value ImplementationSpecificError)) (phase_of mid _ refused.end) g h
first_made from exchange c Connect_refused due mid begun is h (d, i, before, m, k, refused) g = ended_first exchange due mid (ByServer (reason_value QuotaExceeded)) (phase_of mid _ refused.end) g h
first_made from exchange c Accepted due mid begun is h (d, i, before, m, k, short, u, e, same) g =
    let o : Open = open_for d in
    let answer : Reply = connack d from.state in
    let sent : due ≡ due_for o.window.packet_maximum (Replies (Some answer)) = e ∙ sym (ap (λ (b : Bool). cond b (Some answer) None) (le-leb (length (reply_bytes answer)) o.window.packet_maximum short)) in
    let led : IsLed exchange.given.input exchange.given.now exchange.answered o (Replies (Some answer)) o =
    answers exchange.given.input (Whole (packet.Connect d)) exchange.given.now exchange.answered o (Replies (Some answer)) (Some answer) o i refl refl refl tt in
    subst (λ (x : Connect). IsMadeTo (open_for x) exchange exchange.to.state.phase) (ap (connect_in c) (sym i ∙ is)) (led_made exchange o o (Replies (Some answer)) from.state mid due led sent same g)
first_made from exchange c Connack_too_long due mid begun is h (d, i, before, m, k, long, u, e, same) g = ended_first exchange due mid (ByServer (reason_value Success)) (phase_of mid _ same) g h
first_made from exchange c Other_version due mid begun is h (i, before, u, e, same) g = ended_first exchange due mid (ByServer (reason_value UnsupportedProtocolVersion)) (phase_of mid _ same) g h
first_made from exchange c Unexpected due mid begun is h (i, before, u, e, same) g = ended_first exchange due mid Dropped (phase_of mid _ same) g h
first_made from exchange c In_session due mid begun is h (o, left, effect, at, row, e, same) g = shut (phase.Open o) phase.Before (sym at ∙ begun) tt (λ n. n)
first_made from exchange c Over due mid begun is h (closing, at, u, e, same) g = ended_first exchange due mid closing (phase_of mid from.state same ∙ at) g h

-- ---- a run

abbrev HasBegun : Phase → Type 0
HasBegun phase.Before = ⊥
HasBegun (phase.Open o) = Unit {0}
HasBegun (phase.Ended closing) = Unit {0}

is_open : (p : Phase) → HasBegun p → closing_of p ≡ None → IsOpen p
is_open phase.Before h e = absurd h
is_open (phase.Open o) h e = tt
is_open (phase.Ended closing) h e = absurd (none-some closing (sym e))

has_begun : (there : Subscriptions) (exchange : Exchange) (p : Phase) (made : List Call) → AreMade there exchange p made → HasBegun p
has_begun there exchange phase.Before made h = h
has_begun there exchange (phase.Open o) made h = tt
has_begun there exchange (phase.Ended closing) made h = tt

exchanges_made : (w : window_state.State) (from to : Point State) (exchanges : List Exchange) → Run from exchanges to → HasBegun from.state.phase
    → (made : List Call) × calls.Run (window_of w from.state.phase) made (window_after (window_of w from.state.phase) exchanges) × AreCalls from.state.phase exchanges made
exchanges_made w from to [] e h = ([], refl, refl)
exchanges_made w from to (exchange ∷ exchanges) (t, rest) h =
    let (own, run, made) = open_made w from exchange t.case t.due t.mid (is_open from.state.phase h t.goes_on) t.row.1 t.all_given in
    let at : window_state.State = window_of w from.state.phase in
    let (more, runs, are) = exchanges_made at exchange.to to exchanges rest (has_begun (subscriptions_of from.state.phase) exchange exchange.to.state.phase own made) in (
      own ++ more,
      run_append at (window_of at exchange.to.state.phase) own more (window_after (window_of at exchange.to.state.phase) exchanges) run runs,
      (own, more, refl, made, are),
    )

pub run_replays : (assigned : List ℕ) (from to : Point State) (exchanges : List Exchange) (c : Connect) → from.state ≡ fresh assigned → Run from exchanges to → Opens c exchanges → IsReplaying c exchanges
run_replays assigned from to [] c begun run opens = absurd opens
run_replays assigned from to (exchange ∷ exchanges) c begun (t, rest) (is, h) =
    let (own, run, made) = first_made from exchange c t.case t.due t.mid (phase_of from.state (fresh assigned) begun) is h t.row.1 t.all_given in
    let at : window_state.State = window_for c in
    let (more, runs, are) = exchanges_made at exchange.to to exchanges rest (has_begun none exchange exchange.to.state.phase own made) in
    record {
      made = own ++ more;
      run = run_append at (window_of at exchange.to.state.phase) own more (window_after (window_of at exchange.to.state.phase) exchanges) run runs;
      by_exchanges = (own, more, refl, made, are);
    }

-- ---- what the calls send

-- none of them is a `next`
abbrev GivesNone : List Call → Type 0
GivesNone [] = Unit {0}
GivesNone (Queue found granted subscription answer ∷ made) = GivesNone made
GivesNone (Next now given ∷ made) = ⊥
GivesNone (Acknowledge ack id answer ∷ made) = GivesNone made

gives_none_append : (before after : List Call) → GivesNone before → GivesNone after → GivesNone (before ++ after)
gives_none_append [] after h g = g
gives_none_append (Queue found granted subscription answer ∷ before) after h g = gives_none_append before after h g
gives_none_append (Next now given ∷ before) after h g = absurd h
gives_none_append (Acknowledge ack id answer ∷ before) after h g = gives_none_append before after h g

same_gives_none : (a b : List Call) → a ≡ b → GivesNone b → GivesNone a
same_gives_none a b e h = subst GivesNone (sym e) h

queued_gives_none : (replayed : Bool) (filter : List ℕ) (subscription : Subscription) (now : ℕ) (list : List Entry) (code : ℕ) (own : List Call)
    → MatchBool replayed (IsQueuedAt filter subscription now list code own) (own ≡ []) → GivesNone own
queued_gives_none true filter subscription now list code own (found, answer, c, e) = same_gives_none own (Queue found subscription.options.qos subscription.identifier (Ok tt) ∷ []) e tt
queued_gives_none false filter subscription now list code own e = same_gives_none own [] e tt

filter_gives_none : (asked : Filter) (subscription : Subscription) (now : ℕ) (list : List Entry) (code : ℕ) (there : Subscriptions) (own : List Call)
    → IsQueuedFor asked subscription now list code there own → GivesNone own
filter_gives_none (Err fault) subscription now list code there own e = same_gives_none own [] e tt
filter_gives_none (Ok filter) subscription now list code there own h =
    queued_gives_none (is_granted code && replays subscription.options.retain_handling (is_subscribed filter there)) filter subscription now list code own h

filters_give_none : (now : ℕ) (filters : List Asked) (identifier : Option ℕ) (codes : List ℕ) (answered : List (List Entry)) (there : Subscriptions) (own : List Call) → AreQueued now filters identifier codes answered there own
    → GivesNone own
filters_give_none now [] identifier codes answered there own (c, a, e) = same_gives_none own [] e tt
filters_give_none now (asked ∷ more) identifier codes answered there own (code, rest, list, later, first, others, c, a, e, queued, are) =
    same_gives_none own (first ++ others) e (gives_none_append first others (filter_gives_none asked.0 (subscription_for asked identifier) now list code there first queued)
    (filters_give_none now more identifier rest later (subscribed_by asked.0 (subscription_for asked identifier) code there) others are))

acknowledged_gives_none : (a : Option (window.Acknowledgement × ℕ)) (own : List Call) → IsAcknowledged a own → GivesNone own
acknowledged_gives_none None own e = same_gives_none own [] e tt
acknowledged_gives_none (Some (ack, id)) own (answer, e) = same_gives_none own (Acknowledge ack id (Ok answer) ∷ []) e tt

refused_gives_none : (a : Option (window.Acknowledgement × ℕ)) (own : List Call) → IsRefused a own → GivesNone own
refused_gives_none None own e = same_gives_none own [] e tt
refused_gives_none (Some (ack, id)) own e = same_gives_none own (Acknowledge ack id (Err WrongKind) ∷ []) e tt

called_gives_none : (input : Input) (now : ℕ) (answered : List (List Entry)) (there : Subscriptions) (answer : Option Reply) (own : List Call) → AreCalledBy input now answered there answer own → GivesNone own
called_gives_none (Whole (packet.Subscribe s)) now answered there answer own (codes, e, queued) = filters_give_none now s.filters s.subscription codes answered there own queued
called_gives_none (Whole p) now answered there answer own h = acknowledged_gives_none (acknowledgement_of p) own h
called_gives_none (Broken fault) now answered there answer own e = same_gives_none own [] e tt

-- what leaves the queue in calls that give nothing and others, leaves it in the others
front_after : (packet_maximum : ℕ) (own rest : List Call) (front : List Waiting) → GivesNone own → calls.HasLeft packet_maximum (own ++ rest) front → calls.HasLeft packet_maximum rest front
front_after packet_maximum [] rest front h is = is
front_after packet_maximum (Queue found granted subscription answer ∷ own) rest front h (gone, more, e, none_gone, is) =
    front_after packet_maximum own rest front h (subst (λ (ws : List Waiting). calls.HasLeft packet_maximum (own ++ rest) ws) (sym (e ∙ ap (λ (ws : List Waiting). ws ++ more) none_gone)) is)
front_after packet_maximum (Next now given ∷ own) rest front h is = absurd h
front_after packet_maximum (Acknowledge ack id answer ∷ own) rest front h (gone, more, e, none_gone, is) =
    front_after packet_maximum own rest front h (subst (λ (ws : List Waiting). calls.HasLeft packet_maximum (own ++ rest) ws) (sym (e ∙ ap (λ (ws : List Waiting). ws ++ more) none_gone)) is)

dropped_first : (packet_maximum now : ℕ) (dropped ws : List Waiting) (sent : List PublishReply) → AllDropped packet_maximum now dropped → AreSentOrDropped packet_maximum now ws sent
    → AreSentOrDropped packet_maximum now (dropped ++ ws) sent
dropped_first packet_maximum now [] ws sent all h = h
dropped_first packet_maximum now (w ∷ dropped) ws sent (first, all) h = inl (first, dropped_first packet_maximum now dropped ws sent all h)

-- what leaves the queue while the window gives these
front_given : (packet_maximum now : ℕ) (given : List OutgoingValue) (rest : List Call) (front : List Waiting) → calls.HasLeft packet_maximum (giving now given ++ rest) front
    → (gone : List Waiting) × (more : List Waiting) × (front ≡ gone ++ more) × AreSentOrDropped packet_maximum now gone (map publish_reply_of given) × calls.HasLeft packet_maximum rest more
front_given packet_maximum now [] rest front (gone, more, e, all, is) =
    (gone, more, e, subst (λ (ws : List Waiting). AreSentOrDropped packet_maximum now ws []) (append-nil gone) (dropped_first packet_maximum now gone [] [] all refl), is)
front_given packet_maximum now (p ∷ given) rest front (gone, more, e, (dropped, w, whole, all, carries), is) =
    let (later, left, e_later, sent, fronts) = front_given packet_maximum now given rest more is in
    let here : AreSentOrDropped packet_maximum now (w ∷ later) (publish_reply_of p ∷ map publish_reply_of given) = inr (p, map publish_reply_of given, refl, carries, sent) in
    let regroup : front ≡ (dropped ++ w ∷ later) ++ left =
    e ∙ ap (λ (ws : List Waiting). ws ++ more) whole ∙ append_assoc dropped (w ∷ []) more ∙ ap (λ (ws : List Waiting). dropped ++ w ∷ ws) e_later ∙ sym (append_assoc dropped (w ∷ later) left) in
    (dropped ++ w ∷ later, left, regroup, dropped_first packet_maximum now dropped (w ∷ later) _ all here, fronts)

published : (given : List OutgoingValue) → publish_replies (map reply_of given) ≡ map publish_reply_of given
published [] = refl
published (p ∷ given) = ap (λ (ps : List PublishReply). publish_reply_of p ∷ ps) (published given)

other_first : (r : Reply) (rs : List Reply) → IsNoPublish (Some r) → publish_replies (r ∷ rs) ≡ publish_replies rs
other_first (reply.Publish p) rs h = absurd h
other_first r rs h = refl

answer_first : (maximum : ℕ) (answer : Option Reply) (rs : List Reply) → IsNoPublish answer → publish_replies (listed (due_for maximum (Replies answer)) ++ rs) ≡ publish_replies rs
answer_first maximum None rs h = refl
answer_first maximum (Some r) rs h = by_case (leb (length (reply_bytes r)) maximum)
  where
    by_case : (b : Bool) → publish_replies (listed (cond b (Some r) None) ++ rs) ≡ publish_replies rs
    by_case true = other_first r rs h
    by_case false = refl

exchange_sends : (packet_maximum : ℕ) (there : Subscriptions) (exchange : Exchange) (to : Phase) (made rest : List Call) (front : List Waiting) → AreMade there exchange to made → calls.HasLeft packet_maximum (made ++ rest) front
    → (gone : List Waiting) × (more : List Waiting) × (front ≡ gone ++ more) × AreSentOrDropped packet_maximum exchange.given.now gone (publish_replies exchange.replies) × calls.HasLeft packet_maximum rest more
exchange_sends packet_maximum there exchange phase.Before made rest front h is = absurd h
exchange_sends packet_maximum there exchange (phase.Open o) made rest front s is =
    let apart : calls.HasLeft packet_maximum (s.own ++ (giving exchange.given.now s.given ++ rest)) front =
    subst (λ (cs : List Call). calls.HasLeft packet_maximum cs front) (ap (λ (cs : List Call). cs ++ rest) s.whole ∙ append_assoc s.own (giving exchange.given.now s.given) rest) is in
    let (gone, more, e, sent, fronts) = front_given packet_maximum exchange.given.now s.given rest front
    (front_after packet_maximum s.own (giving exchange.given.now s.given ++ rest) front (called_gives_none exchange.given.input exchange.given.now exchange.answered there s.answer s.own s.called) apart) in
    let replied : publish_replies exchange.replies ≡ map publish_reply_of s.given = ap publish_replies s.replies ∙ answer_first o.window.packet_maximum s.answer (map reply_of s.given) s.no_publish ∙ published s.given in
    (gone, more, e, subst (λ (ps : List PublishReply). AreSentOrDropped packet_maximum exchange.given.now gone ps) (sym replied) sent, fronts)
exchange_sends packet_maximum there exchange (phase.Ended closing) made rest front last is =
    ([], front, refl, last.none_given, front_after packet_maximum made rest front (refused_gives_none (acknowledgement_in exchange.given.input) made last.refused) is)

exchanges_send : (packet_maximum : ℕ) (from : Phase) (exchanges : List Exchange) (made : List Call) (front : List Waiting) → AreCalls from exchanges made → calls.HasLeft packet_maximum made front → AreSent packet_maximum exchanges front
exchanges_send packet_maximum from [] made front e is = subst (λ (cs : List Call). calls.HasLeft packet_maximum cs front) e is
exchanges_send packet_maximum from (exchange ∷ exchanges) made front (own, rest, e, here, later) is =
    let (gone, more, whole, sent, fronts) =
    exchange_sends packet_maximum (subscriptions_of from) exchange exchange.to.state.phase own rest front here (subst (λ (cs : List Call). calls.HasLeft packet_maximum cs front) e is) in
    (gone, more, whole, sent, exchanges_send packet_maximum exchange.to.state.phase exchanges rest more later fronts)

-- the first calls of a run are a run
run_first : (from : window_state.State) (before after : List Call) (to : window_state.State) → calls.Run from (before ++ after) to → (mid : window_state.State) × calls.Run from before mid
run_first from [] after to h = (from, refl)
run_first from (call ∷ before) after to (next, step, rest) = let (mid, more) = run_first next before after to rest in (mid, (next, step, more))

within_quota : (c : Connect) (made : List Call) (end : window_state.State) → calls.Run (window_for c) made end → (before after : List Call) → made ≡ before ++ after → IsWithinQuota c before
within_quota c made end run before after e =
    let maximum : ℕ = packet_maximum c.packet_maximum in
    let quota : ℕ = receive_maximum c.receive_maximum in
    let (mid, first) = run_first (window_for c) before after end (subst (λ (cs : List Call). calls.Run (window_for c) cs end) e run) in
    record { kinds = mid.kinds; unacknowledged = kinds_read quota maximum before mid first; few = quota_holds quota maximum before mid first }

pub replay_sends : (c : Connect) (exchanges : List Exchange) (r : IsReplaying c exchanges) → IsSentInOrder c exchanges r.made
replay_sends c exchanges r =
    let maximum : ℕ = packet_maximum c.packet_maximum in
    let quota : ℕ = receive_maximum c.receive_maximum in
    let end : window_state.State = window_after (window_for c) exchanges in
    let replay : calls.IsReplayed maximum r.made end.waiting = replayed quota maximum r.made end r.run in
    record {
      front = replay.prefix;
      whole = replay.whole;
      sent = exchanges_send maximum phase.Before exchanges r.made replay.prefix r.by_exchanges replay.leaves;
      quota = run_quota (window_for c) r.made end r.run;
      within = within_quota c r.made end r.run;
      unacknowledged = kinds_read quota maximum r.made end r.run;
    }

-- ---- which exchange opens a session

abbrev OpensOrEnds : Exchange → Type 0
OpensOrEnds exchange = ((c : Connect) × Opens c (exchange ∷ [])) ⊎ ((closing : Closing) × (exchange.to.state.phase ≡ phase.Ended closing))

ends_first : (exchange : Exchange) (due : Option Reply) (mid : State) (closing : Closing) → mid.phase ≡ phase.Ended closing → GivesAll exchange.given.now due mid exchange.replies exchange.to.state → OpensOrEnds exchange
ends_first exchange due mid closing is g = inr (closing, (left_replies exchange.given.now due mid closing exchange.replies g.left g.last exchange.to.state is g.given g.none_left).0)

-- the first exchange opens it by a CONNECT, or it ends
first_to : (from : Point State) (exchange : Exchange) (case : Case) (due : Option Reply) (mid : State) → from.state.phase ≡ phase.Before
    → SessionRow case exchange.given from exchange.answered due (with_state exchange.to mid) → GivesAll exchange.given.now due mid exchange.replies exchange.to.state
    → OpensOrEnds exchange
first_to from exchange With_method due mid begun (d, i, before, m, refused) g = ends_first exchange due mid (ByServer (reason_value BadAuthenticationMethod)) (phase_of mid _ refused.end) g
first_to from exchange With_will due mid begun (d, i, before, m, k, refused) g = ends_first exchange due mid (ByServer (reason_value ImplementationSpecificError)) (phase_of mid _ refused.end) g
first_to from exchange Connect_refused due mid begun (d, i, before, m, k, refused) g = ends_first exchange due mid (ByServer (reason_value QuotaExceeded)) (phase_of mid _ refused.end) g
first_to from exchange Accepted due mid begun (d, i, before, m, k, short, u, e, same) g =
    let (given, n, is, run, whole) = given_calls exchange.given.now due mid (open_for d) exchange.replies g.left g.last exchange.to.state (phase_of mid _ same) g.given g.none_left in
    inl (d, (i, subst IsOpen (sym is) tt))
first_to from exchange Connack_too_long due mid begun (d, i, before, m, k, long, u, e, same) g = ends_first exchange due mid (ByServer (reason_value Success)) (phase_of mid _ same) g
first_to from exchange Other_version due mid begun (i, before, u, e, same) g = ends_first exchange due mid (ByServer (reason_value UnsupportedProtocolVersion)) (phase_of mid _ same) g
first_to from exchange Unexpected due mid begun (i, before, u, e, same) g = ends_first exchange due mid Dropped (phase_of mid _ same) g
first_to from exchange In_session due mid begun (o, left, effect, at, row, e, same) g = shut (phase.Open o) phase.Before (sym at ∙ begun) tt (λ n. n)
first_to from exchange Over due mid begun (closing, at, u, e, same) g = ends_first exchange due mid closing (phase_of mid from.state same ∙ at) g

-- nothing follows the end
none_follow : {A : Type 0} (from : Point State) (exchange : Exchange) (closing : Closing) → from.state.phase ≡ phase.Ended closing → IsExchange from exchange → A
none_follow from exchange closing is t = absurd (none-some closing (sym t.goes_on ∙ ap closing_of is))

first_opens : (assigned : List ℕ) (from : Point State) (exchange : Exchange) → from.state ≡ fresh assigned → IsExchange from exchange → OpensOrEnds exchange
first_opens assigned from exchange begun t = first_to from exchange t.case t.due t.mid (phase_of from.state (fresh assigned) begun) t.row.1 t.all_given

pub run_opens : (assigned : List ℕ) (from to : Point State) (before : List Exchange) (exchange : Exchange) (after : List Exchange) → from.state ≡ fresh assigned → Run from (before ++ exchange ∷ after) to → IsOpen exchange.to.state.phase
    → (c : Connect) × Opens c (before ++ exchange ∷ after)
run_opens assigned from to [] exchange after begun (t, rest) h = by_case (first_opens assigned from exchange begun t)
  where
    by_case : OpensOrEnds exchange → (c : Connect) × Opens c (exchange ∷ after)
    by_case (inl (c, opens)) = (c, opens)
    by_case (inr (closing, is)) = shut exchange.to.state.phase (phase.Ended closing) is h (λ n. n)
run_opens assigned from to (first ∷ []) exchange after begun (t, (next, rest)) h = by_case (first_opens assigned from first begun t)
  where
    by_case : OpensOrEnds first → (c : Connect) × Opens c (first ∷ exchange ∷ after)
    by_case (inl (c, opens)) = (c, opens)
    by_case (inr (closing, is)) = none_follow first.to exchange closing is next
run_opens assigned from to (first ∷ second ∷ before) exchange after begun (t, (next, rest)) h = by_case (first_opens assigned from first begun t)
  where
    by_case : OpensOrEnds first → (c : Connect) × Opens c (first ∷ second ∷ (before ++ exchange ∷ after))
    by_case (inl (c, opens)) = (c, opens)
    by_case (inr (closing, is)) = none_follow first.to second closing is next
