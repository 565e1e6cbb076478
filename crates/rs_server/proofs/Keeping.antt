-- Lemmas on the lists along a run, and on the publications that it acknowledged.
use Rattle.std.proofs.Common.{◌≡◌, ◌≢◌, ℕ, ◌==◌, ◌⊎◌, Bool, true, false, cond, List, [], ◌∷◌, ◌++◌, map, length, Option, Some, None, Ok, refl, sym, ap, subst, ◌∙◌, inl, inr, append_assoc, append-nil, leb, suc, arith}
use Rattle.std.specs.Prelude.{Contains}
use Rattle.std.specs.List.{All, AllByRecursion}
use Rattle.std.specs.List.Sorted.{IsStrictlySortedBy}
use Rattle.std.specs.Ordering.{nat_cmp}
use Rattle.std.specs.declared.cmp.Ordering.TheVariants.{Less}
use Rattle.std.proofs.lemmas.Bool.Decides.{nat_tests}
use Rattle.std.proofs.lemmas.List.Elements.{Contains-append_left}
use Rattle.std.proofs.lemmas.Option.{none-some, same_Some}
use Rattle.rs_packet.specs.declared.packet.Packet.{Packet}
use Rattle.rs_packet.specs.declared.packet.Packet.TheVariants as packet
use Rattle.rs_packet.specs.declared.packet.Publish.{Publish}
use Rattle.rs_message.specs.declared.qos.Qos.{Qos}
use Rattle.rs_message.specs.declared.qos.Qos.TheVariants as qos
use Rattle.rs_packet.specs.declared.reply.Reply.{Reply}
use Rattle.rs_packet.specs.declared.reply.Reply.TheVariants as reply
use Rattle.rs_packet.specs.Replies.{reply_bytes}
use Rattle.rs_packet.specs.Values.{Asked}
use Rattle.rs_message.specs.declared.entry.Entry.{Entry}
use Rattle.rs_message.specs.declared.entry.Operation.{Operation}
use Rattle.rs_store.specs.History.{SerialsRise, serials_of}
use Rattle.rs_store.proofs.Entries.{Among, among, all_among, all_append, all_weaker}
use Rattle.rs_store.proofs.Histories.{below_itself, serials_first}
use Rattle.std.proofs.lemmas.Map.Keys.{sorted_head, sorted_tail}
use Rattle.rs_message.specs.Values.{OriginValue}
use Rattle.rs_window.specs.Calls as window
use Rattle.rs_window.specs.Packets.{reply_of}
use Rattle.rs_window.specs.Values.{OutgoingValue}
use Rattle.rs_session.specs.declared.open.Open.{Open}
use Rattle.rs_session.specs.declared.open.Effect.{Effect}
use Rattle.rs_session.specs.declared.open.Effect.TheVariants.{Replies, Closes, Leaves}
use Rattle.rs_session.specs.declared.phase.Closing.TheVariants.{ByClient, ByServer}
use Rattle.rs_session.specs.declared.phase.Input.{Input}
use Rattle.rs_session.specs.declared.phase.Input.TheVariants.{Whole}
use Rattle.rs_session.specs.declared.phase.Phase.{Phase}
use Rattle.rs_session.specs.declared.phase.Phase.TheVariants as phase
use Rattle.rs_session.specs.Gate.{Mark, Extends, Uses, IsSubmitted}
use Rattle.rs_session.specs.Reasons.{reason_value}
use Rattle.rs_session.specs.declared.reason.ReasonCode.{ReasonCode}
use Rattle.rs_session.specs.declared.reason.ReasonCode.TheVariants.{Success, QuotaExceeded}
use Rattle.rs_session.specs.State.{State}
use Rattle.rs_session.specs.Table.{acknowledged_by, acknowledgement_of, change, due_for, unreleased_id, is_unreleased, state_after, Grants, OpenCase, OpenRow, AnsweredInOpen, AnsweredIn, Case, SessionRow, With_method, With_will, Connect_refused, Accepted, Connack_too_long, Other_version, Unexpected, In_session, Over, Faulty, With_alias, Bad_topic, Sent_again, Too_many_unreleased, Not_retained, Stored, Topic_unread, Not_stored, Uncertain, Gate_closed, Released, Wrong_acknowledgement, Acknowledged, Shared_no_local, Not_subscribed, Subscribed, Not_unsubscribed, Unsubscribed, Connected_twice, Pinged, Disconnected}
use Rattle.rs_session.specs.Points.{Given, Point, with_state}
use Rattle.rs_session.specs.Run.{Exchange, GivesAll, IsExchange, Run}
use Rattle.rs_session.specs.Replay.{listed}
use Rattle.rs_session.specs.Stored.{MarkGrows, lists_of, AreGrowing, point_after, SerialsRiseIn, IsToldStored, StandsOnce, IsStoredIn}
use Rattle.rs_session.proofs.Rows.{prefix_itself, prefix_trans}
use Rattle.rs_server.proofs.Replaying.{given_calls, left_replies, phase_of, shut}

-- ---- lists that grow

-- each is a prefix of the next, from the first to the last
abbrev Chain : List Entry → List (List Entry) → List Entry → Type 0
Chain first [] last = Extends last first
Chain first (list ∷ lists) last = Extends list first × Chain list lists last

chain_append : (first : List Entry) (before : List (List Entry)) (mid : List Entry) (after : List (List Entry)) (last : List Entry) → Chain first before mid → Chain mid after last → Chain first (before ++ mid ∷ after) last
chain_append first [] mid after last h g = (h, g)
chain_append first (list ∷ before) mid after last (h, more) g = (h, chain_append list before mid after last more g)

chain_all : (seen first : List Entry) (lists : List (List Entry)) (last : List Entry) → Extends first seen → Chain first lists last → AllByRecursion (λ later. Extends later seen) (lists ++ last ∷ [])
chain_all seen first [] last h g = (prefix_trans seen first last h g, tt)
chain_all seen first (list ∷ lists) last h (g, more) = let here = prefix_trans seen first list h g in (here, chain_all seen list lists last here more)

chain_grows : (first : List Entry) (lists : List (List Entry)) (last : List Entry) → Chain first lists last → AreGrowing (first ∷ (lists ++ last ∷ []))
chain_grows first [] last h = ((h, tt), (tt, tt))
chain_grows first (list ∷ lists) last (h, more) = (chain_all first first (list ∷ lists) last (prefix_itself first) (h, more), chain_grows list lists last more)

grants_chain : (now : ℕ) (filters : List Asked) (identifier : Option ℕ) (from : Point Open) (codes : List ℕ) (answered : List (List Entry)) (to : Point Open)
    → Grants now filters identifier from codes answered to → Chain from.seen answered to.seen
grants_chain now [] identifier from codes answered to (c, a, seen, same) =
    subst (λ (ls : List (List Entry)). Chain from.seen ls to.seen) (sym a) (subst (λ (l : List Entry). Extends l from.seen) (sym seen) (prefix_itself from.seen))
grants_chain now (asked ∷ more) identifier from codes answered to (code, rest, later, between, c, a, begins, granted, grants) =
    subst (λ (ls : List (List Entry)). Chain from.seen ls to.seen) (sym a) (begins, grants_chain now more identifier between rest later to grants)

-- ---- the lists of an exchange

unanswered : (seen : List Entry) (answered : List (List Entry)) (list : List Entry) → answered ≡ [] → Extends list seen → Chain seen answered list
unanswered seen answered list none grows = subst (λ (ls : List (List Entry)). Chain seen ls list) (sym none) grows

row_chain : (case : OpenCase) (given : Given) (from : Point Open) (answered : List (List Entry)) (effect : Effect) (to : Point Open)
    → AnsweredInOpen case answered → OpenRow case given from answered effect to → Extends to.seen from.seen → Chain from.seen answered to.seen
row_chain Subscribed given from answered effect to a (s, codes, i, n, grants, out, u) g = grants_chain given.now s.filters s.subscription from codes answered to grants
row_chain case given from answered effect to none row g = unanswered from.seen answered to.seen none g

exchange_chain : (case : Case) (given : Given) (from : Point State) (answered : List (List Entry)) (due : Option Reply) (to : Point State)
    → AnsweredIn case answered → SessionRow case given from answered due to → Extends to.seen from.seen → Chain from.seen answered to.seen
exchange_chain In_session given from answered due to a (o, left, effect, is, (case, by_case, row), d, same) g =
    row_chain case given (with_state from o) answered effect (with_state to left) by_case row g
exchange_chain case given from answered due to none row g = unanswered from.seen answered to.seen none g

run_chain : (from to : Point State) (exchanges : List Exchange) → Run from exchanges to → Chain from.seen (lists_of exchanges) to.seen
run_chain from to [] e = ([], ap (λ (p : Point State). p.seen) e ∙ sym (append-nil from.seen))
run_chain from to (exchange ∷ exchanges) (t, rest) =
    let here = exchange_chain t.case exchange.given from exchange.answered t.due (with_state exchange.to t.mid) t.row.0 t.row.1 t.grows in
    chain_append from.seen exchange.answered exchange.to.seen (lists_of exchanges) to.seen here (run_chain exchange.to to exchanges rest)

pub run_lists : (from to : Point State) (exchanges : List Exchange) → Run from exchanges to → AreGrowing (from.seen ∷ (lists_of exchanges ++ to.seen ∷ []))
run_lists from to exchanges run = chain_grows from.seen (lists_of exchanges) to.seen (run_chain from to exchanges run)

-- ---- an origin that stands once

-- what holds of the serials of a place holds of each entry of that place
each_serial : (P : ℕ → Type 0) (place : ℕ) (entries : List Entry) → AllByRecursion P (serials_of place entries) → AllByRecursion (λ (x : Entry). x.origin.place ≡ place → P x.origin.serial) entries
each_serial P place [] all = tt
each_serial P place (x ∷ xs) all = by_case (x.origin.place == place) refl (each_serial P place xs)
  where
    other_place : x.origin.place ≡ place → (x.origin.place == place) ≡ false → ⊥
    other_place same e = grind (arith, nat_tests)

    by_case : (b : Bool) → (x.origin.place == place) ≡ b → (AllByRecursion P (serials_of place xs) → AllByRecursion (λ (y : Entry). y.origin.place ≡ place → P y.origin.serial) xs)
        → AllByRecursion (λ (y : Entry). y.origin.place ≡ place → P y.origin.serial) (x ∷ xs)
    by_case true e rest = let h : AllByRecursion P (x.origin.serial ∷ serials_of place xs) = subst (AllByRecursion P) (serials_first place x xs true e) all in ((λ same. h.0), rest h.1)
    by_case false e rest =
        let h : AllByRecursion P (serials_of place xs) = subst (AllByRecursion P) (serials_first place x xs false e) all in ((λ same. absurd (other_place same e)), rest h)

-- above a serial there is no other entry of that origin
none_above : (e : Entry) (entries : List Entry) → AllByRecursion (λ y. nat_cmp e.origin.serial y ≡ Less) (serials_of e.origin.place entries) → AllByRecursion (λ (x : Entry). x.origin ≢ e.origin) entries
none_above e entries all = all_weaker (λ (x : Entry). x.origin.place ≡ e.origin.place → nat_cmp e.origin.serial x.origin.serial ≡ Less) (λ (x : Entry). x.origin ≢ e.origin) other entries (each_serial (λ y. nat_cmp e.origin.serial y ≡ Less) e.origin.place entries all)
  where
    other : (x : Entry) → (x.origin.place ≡ e.origin.place → nat_cmp e.origin.serial x.origin.serial ≡ Less) → x.origin ≢ e.origin
    other x above same =
        let less : nat_cmp e.origin.serial x.origin.serial ≡ Less = above (ap (λ (o : OriginValue). o.place) same) in
        below_itself e.origin.serial (subst (λ n. nat_cmp e.origin.serial n ≡ Less) (ap (λ (o : OriginValue). o.serial) same) less)

once : (e : Entry) (list : List Entry) → IsStrictlySortedBy nat_cmp (serials_of e.origin.place list) → Among e list → StandsOnce e list
once e [] sorted h = absurd h
once e (x ∷ xs) sorted (inl same) =
    let itself : (e.origin.place == e.origin.place) ≡ true = grind (arith, nat_tests) in
    let here : (x.origin.place == e.origin.place) ≡ true = ap (λ (y : Entry). y.origin.place == e.origin.place) same ∙ itself in
    let rises : IsStrictlySortedBy nat_cmp (x.origin.serial ∷ serials_of e.origin.place xs) = subst (IsStrictlySortedBy nat_cmp) (serials_first e.origin.place x xs true here) sorted in
    let above : AllByRecursion (λ y. nat_cmp x.origin.serial y ≡ Less) (serials_of e.origin.place xs) = sorted_head nat_cmp x.origin.serial (serials_of e.origin.place xs) rises in
    record {
      front = [];
      rest = xs;
      whole = ap (λ (y : Entry). y ∷ xs) same;
      before = tt;
      after = none_above e xs (subst (λ (n : ℕ). AllByRecursion (λ y. nat_cmp n y ≡ Less) (serials_of e.origin.place xs)) (ap (λ (y : Entry). y.origin.serial) same) above);
    }
once e (x ∷ xs) sorted (inr among_rest) = by_case (x.origin.place == e.origin.place) refl (λ rises. once e xs rises among_rest)
  where
    with_first : x.origin ≢ e.origin → StandsOnce e xs → StandsOnce e (x ∷ xs)
    with_first differs s = record { front = x ∷ s.front; rest = s.rest; whole = ap (λ (ys : List Entry). x ∷ ys) s.whole; before = (differs, s.before); after = s.after }

    by_case : (b : Bool) → (x.origin.place == e.origin.place) ≡ b → (IsStrictlySortedBy nat_cmp (serials_of e.origin.place xs) → StandsOnce e xs) → StandsOnce e (x ∷ xs)
    by_case true here later =
        let rises : IsStrictlySortedBy nat_cmp (x.origin.serial ∷ serials_of e.origin.place xs) = subst (IsStrictlySortedBy nat_cmp) (serials_first e.origin.place x xs true here) sorted in
        let above = each_serial (λ y. nat_cmp x.origin.serial y ≡ Less) e.origin.place xs (sorted_head nat_cmp x.origin.serial (serials_of e.origin.place xs) rises) in
        let less : nat_cmp x.origin.serial e.origin.serial ≡ Less = all_among (λ (y : Entry). y.origin.place ≡ e.origin.place → nat_cmp x.origin.serial y.origin.serial ≡ Less) e xs above among_rest refl in
        with_first (λ same. below_itself e.origin.serial (subst (λ n. nat_cmp n e.origin.serial ≡ Less) (ap (λ (o : OriginValue). o.serial) same) less)) (later (sorted_tail nat_cmp x.origin.serial (serials_of e.origin.place xs) rises))
    by_case false here later =
        let rises : IsStrictlySortedBy nat_cmp (serials_of e.origin.place xs) = subst (IsStrictlySortedBy nat_cmp) (serials_first e.origin.place x xs false here) sorted in
        with_first (λ same. let places : x.origin.place ≡ e.origin.place = ap (λ (o : OriginValue). o.place) same in absurd (grind (arith, nat_tests))) (later rises)

-- ---- what a client was told

abbrev IsAck : Reply → Type 0
IsAck (reply.Puback n code) = Unit {0}
IsAck (reply.Pubrec n code) = Unit {0}
IsAck r = ⊥

ack_by : (quality : Qos) (id : Option ℕ) (code : ReasonCode) (answer : Reply) → acknowledged_by quality id code ≡ Some answer → IsAck answer
ack_by qos.AtMostOnce id code answer e = absurd (none-some answer e)
ack_by qos.AtLeastOnce None code answer e = absurd (none-some answer e)
ack_by qos.AtLeastOnce (Some n) code answer e = subst IsAck (same_Some (reply.Puback n (reason_value code)) answer e) tt
ack_by qos.ExactlyOnce None code answer e = absurd (none-some answer e)
ack_by qos.ExactlyOnce (Some n) code answer e = subst IsAck (same_Some (reply.Pubrec n (reason_value code)) answer e) tt

abbrev told_code : Reply → ℕ
told_code (reply.Puback n code) = code
told_code (reply.Pubrec n code) = code
told_code r = 0

code_by : (quality : Qos) (id : Option ℕ) (code : ReasonCode) (answer : Reply) → acknowledged_by quality id code ≡ Some answer → told_code answer ≡ reason_value code
code_by qos.AtMostOnce id code answer e = absurd (none-some answer e)
code_by qos.AtLeastOnce None code answer e = absurd (none-some answer e)
code_by qos.AtLeastOnce (Some n) code answer e = ap told_code (sym (same_Some (reply.Puback n (reason_value code)) answer e))
code_by qos.ExactlyOnce None code answer e = absurd (none-some answer e)
code_by qos.ExactlyOnce (Some n) code answer e = ap told_code (sym (same_Some (reply.Pubrec n (reason_value code)) answer e))

-- not both codes were told
one_code : {A : Type 0} (p : Publish) (answer : Reply) → acknowledged_by p.qos p.id Success ≡ Some answer → acknowledged_by p.qos p.id QuotaExceeded ≡ Some answer → A
one_code p answer zero full = let same : 0 ≡ reason_value QuotaExceeded = sym (code_by p.qos p.id Success answer zero) ∙ code_by p.qos p.id QuotaExceeded answer full in absurd (omega (arith, same))

among_append : (r : Reply) (xs ys : List Reply) → Among r (xs ++ ys) → Among r xs ⊎ Among r ys
among_append r [] ys h = inr h
among_append r (x ∷ xs) ys (inl e) = inl (inl e)
among_append r (x ∷ xs) ys (inr h) = by_case (among_append r xs ys h)
  where
    by_case : Among r xs ⊎ Among r ys → Among r (x ∷ xs) ⊎ Among r ys
    by_case (inl a) = inl (inr a)
    by_case (inr b) = inr b

no_ack_given : (r : Reply) (given : List OutgoingValue) → IsAck r → Among r (map reply_of given) → ⊥
no_ack_given r [] ack h = h
no_ack_given r (p ∷ given) ack (inl e) = subst IsAck (sym e) ack
no_ack_given r (p ∷ given) ack (inr h) = no_ack_given r given ack h

-- a reply that is due is that of the effect
due_is : (maximum : ℕ) (effect : Effect) (r : Reply) → IsAck r → Among r (listed (due_for maximum effect)) → effect ≡ Replies (Some r)
due_is maximum (Replies None) r ack h = absurd h
due_is maximum (Replies (Some first)) r ack h = by_case (leb (length (reply_bytes first)) maximum) h
  where
    by_case : (b : Bool) → Among r (listed (cond b (Some first) None)) → Replies (Some first) ≡ Replies (Some r)
    by_case true (inl e) = ap (λ (x : Reply). let o : Effect = Replies (Some x) in o) e
    by_case true (inr none) = absurd none
    by_case false none = absurd none
due_is maximum (Closes code) r ack h = by_case (leb (length (reply_bytes (reply.Disconnect (reason_value code)))) maximum) h
  where
    by_case : (b : Bool) → Among r (listed (cond b (Some (reply.Disconnect (reason_value code))) None)) → Closes code ≡ Replies (Some r)
    by_case true (inl e) = absurd (subst IsAck (sym e) ack)
    by_case true (inr none) = absurd none
    by_case false none = absurd none
due_is maximum Leaves r ack h = absurd h

replied_by : (exchange : Exchange) (maximum : ℕ) (effect : Effect) (left : Open) (old mid : State) (due : Option Reply) (r : Reply) → due ≡ due_for maximum effect → mid ≡ state_after effect old left
    → GivesAll exchange.given.now due mid exchange.replies exchange.to.state → IsAck r → Among r exchange.replies → effect ≡ Replies (Some r)
replied_by exchange maximum (Replies answer) left old mid due r d same g ack h =
    let (given, n, is, run, whole) = given_calls exchange.given.now due mid left exchange.replies g.left g.last exchange.to.state (phase_of mid _ same) g.given g.none_left in
    by_case given (among_append r (listed due) (map reply_of given) (subst (λ (rs : List Reply). Among r rs) whole h))
  where
    by_case : (given : List OutgoingValue) → Among r (listed due) ⊎ Among r (map reply_of given) → Replies answer ≡ Replies (Some r)
    by_case given (inl a) = due_is maximum (Replies answer) r ack (subst (λ (o : Option Reply). Among r (listed o)) d a)
    by_case given (inr b) = absurd (no_ack_given r given ack b)
replied_by exchange maximum (Closes code) left old mid due r d same g ack h =
    let whole = (left_replies exchange.given.now due mid (ByServer (reason_value code)) exchange.replies g.left g.last exchange.to.state (phase_of mid _ same) g.given g.none_left).1 in
    due_is maximum (Closes code) r ack (subst (λ (o : Option Reply). Among r (listed o)) d (subst (λ (rs : List Reply). Among r rs) whole h))
replied_by exchange maximum Leaves left old mid due r d same g ack h =
    let whole = (left_replies exchange.given.now due mid ByClient exchange.replies g.left g.last exchange.to.state (phase_of mid _ same) g.given g.none_left).1 in
    due_is maximum Leaves r ack (subst (λ (o : Option Reply). Among r (listed o)) d (subst (λ (rs : List Reply). Among r rs) whole h))

-- ---- the row that keeps it

abbrev publish_in : Input → Option Publish
publish_in (Whole (packet.Publish p)) = Some p
publish_in input = None

no_publish : {A : Type 0} (input as_read : Input) (p : Publish) → input ≡ as_read → publish_in as_read ≡ None → input ≡ Whole (packet.Publish p) → A
no_publish input as_read p i none is = absurd (none-some p (sym none ∙ ap publish_in (sym i ∙ is)))

same_publish : (input : Input) (p q : Publish) → input ≡ Whole (packet.Publish q) → input ≡ Whole (packet.Publish p) → q ≡ p
same_publish input p q i is = same_Some q p (ap publish_in (sym i ∙ is))

abbrev answer_in : Effect → Option (Option Reply)
answer_in (Replies answer) = Some answer
answer_in (Closes code) = None
answer_in Leaves = None

no_answer : {A : Type 0} (effect as_led : Effect) (answer : Reply) → effect ≡ as_led → answer_in as_led ≡ None → effect ≡ Replies (Some answer) → A
no_answer effect as_led answer out none is = absurd (none-some (Some answer) (sym none ∙ ap answer_in (sym out ∙ is)))

same_answer : (effect : Effect) (a : Option Reply) (answer : Reply) → effect ≡ Replies a → effect ≡ Replies (Some answer) → a ≡ Some answer
same_answer effect a answer out is = same_Some a (Some answer) (ap answer_in (sym out ∙ is))

true_false : {A : Type 0} (b : Bool) → b ≡ true → b ≡ false → A
true_false b t f = absurd (subst IsIt (sym t ∙ f) tt)
  where
    IsIt : Bool → Type 0
    IsIt true = Unit {0}
    IsIt false = ⊥

acknowledges_no_publish : (p : Packet) (a : window.Acknowledgement × ℕ) → acknowledgement_of p ≡ Some a → publish_in (Whole p) ≡ None
acknowledges_no_publish (packet.Publish p) a is = absurd (none-some a is)
acknowledges_no_publish p a is = refl

-- the row of a publication that is stored
abbrev pub IsStored : OpenCase → Type 0
IsStored Stored = Unit {0}
IsStored case = ⊥

abbrev IsEntered : Publish → ℕ → Mark → Mark → List Entry → Type 0
IsEntered p now mark used list = (topic : List ℕ) × (operation : Operation) × (p.topic ≡ Ok topic) × (change p topic now ≡ Some operation) × IsSubmitted operation mark used list

row_stored : (case : OpenCase) (given : Given) (from : Point Open) (answered : List (List Entry)) (effect : Effect) (to : Point Open) (p : Publish) (answer : Reply)
    → OpenRow case given from answered effect to → given.input ≡ Whole (packet.Publish p) → p.retain ≡ true → is_unreleased (unreleased_id p.qos p.id) from.state.inbound ≡ false
    → acknowledged_by p.qos p.id Success ≡ Some answer → effect ≡ Replies (Some answer) → IsStored case × IsEntered p given.now from.mark to.mark to.seen
row_stored Connected_twice given from answered effect to p answer (c, i, out, unchanged) is r f a o = no_publish given.input _ p i refl is
row_stored Faulty given from answered effect to p answer (k, i, out, unchanged) is r f a o = no_publish given.input _ p i refl is
row_stored With_alias given from answered effect to p answer (q, i, al, out, unchanged) is r f a o = no_answer effect _ answer out refl o
row_stored Bad_topic given from answered effect to p answer (q, k, i, al, t, other, out, unchanged) is r f a o = no_answer effect _ answer out refl o
row_stored Sent_again given from answered effect to p answer (q, i, al, t, unreleased, out, unchanged) is r f a o =
    let same : q ≡ p = same_publish given.input p q i is in
    true_false (is_unreleased (unreleased_id q.qos q.id) from.state.inbound) unreleased (ap (λ (x : Publish). is_unreleased (unreleased_id x.qos x.id) from.state.inbound) same ∙ f)
row_stored Too_many_unreleased given from answered effect to p answer (q, i, al, t, many, out, unchanged) is r f a o = no_answer effect _ answer out refl o
row_stored Not_retained given from answered effect to p answer (q, topic, i, taken, t, not_retained, out, u, same) is r f a o =
    true_false p.retain r (sym (ap (λ (x : Publish). x.retain) (same_publish given.input p q i is)) ∙ not_retained)
row_stored Stored given from answered effect to p answer (q, topic, operation, i, s, submitted, out, same) is r f a o =
    let same_p : q ≡ p = same_publish given.input p q i is in
    (tt, subst (λ (x : Publish). IsEntered x given.now from.mark to.mark to.seen) same_p (topic, operation, s.is_topic, s.changes, submitted))
row_stored Topic_unread given from answered effect to p answer (q, i, taken, t, out, unchanged) is r f a o =
    one_code p answer a (sym (ap (λ (x : Publish). acknowledged_by x.qos x.id QuotaExceeded) (same_publish given.input p q i is)) ∙ same_answer effect _ answer out o)
row_stored Not_stored given from answered effect to p answer (q, topic, operation, i, s, out, same) is r f a o =
    one_code p answer a (sym (ap (λ (x : Publish). acknowledged_by x.qos x.id QuotaExceeded) (same_publish given.input p q i is)) ∙ same_answer effect _ answer out o)
row_stored Uncertain given from answered effect to p answer (q, topic, operation, i, s, out, same) is r f a o = no_answer effect _ answer out refl o
row_stored Gate_closed given from answered effect to p answer (q, topic, operation, i, s, out, same) is r f a o = no_answer effect _ answer out refl o
row_stored Released given from answered effect to p answer (k, i, out, u, same) is r f a o = no_publish given.input _ p i refl is
row_stored Wrong_acknowledgement given from answered effect to p answer (q, ack, id, i, at, wrong, out, unchanged) is r f a o = no_answer effect _ answer out refl o
row_stored Acknowledged given from answered effect to p answer (q, ack, id, k, i, at, step, out, u, same) is r f a o = no_publish given.input (Whole q) p i (acknowledges_no_publish q (ack, id) at) is
row_stored Shared_no_local given from answered effect to p answer (s, i, n, out, unchanged) is r f a o = no_publish given.input _ p i refl is
row_stored Not_subscribed given from answered effect to p answer (s, i, n, out, unchanged) is r f a o = no_publish given.input _ p i refl is
row_stored Subscribed given from answered effect to p answer (s, codes, i, n, grants, out, u) is r f a o = no_publish given.input _ p i refl is
row_stored Not_unsubscribed given from answered effect to p answer (u, i, out, unchanged) is r f a o = no_publish given.input _ p i refl is
row_stored Unsubscribed given from answered effect to p answer (u, i, out, m, same) is r f a o = no_publish given.input _ p i refl is
row_stored Pinged given from answered effect to p answer (i, out, unchanged) is r f a o = no_publish given.input _ p i refl is
row_stored Disconnected given from answered effect to p answer (code, i, out, unchanged) is r f a o = no_publish given.input _ p i refl is

abbrev open_or : Open → Phase → Open
open_or other phase.Before = other
open_or other (phase.Open o) = o
open_or other (phase.Ended closing) = other

-- the row of a publication that the client was told is stored
pub told_row : (from : Point State) (exchange : Exchange) (o : Open) (p : Publish) (answer : Reply) (at left : Open) (effect : Effect) (due : Option Reply) (mid : State) (case : OpenCase)
    → from.state.phase ≡ phase.Open o → IsToldStored o exchange p answer → from.state.phase ≡ phase.Open at
    → OpenRow case exchange.given (with_state from at) exchange.answered effect (with_state exchange.to left) → due ≡ due_for at.window.packet_maximum effect → mid ≡ state_after effect from.state left
    → GivesAll exchange.given.now due mid exchange.replies exchange.to.state → IsStored case × IsEntered p exchange.given.now from.mark exchange.to.mark exchange.to.seen
told_row from exchange o p answer at left effect due mid case is told here row d same g =
    let same_open : o ≡ at = ap (open_or o) (sym is ∙ here) in
    let new : is_unreleased (unreleased_id p.qos p.id) at.inbound ≡ false = subst (λ (x : Open). is_unreleased (unreleased_id p.qos p.id) x.inbound ≡ false) same_open told.new in
    let out : effect ≡ Replies (Some answer) =
    replied_by exchange at.window.packet_maximum effect left from.state mid due answer d same g (ack_by p.qos p.id Success answer told.code) (among answer exchange.replies told.replied) in
    row_stored case exchange.given (with_state from at) exchange.answered effect (with_state exchange.to left) p answer row told.input told.retained new told.code out

exchange_stored : (from : Point State) (exchange : Exchange) (o : Open) (p : Publish) (answer : Reply) (case : Case) (due : Option Reply) (mid : State) → from.state.phase ≡ phase.Open o → IsToldStored o exchange p answer
    → SessionRow case exchange.given from exchange.answered due (with_state exchange.to mid) → GivesAll exchange.given.now due mid exchange.replies exchange.to.state
    → IsEntered p exchange.given.now from.mark exchange.to.mark exchange.to.seen
exchange_stored from exchange o p answer With_method due mid is told (c, i, before, m, refused) g = shut (phase.Open o) phase.Before (sym is ∙ before) tt (λ n. n)
exchange_stored from exchange o p answer With_will due mid is told (c, i, before, m, k, refused) g = shut (phase.Open o) phase.Before (sym is ∙ before) tt (λ n. n)
exchange_stored from exchange o p answer Connect_refused due mid is told (c, i, before, m, k, refused) g = shut (phase.Open o) phase.Before (sym is ∙ before) tt (λ n. n)
exchange_stored from exchange o p answer Accepted due mid is told (c, i, before, m, k, short, u, d, same) g = shut (phase.Open o) phase.Before (sym is ∙ before) tt (λ n. n)
exchange_stored from exchange o p answer Connack_too_long due mid is told (c, i, before, m, k, long, u, d, same) g = shut (phase.Open o) phase.Before (sym is ∙ before) tt (λ n. n)
exchange_stored from exchange o p answer Other_version due mid is told (i, before, u, d, same) g = shut (phase.Open o) phase.Before (sym is ∙ before) tt (λ n. n)
exchange_stored from exchange o p answer Unexpected due mid is told (i, before, u, d, same) g = shut (phase.Open o) phase.Before (sym is ∙ before) tt (λ n. n)
exchange_stored from exchange o p answer In_session due mid is told (at, left, effect, here, (case, none, row), d, same) g =
    (told_row from exchange o p answer at left effect due mid case is told here row d same g).1
exchange_stored from exchange o p answer Over due mid is told (closing, ended, u, d, same) g = shut (phase.Open o) (phase.Ended closing) (sym is ∙ ended) tt (λ n. n)

-- ---- the lists of a gate

all_each : {A : Type 0} (P : A → Type 0) (xs : List A) → All P xs → AllByRecursion P xs
all_each P [] all = tt
all_each P (x ∷ xs) all = (all 0 x (omega arith), all_each P xs (λ k d h. all (suc k) d (omega (arith, h))))

lists_rise : (from to : Point State) (exchanges : List Exchange) → Run from exchanges to
    → SerialsRiseIn exchanges → SerialsRise from.seen → AllByRecursion SerialsRise (lists_of exchanges ++ to.seen ∷ [])
lists_rise from to [] e of_gate rises = (subst (λ (p : Point State). SerialsRise p.seen) (sym e) rises, tt)
lists_rise from to (exchange ∷ exchanges) (t, rest) (here, later) rises =
    let after : SerialsRise exchange.to.seen = here.seen in
    let more = lists_rise exchange.to to exchanges rest later after in
    subst (AllByRecursion SerialsRise) (sym (append_assoc exchange.answered (exchange.to.seen ∷ lists_of exchanges) (to.seen ∷ [])))
    (all_append SerialsRise exchange.answered (exchange.to.seen ∷ (lists_of exchanges ++ to.seen ∷ [])) (all_each SerialsRise exchange.answered here.answered) (after, more))

all_once : (e : Entry) (seen : List Entry) (lists : List (List Entry)) → Contains seen e → AllByRecursion (λ later. Extends later seen) lists → AllByRecursion SerialsRise lists → AllByRecursion (StandsOnce e) lists
all_once e seen [] there begin rise = tt
all_once e seen (list ∷ lists) there ((more, whole), begin) (rises, rise) =
    let here : Contains list e = subst (λ (l : List Entry). Contains l e) (sym whole) (Contains-append_left seen more e there) in
    (once e list (rises e.origin.place) (among e list here), all_once e seen lists there begin rise)

run_cut : (from to : Point State) (before : List Exchange) (exchange : Exchange) (after : List Exchange) → Run from (before ++ exchange ∷ after) to → IsExchange (point_after from before) exchange × Run exchange.to after to
run_cut from to [] exchange after run = run
run_cut from to (first ∷ before) exchange after (t, rest) = run_cut first.to to before exchange after rest

rising_cut : (before : List Exchange) (exchange : Exchange) (after : List Exchange) → SerialsRiseIn (before ++ exchange ∷ after) → SerialsRiseIn (exchange ∷ after)
rising_cut [] exchange after h = h
rising_cut (first ∷ before) exchange after (t, rest) = rising_cut before exchange after rest

pub run_keeps : (from to : Point State) (before : List Exchange) (exchange : Exchange) (after : List Exchange) (o : Open) (p : Publish) (answer : Reply)
    → Run from (before ++ exchange ∷ after) to → SerialsRiseIn (before ++ exchange ∷ after) → (point_after from before).state.phase ≡ phase.Open o → IsToldStored o exchange p answer
    → IsStoredIn (point_after from before).mark exchange p (exchange.to.seen ∷ (lists_of after ++ to.seen ∷ []))
run_keeps from to before exchange after o p answer run rising is told =
    let (t, rest) = run_cut from to before exchange after run in
    let (here, later) = rising_cut before exchange after rising in
    let rises : SerialsRise exchange.to.seen = here.seen in
    let (topic, operation, is_topic, changes, submitted) = exchange_stored (point_after from before) exchange o p answer t.case t.due t.mid is told t.row.1 t.all_given in
    let begin = chain_all exchange.to.seen exchange.to.seen (lists_of after) to.seen (prefix_itself exchange.to.seen) (run_chain exchange.to to after rest) in
    let rise = lists_rise exchange.to to after rest later rises in
    record {
      topic = topic;
      operation = operation;
      is_topic = is_topic;
      changes = changes;
      used = submitted.serial;
      stored = all_once _ exchange.to.seen (exchange.to.seen ∷ (lists_of after ++ to.seen ∷ [])) submitted.entry (prefix_itself exchange.to.seen, begin) (rises, rise);
    }

-- ---- the marks

grows_itself : (mark used : Mark) → used ≡ mark → MarkGrows mark used
grows_itself mark used e = record { place = ap (λ (m : Mark). m.place) e; serial = omega (arith, ap (λ (m : Mark). m.serial) e) }

uses_grows : (mark used : Mark) → Uses mark used → MarkGrows mark used
uses_grows mark used u = record { place = u.place; serial = u.no_lower }

row_marks : (case : OpenCase) (given : Given) (from : Point Open) (answered : List (List Entry)) (effect : Effect) (to : Point Open)
    → OpenRow case given from answered effect to → MarkGrows from.mark to.mark
row_marks Connected_twice given from answered effect to (c, i, out, unchanged) = grows_itself from.mark to.mark unchanged.none_used
row_marks Faulty given from answered effect to (f, i, out, unchanged) = grows_itself from.mark to.mark unchanged.none_used
row_marks With_alias given from answered effect to (p, i, a, out, unchanged) = grows_itself from.mark to.mark unchanged.none_used
row_marks Bad_topic given from answered effect to (p, f, i, a, t, other, out, unchanged) = grows_itself from.mark to.mark unchanged.none_used
row_marks Sent_again given from answered effect to (p, i, a, t, unreleased, out, unchanged) = grows_itself from.mark to.mark unchanged.none_used
row_marks Too_many_unreleased given from answered effect to (p, i, a, t, many, out, unchanged) = grows_itself from.mark to.mark unchanged.none_used
row_marks Not_retained given from answered effect to (p, topic, i, taken, t, r, out, u, same) = grows_itself from.mark to.mark u
row_marks Stored given from answered effect to (p, topic, operation, i, s, submitted, out, same) = uses_grows from.mark to.mark s.one_used
row_marks Topic_unread given from answered effect to (p, i, taken, t, out, unchanged) = grows_itself from.mark to.mark unchanged.none_used
row_marks Not_stored given from answered effect to (p, topic, operation, i, s, out, same) = uses_grows from.mark to.mark s.one_used
row_marks Uncertain given from answered effect to (p, topic, operation, i, s, out, same) = uses_grows from.mark to.mark s.one_used
row_marks Gate_closed given from answered effect to (p, topic, operation, i, s, out, same) = uses_grows from.mark to.mark s.one_used
row_marks Released given from answered effect to (a, i, out, u, same) = grows_itself from.mark to.mark u
row_marks Wrong_acknowledgement given from answered effect to (p, ack, id, i, is, wrong, out, unchanged) = grows_itself from.mark to.mark unchanged.none_used
row_marks Acknowledged given from answered effect to (p, ack, id, answer, i, is, step, out, u, same) = grows_itself from.mark to.mark u
row_marks Shared_no_local given from answered effect to (s, i, n, out, unchanged) = grows_itself from.mark to.mark unchanged.none_used
row_marks Not_subscribed given from answered effect to (s, i, n, out, unchanged) = grows_itself from.mark to.mark unchanged.none_used
row_marks Subscribed given from answered effect to (s, codes, i, n, grants, out, u) = grows_itself from.mark to.mark u
row_marks Not_unsubscribed given from answered effect to (u, i, out, unchanged) = grows_itself from.mark to.mark unchanged.none_used
row_marks Unsubscribed given from answered effect to (u, i, out, m, same) = grows_itself from.mark to.mark m
row_marks Pinged given from answered effect to (i, out, unchanged) = grows_itself from.mark to.mark unchanged.none_used
row_marks Disconnected given from answered effect to (code, i, out, unchanged) = grows_itself from.mark to.mark unchanged.none_used

exchange_marks : (case : Case) (given : Given) (from : Point State) (answered : List (List Entry)) (due : Option Reply) (to : Point State)
    → SessionRow case given from answered due to → MarkGrows from.mark to.mark
exchange_marks With_method given from answered due to (c, i, before, m, refused) = grows_itself from.mark to.mark refused.none_used
exchange_marks With_will given from answered due to (c, i, before, m, w, refused) = grows_itself from.mark to.mark refused.none_used
exchange_marks Connect_refused given from answered due to (c, i, before, m, w, refused) = grows_itself from.mark to.mark refused.none_used
exchange_marks Accepted given from answered due to (c, i, before, m, w, short, u, d, same) = grows_itself from.mark to.mark u
exchange_marks Connack_too_long given from answered due to (c, i, before, m, w, long, u, d, same) = grows_itself from.mark to.mark u
exchange_marks Other_version given from answered due to (i, before, u, d, same) = grows_itself from.mark to.mark u
exchange_marks Unexpected given from answered due to (i, before, u, d, same) = grows_itself from.mark to.mark u
exchange_marks In_session given from answered due to (o, left, effect, is, (case, none, row), d, same) = row_marks case given (with_state from o) answered effect (with_state to left) row
exchange_marks Over given from answered due to (closing, is, u, d, same) = grows_itself from.mark to.mark u

pub run_marks : (from to : Point State) (exchanges : List Exchange) → Run from exchanges to → MarkGrows from.mark to.mark
run_marks from to [] e = grows_itself from.mark to.mark (ap (λ (p : Point State). p.mark) e)
run_marks from to (exchange ∷ exchanges) (t, rest) =
    let here = exchange_marks t.case exchange.given from exchange.answered t.due (with_state exchange.to t.mid) t.row.1 in
    let later = run_marks exchange.to to exchanges rest in
    record { place = later.place ∙ here.place; serial = omega (arith, here.serial, later.serial) }
