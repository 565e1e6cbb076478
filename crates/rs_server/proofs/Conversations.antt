-- Lemmas on conversations.
use Rattle.std.proofs.Common.{◌≡◌, ℕ, suc, List, [], ◌∷◌, ◌++◌, take, drop, refl, sym, subst, ap, ◌∙◌, append-nil, append_assoc, take-append-drop, inl, inr, ◌⊎◌, Option, Some, None, Result, Ok, Err, arith}
use Rattle.std.proofs.lemmas.List.{map-append, flat_map_more}
use Rattle.std.proofs.KnownBytes.{Consumes-trans, Appends-trans, Appends-nil, Consumes-nil}
use Rattle.std.specs.Io.KnownBytes.{Appends, Consumes, IsAtEnd}
use Rattle.rs_packet.proofs.Prefixes.{fault_stays}
use Rattle.rs_packet.specs.Prefixes.{IsMore}
use Rattle.rs_packet.specs.declared.reply.Reply.{Reply}
use Rattle.rs_message.specs.declared.entry.Entry.{Entry}
use Rattle.rs_message.specs.declared.entry.Operation.{Operation}
use Rattle.rs_session.specs.declared.phase.Input.{Input}
use Rattle.rs_session.specs.declared.phase.Input.TheVariants.{Whole, Broken}
use Rattle.rs_session.specs.Gate.{Mark, GrowsAnswering}
use Rattle.rs_session.specs.declared.phase.Closing.{Closing}
use Rattle.rs_session.specs.declared.phase.Closing.TheVariants as closing
use Rattle.rs_session.specs.declared.phase.Phase.{Phase}
use Rattle.rs_session.specs.declared.phase.Phase.TheVariants as phase
use Rattle.rs_session.specs.declared.phase.Step.TheVariants.{End}
use Rattle.rs_session.specs.Pending.{AreChanges, LeavesPending}
use Rattle.rs_session.specs.Stored.{point_after}
use Rattle.rs_session.specs.State.{State, fresh, closing_of, step_of}
use Rattle.rs_session.specs.Table.{Answers}
use Rattle.rs_session.specs.Points.{Given, Point, point_at}
use Rattle.rs_session.specs.Run.{Exchange, Run, GivesAll}
use Rattle.rs_session.proofs.Runs.{run_more, of_gate_more}
use Rattle.rs_server.specs.declared.connection.Served.{Served}
use Rattle.rs_server.specs.declared.connection.Served.TheVariants.{ClientClosed, EndOfInput, CutInput, ServerClosed, Dropped}
use Rattle.rs_server.specs.declared.writing.ServeFault.{ServeFault}
use Rattle.rs_server.specs.declared.writing.ServeFault.TheVariants.{Read, Write, NoMemory}
use Rattle.rs_server.specs.Clock.{TellsAll, TellsInOrder}
use Rattle.rs_server.specs.Writing.{Writes, AppendsFront, IsWriteCause, all_reply_bytes}
use Rattle.rs_server.specs.Conversation.{InputsOf, AreLeft, Plans, inputs_of, moments_of, replies_of, planned_inputs, planned_moments, start, served_as, AppendsReplies, AppendsIntoLast, WritesReplies, GateView, Traffic, Transfer, Talks, MakesExchange, TakesInput, IsReadCause, IsConnection, IsEnd, Ends, BreaksAt, ClosesAs, gate_view}

-- ---- the clock

tells_from : (f g h : ℕ → ℕ) (ns : List ℕ) → ((k : ℕ) → g k ≡ f k) → TellsAll g ns h → TellsAll f ns h
tells_from f g h [] p q = λ k. q k ∙ p k
tells_from f g h (n ∷ ns) p q = (q.0 ∙ p 0, tells_from (λ k. f (suc k)) (λ k. g (suc k)) h ns (λ k. p (suc k)) q.1)

tells_join : (f g h : ℕ → ℕ) (ms ns : List ℕ) → TellsAll f ms g → TellsAll g ns h → TellsAll f (ms ++ ns) h
tells_join f g h [] ns p q = tells_from f g h ns p q
tells_join f g h (m ∷ ms) ns p q = (p.0, tells_join (λ k. f (suc k)) g h ms ns p.1 q)

pub in_order_join : (a b c : Option (ℕ → ℕ)) (ms ns : List ℕ) → TellsInOrder a b ms → TellsInOrder b c ns → TellsInOrder a c (ms ++ ns)
in_order_join None b c ms ns p q = tt
in_order_join (Some f) None c ms ns p q = absurd p
in_order_join (Some f) (Some g) None ms ns p q = absurd q
in_order_join (Some f) (Some g) (Some h) ms ns p q = tells_join f g h ms ns p q

pub in_order_none : (a : Option (ℕ → ℕ)) → TellsInOrder a a []
in_order_none None = tt
in_order_none (Some f) = λ k. refl

-- ---- the bytes

-- more bytes come behind what is buffered
pub inputs_with_more : (inputs : List Input) (bytes buffered more : List ℕ) → InputsOf inputs bytes buffered → InputsOf inputs (bytes ++ more) (buffered ++ more)
inputs_with_more [] bytes buffered more h = ap (λ l. l ++ more) h
inputs_with_more (Whole p ∷ inputs) bytes buffered more (text, rest, e, s, h) =
    (text, rest ++ more, ap (λ l. l ++ more) e ∙ append_assoc text rest more, s, inputs_with_more inputs rest buffered more h)
inputs_with_more (Broken f ∷ inputs) bytes buffered more (a, h) = (fault_stays f bytes more a, inputs_with_more inputs bytes buffered more h)

-- inputs behind inputs
pub inputs_join : (inputs others : List Input) (bytes buffered left : List ℕ) → InputsOf inputs bytes buffered → InputsOf others buffered left → InputsOf (inputs ++ others) bytes left
inputs_join [] others bytes buffered left e h = subst (λ (l : List ℕ). InputsOf others l left) (sym e) h
inputs_join (Whole p ∷ inputs) others bytes buffered left (text, rest, e, s, h) k = (text, rest, e, s, inputs_join inputs others rest buffered left h k)
inputs_join (Broken f ∷ inputs) others bytes buffered left (a, h) k = (a, inputs_join inputs others bytes buffered left h k)

-- the first input of what is buffered
pub front_inputs : (input : Input) (old new : List ℕ) → TakesInput old (Some input) new → InputsOf (input ∷ []) old new
front_inputs (Whole p) old new (n, a, s, e) = (take n old, drop n old, sym (take-append-drop n old), s, sym e)
front_inputs (Broken f) old new (a, e) = (a, sym e)

-- the first of these inputs, and the others behind it
first_input : (input : Input) (inputs : List Input) (buffered left : List ℕ) → InputsOf (input ∷ inputs) buffered left → (next : List ℕ) × InputsOf (input ∷ []) buffered next × InputsOf inputs next left
first_input (Whole p) inputs buffered left (text, rest, e, s, h) = (rest, (text, rest, e, s, refl), h)
first_input (Broken f) inputs buffered left (a, h) = (buffered, (a, refl), h)

-- ---- the conversation

-- if a row was taken and its replies were written, there was an exchange
pub makes_exchange : {G : Type 0} (stands : G → List Entry → Type 0) (mark : G → Mark) (pending : G → List Operation) (old mid new : G) (from : State) (given : Given) (due : Option Reply) (between to : State) (written : List ℕ → Type 0)
    → GrowsAnswering stands mark old mid (λ seen answered list. Answers given (point_at from seen (mark old)) answered due (point_at between list (mark mid)))
    → closing_of from.phase ≡ None
    → new ≡ mid
    → (replies : List Reply) × GivesAll given.now due between replies to × written (all_reply_bytes replies)
    → (seen : List Entry) → stands old seen → MakesExchange (point_at from seen (mark old)) given (gate_view stands mark pending new) to written
makes_exchange {G} stands mark pending old mid new from given due between to written grows ongoing same (replies, all_given, all) = λ seen s.
    let (list, stood, begins, (answered, each, (case, row))) = grows seen s in
    let made : MakesExchange (point_at from seen (mark old)) given (gate_view stands mark pending mid) to written =
    record {
      exchange = record { given = given; answered = answered; replies = replies; to = point_at to list (mark mid) };
      seen = list;
      is_exchange = record { goes_on = ongoing; case = case; due = due; mid = between; grows = begins; row = row; all_given = all_given };
      of_gate = record { answered = each; seen = (mid, stood, refl) };
      given_is = refl;
      to_is = refl;
      stood_for = stood;
      replies = all;
    } in
    subst (λ (g : G). MakesExchange (point_at from seen (mark old)) given (gate_view stands mark pending g) to written) (sym same) made

-- one exchange's replies are written behind those of all exchanges before
all_written : (a b c : Option (List ℕ)) (exchanges : List Exchange) (exchange : Exchange) → AppendsReplies a b exchanges → Appends b c (all_reply_bytes exchange.replies) → AppendsReplies a c (exchanges ++ exchange ∷ [])
all_written a b c exchanges exchange p q = subst (Appends a c) (flat_map_more (λ (x : Exchange). all_reply_bytes x.replies) [] exchanges exchange) (Appends-trans a b c _ _ p q)

front_written : (a b c : Option (List ℕ)) (exchanges : List Exchange) (exchange : Exchange) → AppendsReplies a b exchanges → AppendsFront b c (all_reply_bytes exchange.replies) → AppendsIntoLast a c (exchanges ++ exchange ∷ [])
front_written a b c exchanges exchange p (front, back, e, q) = (exchanges, exchange ∷ [], refl, omega arith, front, back, append-nil _ ∙ e, Appends-trans a b c _ front p q)

writes_exchange : {T : Type 0} (r : Result T ServeFault) (a b c : Option (List ℕ)) (exchanges : List Exchange) (exchange : Exchange) → AppendsReplies a b exchanges → Writes r b c (all_reply_bytes exchange.replies) → WritesReplies r a c (exchanges ++ exchange ∷ [])
writes_exchange (Ok x) a b c exchanges exchange p q = all_written a b c exchanges exchange p q
writes_exchange (Err Read) a b c exchanges exchange p q = all_written a b c exchanges exchange p q
writes_exchange (Err Write) a b c exchanges exchange p q = front_written a b c exchanges exchange p q
writes_exchange (Err NoMemory) a b c exchanges exchange p q = front_written a b c exchanges exchange p q

-- what was planned and expected is left, but for the exchange's input, or that is the first of it too
expected_after : (given : Given) (planned : List Given) (old new : List Operation) (Unused : Type 0) → AreChanges (given ∷ planned) old → LeavesPending given old new Unused → AreChanges planned new ⊎ ((new ≡ old) × Unused)
expected_after given planned [] new Unused h e = inl (subst (AreChanges planned) (sym e) tt)
expected_after given planned (operation ∷ operations) new Unused h l =
    elim (l h.0) as (λ l. AreChanges planned new ⊎ ((new ≡ operation ∷ operations) × Unused)) [
      | inl e ↦ inl (subst (AreChanges planned) (sym e) h.1)
      | inr l ↦ elim l as (λ l. AreChanges planned new ⊎ ((new ≡ operation ∷ operations) × Unused)) [
        | inl e ↦ inl (subst (AreChanges planned) (sym e) tt)
        | inr k ↦ inr k
      ]
    ]

-- if the session goes on, what is planned is left
pub expected_on : (given : Given) (planned : List Given) (old new : List Operation) (same : Type 0) (p : Phase) → closing_of p ≡ None → AreChanges (given ∷ planned) old → LeavesPending given old new (same × (step_of p ≡ End)) → AreChanges planned new
expected_on given planned old new same p on h l =
    elim (expected_after given planned old new (same × (step_of p ≡ End)) h l) as (λ x. AreChanges planned new) [
      | inl k ↦ k
      | inr k ↦ absurd (has_ended p on k.1.1)
    ]
  where
    has_ended : (p : Phase) → closing_of p ≡ None → step_of p ≡ End → ⊥
    has_ended phase.Before on end = absurd (cc)
    has_ended (phase.Open o) on end = absurd (cc)
    has_ended (phase.Ended closing) on end = absurd (cc)

run_point : (from to : Point State) (exchanges : List Exchange) → Run from exchanges to → point_after from exchanges ≡ to
run_point from to [] e = sym e
run_point from to (exchange ∷ exchanges) h = run_point exchange.to to exchanges h.1

abbrev pub traffic : (List ℕ → Type 0) → (List ℕ → Type 0) → (List Exchange → Type 0) → Traffic
traffic consumed told written = record { consumed = consumed; told = told; written = written }

-- a conversation goes on by the first of what is planned
pub talks_exchange : {T G : Type 0} (stands : G → List Entry → Type 0) (mark : G → Mark) (pending : G → List Operation) (old new : G) (from : Point State) (first : List Operation) (st1 st2 : State) (consumed told : List ℕ → Type 0) (planned : List Given) (left : List ℕ) (r : Result T ServeFault) (wrote w1 w2 : Option (List ℕ)) (given : Given)
    → ((seen : List Entry) → stands old seen → MakesExchange (point_at st1 seen (mark old)) given (gate_view stands mark pending new) st2 (Writes r w1 w2))
    → (first ≡ [] → AreChanges (given ∷ planned) (pending old))
    → LeavesPending given (pending old) (pending new) ((mark new ≡ mark old) × (step_of st2.phase ≡ End))
    → Talks from first (gate_view stands mark pending old) st1 (traffic consumed told (AppendsReplies wrote w1)) (given ∷ planned) left
    → Talks from first (gate_view stands mark pending new) st2 (traffic consumed told (WritesReplies r wrote w2)) planned left
talks_exchange {T} {G} stands mark pending old new from first st1 st2 consumed told planned left r wrote w1 w2 given exchange changes leaves talk =
    let before = talk.conversation in
    let t = exchange before.seen before.stood_for in
    let (next, one, rest) = first_input given.input (planned_inputs planned) talk.buffered left talk.whole in
    let is : inputs_of (before.exchanges ++ t.exchange ∷ []) ≡ inputs_of before.exchanges ++ given.input ∷ [] = map-append (λ (x : Exchange). x.given.input) before.exchanges (t.exchange ∷ []) ∙ ap (λ (x : Given). inputs_of before.exchanges ++ x.input ∷ []) t.given_is in
    let ms : moments_of (before.exchanges ++ t.exchange ∷ []) ≡ moments_of before.exchanges ++ given.now ∷ [] = map-append (λ (x : Exchange). x.given.now) before.exchanges (t.exchange ∷ []) ∙ ap (λ (x : Given). moments_of before.exchanges ++ x.now ∷ []) t.given_is in
    let all : moments_of (before.exchanges ++ t.exchange ∷ []) ++ planned_moments planned ≡ moments_of before.exchanges ++ given.now ∷ planned_moments planned = ap (λ (l : List ℕ). l ++ planned_moments planned) ms ∙ append_assoc (moments_of before.exchanges) (given.now ∷ []) (planned_moments planned) in
    let mid : point_after from before.exchanges ≡ point_at st1 before.seen (mark old) = run_point from _ before.exchanges before.run in
    record {
      buffered = next;
      conversation = record {
        exchanges = before.exchanges ++ t.exchange ∷ [];
        seen = t.seen;
        bytes = before.bytes;
        run = subst (Run from (before.exchanges ++ t.exchange ∷ [])) t.to_is (run_more from _ before.exchanges t.exchange before.run t.is_exchange);
        of_gate = of_gate_more _ before.exchanges t.exchange before.of_gate t.of_gate;
        stood_for = t.stood_for;
        read = before.read;
        inputs = subst (λ (l : List Input). InputsOf l before.bytes next) (sym is) (inputs_join _ (given.input ∷ []) before.bytes talk.buffered next before.inputs one);
        moments = subst told (sym all) before.moments;
        replies = writes_exchange r wrote w1 w2 before.exchanges t.exchange before.replies t.replies;
      };
      whole = rest;
      expected = λ e.
          elim (expected_after given planned (pending old) (pending new) ((mark new ≡ mark old) × (step_of st2.phase ≡ End)) (changes e) leaves) as (λ x. AreLeft from (before.exchanges ++ t.exchange ∷ []) planned (pending new)) [
            | inl k ↦ inl k
            | inr k ↦ inr (record {
              before = before.exchanges;
              last = t.exchange;
              whole = refl;
              unused = ap (λ (p : Point State). p.mark) t.to_is ∙ k.1.0 ∙ sym (ap (λ (p : Point State). p.mark) mid);
              ended = ap (λ (p : Point State). step_of p.state.phase) t.to_is ∙ k.1.1;
              are = subst (λ (x : Given). AreChanges (x ∷ planned) (pending new)) (sym t.given_is) (subst (AreChanges (given ∷ planned)) (sym k.0) (changes e));
            })
          ];
    }

writes_none : {T : Type 0} (r : Result T ServeFault) (a b : Option (List ℕ)) (exchanges : List Exchange) (before after : ℕ) → IsReadCause r before after → AppendsReplies a b exchanges → WritesReplies r a b exchanges
writes_none (Ok x) a b exchanges before after c h = h
writes_none (Err Read) a b exchanges before after c h = h
writes_none (Err Write) a b exchanges before after c h = absurd c
writes_none (Err NoMemory) a b exchanges before after c h = (exchanges, [], sym (append-nil exchanges), omega arith, [], [], refl, subst (Appends a b) (sym (append-nil (replies_of exchanges))) h)

-- a conversation in which nothing is planned goes on by one read
pub talks_read : {T : Type 0} (from : Point State) (first : List Operation) (gate : GateView) (state : State) (read r1 r2 : Option (List ℕ)) (left1 left2 more : List ℕ) (told : List ℕ → Type 0) (r : Result T ServeFault) (wrote w : Option (List ℕ)) (before after : ℕ)
    → Consumes r1 r2 more → left2 ≡ left1 ++ more → IsReadCause r before after
    → Talks from first gate state (traffic (Consumes read r1) told (AppendsReplies wrote w)) [] left1
    → Talks from first gate state (traffic (Consumes read r2) told (WritesReplies r wrote w)) [] left2
talks_read from first gate state read r1 r2 left1 left2 more told r wrote w before after taken grown cause talk =
    let talked = talk.conversation in
    let is : left2 ≡ talk.buffered ++ more = grown ∙ ap (λ (l : List ℕ). l ++ more) (sym talk.whole) in
    record {
      buffered = left2;
      conversation = record {
        exchanges = talked.exchanges;
        seen = talked.seen;
        bytes = talked.bytes ++ more;
        run = talked.run;
        of_gate = talked.of_gate;
        stood_for = talked.stood_for;
        read = Consumes-trans read r1 r2 talked.bytes more talked.read taken;
        inputs = subst (InputsOf (inputs_of talked.exchanges) (talked.bytes ++ more)) (sym is) (inputs_with_more _ talked.bytes talk.buffered more talked.inputs);
        moments = talked.moments;
        replies = writes_none r wrote w _ before after cause talked.replies;
      };
      whole = refl;
      expected = talk.expected;
    }

-- what comes next is planned, and the gate may be told what to expect
pub talks_planned : {G : Type 0} (stands : G → List Entry → Type 0) (mark : G → Mark) (pending : G → List Operation) (old new : G) (from : Point State) (first : List Operation) (st1 st2 : State) (consumed : List ℕ → Type 0) (p1 p2 : List Given) (left1 left2 : List ℕ) (told c1 c2 : Option (ℕ → ℕ)) (written : List Exchange → Type 0)
    → ((seen : List Entry) → stands old seen → stands new seen) → mark new ≡ mark old → st2 ≡ st1 → Plans p1 p2 left1 left2 c1 c2 → (first ≡ [] → AreChanges p2 (pending new))
    → Talks from first (gate_view stands mark pending old) st1 (traffic consumed (TellsInOrder told c1) written) p1 left1
    → Talks from first (gate_view stands mark pending new) st2 (traffic consumed (TellsInOrder told c2) written) p2 left2
talks_planned {G} stands mark pending old new from first st1 st2 consumed p1 p2 left1 left2 told c1 c2 written stood m s (more, grown, inputs, moments) changes talk =
    let talked = talk.conversation in
    let all : planned_inputs p2 ≡ planned_inputs p1 ++ planned_inputs more = ap planned_inputs grown ∙ map-append (λ (x : Given). x.input) p1 more in
    let times : (moments_of talked.exchanges ++ planned_moments p1) ++ planned_moments more ≡ moments_of talked.exchanges ++ planned_moments p2 =
    append_assoc (moments_of talked.exchanges) (planned_moments p1) (planned_moments more) ∙ ap (λ (l : List ℕ). moments_of talked.exchanges ++ l) (sym (map-append (λ (x : Given). x.now) p1 more) ∙ sym (ap planned_moments grown)) in
    record {
      buffered = talk.buffered;
      conversation = record {
        exchanges = talked.exchanges;
        seen = talked.seen;
        bytes = talked.bytes;
        run = subst (λ (x : State). Run from talked.exchanges (point_at x talked.seen (mark new))) (sym s) (subst (λ (x : Mark). Run from talked.exchanges (point_at st1 talked.seen x)) (sym m) talked.run);
        of_gate = talked.of_gate;
        stood_for = stood talked.seen talked.stood_for;
        read = talked.read;
        inputs = talked.inputs;
        moments = subst (TellsInOrder told c2) times (in_order_join told c1 c2 _ _ talked.moments moments);
        replies = talked.replies;
      };
      whole = subst (λ (l : List Input). InputsOf l talk.buffered left2) (sym all) (inputs_join _ _ talk.buffered left1 left2 talk.whole inputs);
      expected = λ e. inl (changes e);
    }

pub first_expected : {G : Type 0} (pending : G → List Operation) (gate kept : G) (planned : List Given) → kept ≡ gate → pending gate ≡ [] → AreChanges planned (pending kept)
first_expected pending gate kept planned e first = subst (AreChanges planned) (sym (ap pending e ∙ first)) tt

-- at first nothing was written
pub talks_first : {G : Type 0} (stands : G → List Entry → Type 0) (mark : G → Mark) (pending : G → List Operation) (gate kept : G) (state : State) (planned : List Given) (buffered : List ℕ) (assigned : List ℕ) (read : Option (List ℕ)) (told : Option (ℕ → ℕ)) (wrote : Option (List ℕ))
    → kept ≡ gate → state ≡ fresh assigned → buffered ≡ [] → planned ≡ []
    → (seen : List Entry) → stands gate seen → Talks (start assigned seen (mark gate)) (pending gate) (gate_view stands mark pending kept) state (traffic (Consumes read read) (TellsInOrder told told) (AppendsReplies wrote wrote)) planned buffered
talks_first {G} stands mark pending gate kept state planned buffered assigned read told wrote e f h none = λ seen s.
    record {
      buffered = buffered;
      conversation = record {
        exchanges = [];
        seen = seen;
        bytes = [];
        run = ap (λ (x : State). point_at x seen (mark kept)) f ∙ ap (λ (g : G). start assigned seen (mark g)) e;
        of_gate = tt;
        stood_for = subst (λ (g : G). stands g seen) (sym e) s;
        read = Consumes-nil read;
        inputs = sym h;
        moments = subst (λ (l : List Given). TellsInOrder told told (planned_moments l)) (sym none) (in_order_none told);
        replies = Appends-nil wrote;
      };
      whole = subst (λ (l : List Given). InputsOf (planned_inputs l) buffered buffered) (sym none) refl;
      expected = λ first. inl (first_expected pending gate kept planned e first);
    }

-- a fault says the same in a result of another type
writes_as : (T U : Type 0) (f : ServeFault) (a b : Option (List ℕ)) (exchanges : List Exchange) → WritesReplies {T = T} (Err f) a b exchanges → WritesReplies {T = U} (Err f) a b exchanges
writes_as T U Read a b exchanges h = h
writes_as T U Write a b exchanges h = h
writes_as T U NoMemory a b exchanges h = h

-- the same of what was written
talks_written : (from : Point State) (first : List Operation) (gate : GateView) (state : State) (consumed told : List ℕ → Type 0) (planned : List Given) (left : List ℕ) (P Q : List Exchange → Type 0)
    → ((exchanges : List Exchange) → P exchanges → Q exchanges) → Talks from first gate state (traffic consumed told P) planned left → Talks from first gate state (traffic consumed told Q) planned left
talks_written from first gate state consumed told planned left P Q f talk =
    let c = talk.conversation in
    record {
      buffered = talk.buffered;
      conversation = record { exchanges = c.exchanges; seen = c.seen; bytes = c.bytes; run = c.run; of_gate = c.of_gate; stood_for = c.stood_for; read = c.read; inputs = c.inputs; moments = c.moments; replies = f _ c.replies };
      whole = talk.whole;
      expected = talk.expected;
    }

pub talks_as : (T U : Type 0) (f : ServeFault) (from : Point State) (first : List Operation) (gate : GateView) (state : State) (consumed told : List ℕ → Type 0) (planned : List Given) (left : List ℕ) (a b : Option (List ℕ))
    → Talks from first gate state (traffic consumed told (WritesReplies {T = T} (Err f) a b)) planned left → Talks from first gate state (traffic consumed told (WritesReplies {T = U} (Err f) a b)) planned left
talks_as T U f from first gate state consumed told planned left a b talk =
    talks_written from first gate state consumed told planned left (WritesReplies {T = T} (Err f) a b) (WritesReplies {T = U} (Err f) a b) (λ exchanges h. writes_as T U f a b exchanges h) talk

-- memory was refused before anything was handled
pub talks_refused : (T : Type 0) (f : ServeFault) (from : Point State) (first : List Operation) (gate : GateView) (state : State) (consumed told : List ℕ → Type 0) (planned : List Given) (left : List ℕ) (a b : Option (List ℕ))
    → f ≡ NoMemory → Talks from first gate state (traffic consumed told (AppendsReplies a b)) planned left → Talks from first gate state (traffic consumed told (WritesReplies {T = T} (Err f) a b)) planned left
talks_refused T f from first gate state consumed told planned left a b is talk =
    talks_written from first gate state consumed told planned left (AppendsReplies a b) (WritesReplies {T = T} (Err f) a b)
    (λ exchanges h. subst (λ (x : ServeFault). WritesReplies {T = T} (Err x) a b exchanges) (sym is) (writes_none {T = T} (Err NoMemory) a b exchanges 0 0 refl h)) talk

-- the same of an equal plan
pub talks_equal : (from : Point State) (first : List Operation) (gate : GateView) (state : State) (t : Traffic) (p q : List Given) (left : List ℕ)
    → p ≡ q → Talks from first gate state t p left → Talks from first gate state t q left
talks_equal from first gate state t p q left e talk = subst (λ (l : List Given). Talks from first gate state t l left) e talk

-- if there is no memory for the identifier, nothing is read
pub talks_none : (T : Type 0) (gate : GateView) (assigned : List ℕ) (read : Option (List ℕ)) (told : Option (ℕ → ℕ)) (wrote : Option (List ℕ)) (seen : List Entry)
    → gate.stands seen → Talks (start assigned seen gate.mark) gate.pending gate (fresh assigned) (traffic (Consumes read read) (TellsInOrder told told) (WritesReplies {T = T} (Err NoMemory) wrote wrote)) [] []
talks_none T gate assigned read told wrote seen s =
    record {
      buffered = [];
      conversation = record {
        exchanges = [];
        seen = seen;
        bytes = [];
        run = refl;
        of_gate = tt;
        stood_for = s;
        read = Consumes-nil read;
        inputs = refl;
        moments = in_order_none told;
        replies = ([], [], refl, omega arith, [], [], refl, Appends-nil wrote);
      };
      whole = refl;
      expected = λ e. inl (subst (AreChanges []) (sym e) tt);
    }

-- ---- how it ends

-- not an end of the input, nor a failure of the reader
abbrev pub IsHandled : Result (Option Served) ServeFault → Type 0
IsHandled (Ok None) = Unit {0}
IsHandled (Ok (Some ClientClosed)) = Unit {0}
IsHandled (Ok (Some EndOfInput)) = ⊥
IsHandled (Ok (Some CutInput)) = ⊥
IsHandled (Ok (Some (ServerClosed code))) = Unit {0}
IsHandled (Ok (Some Dropped)) = Unit {0}
IsHandled (Err Read) = ⊥
IsHandled (Err Write) = Unit {0}
IsHandled (Err NoMemory) = Unit {0}

abbrev pub Closes : Result (Option Served) ServeFault → State → List ℕ → Type 0 → Type 0
Closes (Ok None) state buffered at_end = closing_of state.phase ≡ None
Closes (Ok (Some served)) state buffered at_end = ClosesAs served state buffered at_end
Closes (Err fault) state buffered at_end = BreaksAt fault state buffered

abbrev pub handled : Result Served ServeFault → Result (Option Served) ServeFault
handled (Ok served) = Ok (Some served)
handled (Err fault) = Err fault

-- the input ends, or the reader fails, only if nothing is planned; so all that is left is buffered then
pub ends_buffered : (result : Result Served ServeFault) (state : State) (planned : List Given) (buffered left : List ℕ) (at_end : Type 0) → Ends result state left at_end → (planned ≡ []) ⊎ IsHandled (handled result) → InputsOf (planned_inputs planned) buffered left → Ends result state buffered at_end
ends_buffered result state planned buffered left at_end ends (inl none) whole =
    subst (λ (l : List ℕ). Ends result state l at_end) (sym (subst (λ (l : List Given). InputsOf (planned_inputs l) buffered left) none whole)) ends
ends_buffered (Ok ClientClosed) state planned buffered left at_end ends (inr h) whole = ends
ends_buffered (Ok EndOfInput) state planned buffered left at_end ends (inr h) whole = absurd h
ends_buffered (Ok CutInput) state planned buffered left at_end ends (inr h) whole = absurd h
ends_buffered (Ok (ServerClosed code)) state planned buffered left at_end ends (inr h) whole = ends
ends_buffered (Ok Dropped) state planned buffered left at_end ends (inr h) whole = ends
ends_buffered (Err Read) state planned buffered left at_end ends (inr h) whole = absurd h
ends_buffered (Err Write) state planned buffered left at_end ends (inr h) whole = tt
ends_buffered (Err NoMemory) state planned buffered left at_end ends (inr h) whole = tt

-- ---- a connection

-- the same of equal bytes, and of what follows of the times
pub connection_as : (from : Point State) (first : List Operation) (most : ℕ) (gate : GateView) (old new : Transfer) (result : Result Served ServeFault)
    → old.unread ≡ new.unread → old.rest ≡ new.rest → old.written ≡ new.written → old.more ≡ new.more → ((ms : List ℕ) → old.told ms → new.told ms)
    → IsConnection from first most gate old result → IsConnection from first most gate new result
connection_as from first most gate old new result e f g h t (state, planned, left, few, talk, ends) =
    let c = talk.conversation in (
      state,
      planned,
      left,
      few,
      record {
        buffered = talk.buffered;
        conversation = record {
          exchanges = c.exchanges;
          seen = c.seen;
          bytes = c.bytes;
          run = c.run;
          of_gate = c.of_gate;
          stood_for = c.stood_for;
          read = subst (λ (o : Option (List ℕ)). Consumes new.unread o c.bytes) f (subst (λ (o : Option (List ℕ)). Consumes o old.rest c.bytes) e c.read);
          inputs = c.inputs;
          moments = t _ c.moments;
          replies = subst (λ (o : Option (List ℕ)). WritesReplies result new.written o c.exchanges) h (subst (λ (o : Option (List ℕ)). WritesReplies result o old.more c.exchanges) g c.replies);
        };
        whole = talk.whole;
        expected = talk.expected;
      },
      subst (λ (o : Option (List ℕ)). Ends result state talk.buffered (IsAtEnd o)) f ends,
    )

-- ---- the end of an exchange

pub closes_ok : (state : State) (buffered : List ℕ) (at_end : Type 0) (closing : Option Closing) → closing_of state.phase ≡ closing → Closes (Ok (served_as closing)) state buffered at_end
closes_ok state buffered at_end None is = is
closes_ok state buffered at_end (Some closing.ByClient) is = is
closes_ok state buffered at_end (Some (closing.ByServer code)) is = is
closes_ok state buffered at_end (Some closing.Dropped) is = is

pub breaks_as : (T : Type 0) (f : ServeFault) (state : State) (buffered : List ℕ) (before after : ℕ) → IsWriteCause {T = T} (Err f) before after → BreaksAt f state buffered
breaks_as T Read state buffered before after h = absurd h
breaks_as T Write state buffered before after h = tt
breaks_as T NoMemory state buffered before after h = tt

pub write_cause_as : (T U : Type 0) (f : ServeFault) (before after : ℕ) → IsWriteCause {T = T} (Err f) before after → IsWriteCause {T = U} (Err f) before after
write_cause_as T U Read before after h = absurd h
write_cause_as T U Write before after h = h
write_cause_as T U NoMemory before after h = h

-- ---- the end of a read

pub read_closes : (served : Served) (state : State) (old new : List ℕ) (at_end : Type 0) → IsEnd (Ok (Some served)) old new at_end → closing_of state.phase ≡ None → IsMore old → ClosesAs served state new at_end
read_closes ClientClosed state old new at_end h goes_on more = absurd h
read_closes EndOfInput state old new at_end (same, none, is_end) goes_on more = (goes_on, none, is_end)
read_closes CutInput state old new at_end (same, some, is_end) goes_on more = (goes_on, some, subst IsMore (sym same) more, is_end)
read_closes (ServerClosed code) state old new at_end h goes_on more = absurd h
read_closes Dropped state old new at_end h goes_on more = absurd h

pub read_breaks : (f : ServeFault) (state : State) (old new : List ℕ) → new ≡ old → closing_of state.phase ≡ None → IsMore old → BreaksAt f state new
read_breaks Read state old new same goes_on more = (goes_on, subst IsMore (sym same) more)
read_breaks Write state old new same goes_on more = tt
read_breaks NoMemory state old new same goes_on more = tt
