-- From the contract of a run to what the clients were written.
use Rattle.std.proofs.Common.{◌≡◌, ℕ, suc, Option, Some, None, is_some, true, All, List, [], ◌∷◌, ◌++◌, length, map, sym, subst, ◌∙◌, arith}
use Rattle.std.specs.Prelude.{IfOk, Result, Ok, Err}
use Rattle.std.specs.List.{AllByRecursion, AllZip}
use Rattle.rs_session.specs.Gate.{Extends}
use Rattle.rs_session.specs.Stored.{lists_of}
use Rattle.rs_session.specs.Run.{Exchange}
use Rattle.rs_places.proofs.Whole.{new_gates_length}
use Rattle.rs_message.specs.declared.entry.Entry.{Entry}
use Rattle.rs_places_steps.specs.Visits.{AreConnectionsServed, Place, Visit, next_number}
use Rattle.rs_places_steps.specs.Places.{Left, places_of}
use Rattle.rs_places_steps.specs.Shared.{SharedValue}
use Rattle.rs_places_steps.specs.Within.{AreWithin}
use Rattle.rs_intake.specs.declared.cause.Cause.{Cause}
use Rattle.rs_places.specs.Store.{IsPlaceOf, IsStoreRun, new_gates}
use Rattle.rs_places_steps.specs.Turns.{AreAll, Connections, Ending, Streams, TookBack}
use Rattle.tests_places.specs.Answered.{AreAnswered, ArePlacesAnswered, EachAnswered, IsPlaceAnswered}

abbrev AllOf : List Entry → List Exchange → Type 0
AllOf history exchanges = AllByRecursion (λ list. Extends history list) (lists_of exchanges)

visits_answered : (limit number : ℕ) (history : List Entry) (gate : SharedValue) (visits : List Visit) (last : SharedValue) → AreConnectionsServed limit number gate visits last → AreWithin history number gate visits
    → EachAnswered history (map (λ visit. visit.given) visits) (map (λ visit. visit.ending) visits)
visits_answered limit number history gate [] last served within = tt
visits_answered limit number history gate (visit ∷ visits) last (one, rest) (here, more) =
    let c = one.connection in (
      record {
        assigned = _;
        seen = gate.known;
        mark = gate.mark;
        to = _;
        exchanges = c.exchanges;
        bytes = c.bytes;
        buffered = c.buffered;
        planned = c.planned;
        left = c.left;
        run = c.run;
        read = c.read;
        inputs = c.inputs;
        whole = c.whole;
        moments = c.moments;
        replies = c.replies;
        first = here.first;
        lists = subst (AllOf history) one.exchanges here.lists;
        cause = one.cause;
      },
      visits_answered limit (next_number number) history visit.gate visits last rest more,
    )

answered_by : (history : List Entry) (waiting : Option (List Streams)) (before after : Option (List Ending)) (given : List Streams) (endings : List Ending)
    → is_some waiting ≡ true → AreAll waiting given → TookBack before endings after → EachAnswered history given endings → IsPlaceAnswered history waiting before after
answered_by history None before after given endings some all took each = absurd (cc (some))
answered_by history (Some waiting) before None given endings some all took each = tt
answered_by history (Some waiting) None (Some ended) given endings some all took each = absurd took
answered_by history (Some waiting) (Some before) (Some ended) given endings some all took each =
    let E : List Streams → Type 0 = λ l. EachAnswered history l endings in
    (endings, took, subst E (sym all) each)

place_answered : (limit : ℕ) (history entries : List Entry) (place : Place) (left : Left) → is_some place.connections.waiting ≡ true → IsPlaceOf limit history entries place left
    → IsPlaceAnswered history place.connections.waiting place.connections.ended left.connections.ended
place_answered limit history entries place left some p =
    let visits = p.served.visits in
    answered_by history place.connections.waiting place.connections.ended left.connections.ended _ _ some p.served.all p.served.ended
    (visits_answered limit 1 history place.gate visits p.served.last p.served.connections p.within)

places_answered : (limit : ℕ) (history entries : List Entry) (before : List Connections) (gates : List SharedValue) (left : List Left) → length before ≡ length gates
    → AllByRecursion (λ connections. is_some connections.waiting ≡ true) before → AllZip (IsPlaceOf limit history entries) (places_of before gates) left → ArePlacesAnswered history before (map (λ end. end.connections) left)
places_answered limit history entries [] gates [] same known each = tt
places_answered limit history entries [] gates (end ∷ left) same known each = absurd each
places_answered limit history entries (connections ∷ turns) [] left same known each = absurd (omega (arith, same))
places_answered limit history entries (connections ∷ turns) (gate ∷ gates) [] same known each = absurd each
places_answered limit history entries (connections ∷ turns) (gate ∷ gates) (end ∷ left) same known each =
    (place_answered limit history entries (record { connections = connections; gate = gate }) end known.0 each.0, places_answered limit history entries turns gates left (omega (arith, same)) known.1 each.1)

pub run_answered : (most_held limit places : ℕ) (begun : List Entry) (before after : List Connections) (version : ℕ) (changes : Option ℕ) (cause : Cause) → length before ≡ places → AllByRecursion (λ connections. is_some connections.waiting ≡ true) before → IsStoreRun most_held limit places begun before after version changes cause → AreAnswered limit before after version
run_answered most_held limit places begun before after version changes cause count known run =
    let P : List Connections → Type 0 = λ l. ArePlacesAnswered run.history before l in
    record {
      history = run.history;
      legal = run.legal;
      published = run.published;
      first = (run.held, run.whole);
      entries = run.entries;
      places = subst P (sym run.turns) (places_answered limit run.history run.taken before (new_gates begun places) run.left (count ∙ sym (new_gates_length begun places)) known run.each);
    }

pub if_ok_more : {A E : Type 0} (r : Result A E) (P Q : A → Type 0) → ((x : A) → P x → Q x) → IfOk r P → IfOk r Q
if_ok_more (Ok x) P Q to h = to x h
if_ok_more (Err e) P Q to h = tt

-- what is given of each turn is given of its connections
pub connections_known : {T : Type 0} (connections : T → Connections) (turns : List T) → All (λ turn. is_some (connections turn).waiting ≡ true) turns → AllByRecursion (λ p. is_some p.waiting ≡ true) (map connections turns)
connections_known connections [] known = tt
connections_known connections (turn ∷ turns) known = (known 0 turn (omega arith), connections_known connections turns (λ k d lt. known (suc k) d (omega (arith, lt))))
