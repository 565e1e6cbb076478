-- Lemmas on the steps by which a client is served.
use Rattle.std.proofs.Common.{◌≡◌, ℕ, ◌+◌, ◌-◌, ◌^◌, List, [], Option, Some, Err, refl, sym, ap, subst, ◌∙◌}
use Rattle.std.specs.Prelude.{min, Result}
use Rattle.rs_intake_queue.specs.declared.job.TheConstants.{MAX_CHANGES}
use Rattle.rs_message.specs.declared.entry.Entry.{Entry}
use Rattle.rs_message.specs.declared.entry.Operation.{Operation}
use Rattle.rs_store.specs.History.{IsLegal}
use Rattle.rs_session.specs.Gate.{Mark}
use Rattle.rs_session.specs.Points.{Point}
use Rattle.rs_session.specs.State.{State, gate_of as session_gate}
use Rattle.rs_server.specs.Conversation.{Causes, GateView, IsConnection, assigned_of, gate_view, start}
use Rattle.rs_server.specs.Counts.{failures_of, inner_of}
use Rattle.rs_server.specs.Refusals.{gate_of}
use Rattle.rs_server.specs.Serving.{CausesEnd, IsRead, IsUnderway, session_of, transfer_from}
use Rattle.rs_server.specs.declared.connection.Served.{Served}
use Rattle.rs_server.specs.declared.counted.Counted.{Counted}
use Rattle.rs_server.specs.declared.counted_gate.CountedGate.{CountedGate}
use Rattle.rs_server.specs.declared.serving.Serving.{Serving}
use Rattle.rs_server.specs.declared.writing.ServeFault.{ServeFault}
use Rattle.rs_server.specs.declared.writing.ServeFault.TheVariants.{NoMemory}
use Rattle.rs_server.proofs.Goings.{none_served}
use Rattle.rs_places_steps.specs.Visits.{IsConnectionServed, Place, ServedSoFar, Visit, next_number, place_at, transfer_of}
use Rattle.rs_places_steps.specs.Ended.{HasEnded}
use Rattle.rs_places_steps.specs.Shared.{HandsOn, Knows, SharedValue, operations_of}
use Rattle.rs_places_steps.specs.Turns.{Connections, Ending, GivesNext, IsOut, Streams, TakesBack}
use Rattle.rs_places_steps.proofs.HandedBack.{has_ended}
use Rattle.rs_places_steps.proofs.ServedAt.{seen_as_shared, served_at}
use Rattle.rs_places_steps.proofs.Visits.{ServesOne, served_more}
use Rattle.rs_places_steps.specs.Steps.{IsBeingServed, WasRead, WasServed, counted_view}

abbrev streams : Option (List ℕ) → Option (List ℕ) → Option (ℕ → ℕ) → Streams
streams unread written moments = record { unread = unread; written = written; moments = moments }

-- the turn gave a connection, of which nothing was read
pub begins : {R W G : Type 0} (remaining : R → Option (List ℕ)) (contents : W → Option (List ℕ)) (moments : Option (ℕ → ℕ))
    (stands : G → List Entry → Type 0) (mark : G → Mark) (pending : G → List Operation) (shared : G → SharedValue) (limit most : ℕ)
    → ((gate : G) (list : List Entry) → Knows limit (shared gate) list → stands gate list) → ((gate : G) → (shared gate).mark ≡ mark gate) → ((gate : G) → (shared gate).pending ≡ pending gate)
    → (begun : Place) (number place : ℕ) (own : G) (old connections : Connections) (input : R) (output : W) (reader : Counted R) (writer : Counted W) (counted : CountedGate G) (serving : Serving (CountedGate G))
    → ServedSoFar limit begun number (place_at old (shared own)) → GivesNext old (Some (streams (remaining input) (contents output) moments)) connections
    → inner_of reader ≡ input → inner_of writer ≡ output → gate_of counted ≡ own → place ≡ (shared own).mark.place → IsLegal limit (shared own).known
    → ((seen : List Entry) (unread written : Option (List ℕ)) (told : Option (ℕ → ℕ)) → stands (gate_of counted) seen
    → IsUnderway (start (assigned_of place number) seen (mark (gate_of counted))) (pending (gate_of counted)) most (counted_view stands mark pending) (transfer_from unread unread written written told told) serving)
    → IsBeingServed limit most (counted_view stands mark pending) begun number connections (streams (remaining (inner_of reader)) (contents (inner_of writer)) moments) serving
begins {R} {W} {G} remaining contents moments stands mark pending shared limit most known same_mark same_pending begun number place own old connections input output reader writer counted serving so_far gives in_is out_is gate_is place_is legal new =
    let N : G → Type 0 = λ g. (seen : List Entry) (unread written : Option (List ℕ)) (told : Option (ℕ → ℕ)) → stands g seen
    → IsUnderway (start (assigned_of place number) seen (mark g)) (pending g) most (counted_view stands mark pending) (transfer_from unread unread written written told told) serving in
    let U : ℕ → Mark → List Operation → Option (List ℕ) → Option (List ℕ) → Type 0 = λ p m q a b. IsUnderway (start (assigned_of p number) (shared own).known m) q most (counted_view stands mark pending)
    (transfer_from a (remaining (inner_of reader)) b (contents (inner_of writer)) moments moments) serving in
    let r : Option (List ℕ) = remaining (inner_of reader) in
    let w : Option (List ℕ) = contents (inner_of writer) in
    let m : Mark = (shared own).mark in
    let q : List Operation = (shared own).pending in
    let newer : N own = subst N gate_is new in
    let first : U place (mark own) (pending own) r w = newer (shared own).known r w moments (known own (shared own).known (record { known = refl; legal = legal })) in
    let second : U place m (pending own) r w = subst (λ n. U place n (pending own) r w) (sym (same_mark own)) first in
    let third : U place m q r w = subst (λ l. U place m l r w) (sym (same_pending own)) second in
    let fourth : U m.place m q r w = subst (λ (p : ℕ). U p m q r w) place_is third in
    let fifth : U m.place m q (remaining input) w = subst (λ (i : R). U m.place m q (remaining i) w) in_is fourth in
    let sixth : U m.place m q (remaining input) (contents output) = subst (λ (o : W). U m.place m q (remaining input) (contents o)) out_is fifth in
    record {
      next = record { before = place_at old (shared own); given = streams (remaining input) (contents output) moments; so_far = so_far; gives = gives };
      underway = sixth;
    }

-- the turn gave a connection, and memory was refused for it
pub refused : {R W G : Type 0} (remaining : R → Option (List ℕ)) (contents : W → Option (List ℕ)) (moments : Option (ℕ → ℕ))
    (stands : G → List Entry → Type 0) (mark : G → Mark) (pending : G → List Operation) (shared : G → SharedValue) (limit most : ℕ)
    → ((gate : G) (list : List Entry) → Knows limit (shared gate) list → stands gate list) → ((gate : G) → (shared gate).mark ≡ mark gate) → ((gate : G) → (shared gate).pending ≡ pending gate)
    → (begun : Place) (number : ℕ) (own : G) (old connections : Connections) (input : R) (output : W) (reader : Counted R) (writer : Counted W) (counted same : CountedGate G)
    → ServedSoFar limit begun number (place_at old (shared own)) → GivesNext old (Some (streams (remaining input) (contents output) moments)) connections
    → inner_of reader ≡ input → inner_of writer ≡ output → gate_of counted ≡ own → same ≡ counted → IsLegal limit (shared own).known
    → failures_of reader ≡ 0 → failures_of writer ≡ 0
    → WasServed limit most begun number connections (streams (remaining (inner_of reader)) (contents (inner_of writer)) moments) (counted_view stands mark pending same) (Err NoMemory) (failures_of reader) (failures_of writer)
refused {R} {W} {G} remaining contents moments stands mark pending shared limit most known same_mark same_pending begun number own old connections input output reader writer counted same so_far gives in_is out_is gate_is same_is legal none_read none_written =
    let r : Option (List ℕ) = remaining (inner_of reader) in
    let w : Option (List ℕ) = contents (inner_of writer) in
    let m : Mark = (shared own).mark in
    let q : List Operation = (shared own).pending in
    let p : List ℕ = assigned_of m.place number in
    let view : GateView = counted_view stands mark pending same in
    let U : Mark → List Operation → Option (List ℕ) → Option (List ℕ) → Type 0 = λ n l a b. IsConnection (start p (shared own).known n) l most view (transfer_from a r b w moments moments) (Err NoMemory) in
    let is : gate_of same ≡ own = ap gate_of same_is ∙ gate_is in
    let S : G → Type 0 = λ g. stands g (shared own).known in
    let knows : stands (gate_of same) (shared own).known = subst S (sym is) (known own (shared own).known (record { known = refl; legal = legal })) in
    let first : U (mark (gate_of same)) (pending (gate_of same)) r w = none_served most view p r moments w (shared own).known knows in
    let second : U m (pending (gate_of same)) r w = subst (λ n. U n (pending (gate_of same)) r w) (ap mark is ∙ sym (same_mark own)) first in
    let third : U m q r w = subst (λ l. U m l r w) (ap pending is ∙ sym (same_pending own)) second in
    let fourth : U m q (remaining input) w = subst (λ (i : R). U m q (remaining i) w) in_is third in
    let fifth : U m q (remaining input) (contents output) = subst (λ (o : W). U m q (remaining input) (contents o)) out_is fourth in
    record {
      next = record { before = place_at old (shared own); given = streams (remaining input) (contents output) moments; so_far = so_far; gives = gives };
      connection = fifth;
      cause = (none_read, none_written);
    }

-- it was read
pub was_read : {G : Type 0} (limit most : ℕ) (view : CountedGate G → GateView) (begun : Place) (number : ℕ) (connections : Connections) (rest left more : Option (List ℕ)) (moments later : Option (ℕ → ℕ)) (serving after : Serving (CountedGate G))
    → IsBeingServed limit most view begun number connections (streams rest more moments) serving
    → ((from : Point State) (first : List Operation) (unread written wrote : Option (List ℕ)) (told : Option (ℕ → ℕ)) → IsUnderway from first most view (transfer_from unread rest written wrote told moments) serving
    → IsRead from first most view (transfer_from unread left written wrote told later) after)
    → WasRead limit most view begun number connections (streams left more later) after
was_read {G} limit most view begun number connections rest left more moments later serving after h read =
    let b = h.next.before.gate in
    record {
      next = h.next;
      read = read (start (assigned_of b.mark.place number) b.known b.mark) b.pending h.next.given.unread h.next.given.written more h.next.given.moments h.underway;
    }

-- the failures before it were none
from_none : (end : Result Served ServeFault) (read_before read_after write_before write_after : ℕ) → read_before ≡ 0 → write_before ≡ 0 → CausesEnd (Some end) read_before read_after write_before write_after
    → Causes end 0 read_after 0 write_after
from_none end read_before read_after write_before write_after none_read none_written cause =
    subst (λ (n : ℕ). Causes end 0 read_after n write_after) none_written (subst (λ (n : ℕ). Causes end n read_after write_before write_after) none_read cause)

-- it was read, and ended so
pub ended_read : {G : Type 0} (limit most : ℕ) (view : CountedGate G → GateView) (begun : Place) (number : ℕ) (connections : Connections) (rest left more : Option (List ℕ)) (moments later : Option (ℕ → ℕ)) (serving after : Serving (CountedGate G))
    (end : Result Served ServeFault) (read_before read_after failures : ℕ)
    → IsBeingServed limit most view begun number connections (streams rest more moments) serving
    → ((from : Point State) (first : List Operation) (unread written wrote : Option (List ℕ)) (told : Option (ℕ → ℕ)) → IsUnderway from first most view (transfer_from unread rest written wrote told moments) serving
    → IsConnection from first most (view (session_gate (session_of after))) (transfer_from unread left written wrote told later) end)
    → read_before ≡ 0 → failures ≡ 0 → CausesEnd (Some end) read_before read_after failures failures
    → WasServed limit most begun number connections (streams left more later) (view (session_gate (session_of after))) end read_after failures
ended_read {G} limit most view begun number connections rest left more moments later serving after end read_before read_after failures h ended none_read none_written cause =
    let b = h.next.before.gate in
    record {
      next = h.next;
      connection = ended (start (assigned_of b.mark.place number) b.known b.mark) b.pending h.next.given.unread h.next.given.written more h.next.given.moments h.underway;
      cause = from_none end read_before read_after failures failures none_read none_written cause;
    }

-- all that was read is handled
pub was_handled : {G : Type 0} (limit most : ℕ) (view : CountedGate G → GateView) (begun : Place) (number : ℕ) (connections : Connections) (rest wrote more : Option (List ℕ)) (moments later : Option (ℕ → ℕ)) (serving after : Serving (CountedGate G))
    → WasRead limit most view begun number connections (streams rest wrote moments) serving
    → ((from : Point State) (first : List Operation) (unread left written : Option (List ℕ)) (told : Option (ℕ → ℕ)) → IsRead from first most view (transfer_from unread left written wrote told moments) serving
    → IsUnderway from first most view (transfer_from unread left written more told later) after)
    → IsBeingServed limit most view begun number connections (streams rest more later) after
was_handled {G} limit most view begun number connections rest wrote more moments later serving after h handled =
    let b = h.next.before.gate in
    record {
      next = h.next;
      underway = handled (start (assigned_of b.mark.place number) b.known b.mark) b.pending h.next.given.unread rest h.next.given.written h.next.given.moments h.read;
    }

-- it was handled, and ended so
pub ended_handled : {G : Type 0} (limit most : ℕ) (view : CountedGate G → GateView) (begun : Place) (number : ℕ) (connections : Connections) (rest wrote more : Option (List ℕ)) (moments later : Option (ℕ → ℕ)) (serving after : Serving (CountedGate G))
    (end : Result Served ServeFault) (failures write_before write_after : ℕ)
    → WasRead limit most view begun number connections (streams rest wrote moments) serving
    → ((from : Point State) (first : List Operation) (unread left written : Option (List ℕ)) (told : Option (ℕ → ℕ)) → IsRead from first most view (transfer_from unread left written wrote told moments) serving
    → IsConnection from first most (view (session_gate (session_of after))) (transfer_from unread left written more told later) end)
    → failures ≡ 0 → write_before ≡ 0 → CausesEnd (Some end) failures failures write_before write_after
    → WasServed limit most begun number connections (streams rest more later) (view (session_gate (session_of after))) end failures write_after
ended_handled {G} limit most view begun number connections rest wrote more moments later serving after end failures write_before write_after h ended none_read none_written cause =
    let b = h.next.before.gate in
    record {
      next = h.next;
      connection = ended (start (assigned_of b.mark.place number) b.known b.mark) b.pending h.next.given.unread rest h.next.given.written h.next.given.moments h.read;
      cause = from_none end failures failures write_before write_after none_read none_written cause;
    }

-- the connection ended over this gate
pub served_by : {G : Type 0} (limit most : ℕ) (view : CountedGate G → GateView) (begun : Place) (number : ℕ) (connections : Connections) (now : Streams) (gate own : CountedGate G) (end : Result Served ServeFault) (read_failures write_failures : ℕ)
    → WasServed limit most begun number connections now (view own) end read_failures write_failures → gate ≡ own → WasServed limit most begun number connections now (view gate) end read_failures write_failures
served_by {G} limit most view begun number connections now gate own end read_failures write_failures h is =
    let before = h.next.before.gate in
    let U : CountedGate G → Type 0 = λ g. IsConnection (start (assigned_of before.mark.place number) before.known before.mark) before.pending most (view g) (transfer_of h.next.given now) end in
    record { next = h.next; connection = subst U (sym is) h.connection; cause = h.cause }

-- The connection that was served, over these streams, before which the gate was as it was then. It ended so, and the gate was handed on.
pub record Handed (limit number : ℕ) (before : SharedValue) (given : Streams) (ending : Ending) (handed : SharedValue) : Type 0 where
  pub visit : Visit
  pub served : IsConnectionServed limit number before visit
  pub over : visit.given ≡ given
  pub ends : visit.ending ≡ ending
  pub leaves : visit.gate ≡ handed

-- the gate was handed on
pub handed_on : {G : Type 0} (stands : G → List Entry → Type 0) (mark : G → Mark) (pending : G → List Operation) (shared : G → SharedValue) (limit most : ℕ)
    → ((gate : G) (list : List Entry) → stands gate list → Knows limit (shared gate) list) → ((gate : G) → (shared gate).mark ≡ mark gate) → ((gate : G) → (shared gate).pending ≡ pending gate) → most ≡ MAX_CHANGES
    → (begun : Place) (number : ℕ) (old : Connections) (now : Streams) (counted : CountedGate G) (gate : G) (handed : SharedValue) (result : Result Served ServeFault) (read_failures write_failures : ℕ)
    → (h : WasServed limit most begun number old now (counted_view stands mark pending counted) result read_failures write_failures)
    → gate ≡ gate_of counted → handed.known ≡ (shared gate).known → ((tail : List Entry) × HandsOn (shared gate).mark tail handed.mark × (operations_of tail ≡ (shared gate).pending)) → handed.pending ≡ []
    → Handed limit number h.next.before.gate h.next.given (record { streams = now; read_failures = read_failures; write_failures = write_failures; result = result }) handed
handed_on {G} stands mark pending shared limit most knows same_mark same_pending same_most begun number old now counted gate handed result read_failures write_failures h gate_is known_is (tail, hands_on, tail_is) none =
    let before = h.next.before in
    let given = h.next.given in
    let from : Point State = start (assigned_of before.gate.mark.place number) before.gate.known before.gate.mark in
    let U : ℕ → G → Type 0 =
    λ n g. IsConnection from before.gate.pending n (gate_view (Knows limit) (λ (v : SharedValue). v.mark) (λ (v : SharedValue). v.pending) (shared g)) (transfer_of given now) result in
    let own : U most (gate_of counted) =
    seen_as_shared (λ (it : CountedGate G). stands (gate_of it)) (λ (it : CountedGate G). mark (gate_of it)) (λ (it : CountedGate G). pending (gate_of it)) (λ (it : CountedGate G). shared (gate_of it)) limit most
    (λ it list. knows (gate_of it) list) (λ it. same_mark (gate_of it)) (λ it. same_pending (gate_of it)) from before.gate.pending counted (transfer_of given now) result h.connection in
    let connection : U MAX_CHANGES gate = subst (λ (g : G). U MAX_CHANGES g) (sym gate_is) (subst (λ (n : ℕ). U n (gate_of counted)) same_most own) in
    let served = served_at limit number before.gate.mark.place before.gate (shared gate) handed (transfer_of given now) result tail refl connection known_is hands_on tail_is none in
    let ending : Ending = record { streams = now; read_failures = read_failures; write_failures = write_failures; result = result } in
    record {
      visit = record { given = given; ending = ending; exchanges = served.exchanges; planned = served.planned; gate = handed };
      served = record { connection = served; exchanges = refl; planned = refl; cause = h.cause };
      over = refl;
      ends = refl;
      leaves = refl;
    }

-- so all is known of it
pub ended_known : (limit number place : ℕ) (before : SharedValue) (given : Streams) (out : Option (Option Streams)) (ending : Ending) (handed : SharedValue) (told : List Entry) → before.pending ≡ [] → Handed limit number before given ending handed
    → IsOut (Some given) out → place ≡ handed.mark.place → told ≡ handed.known → HasEnded limit place number out ending told
ended_known limit number place before given out ending handed told none h own place_is told_is =
    let O : Streams → Type 0 = λ s. IsOut (Some s) out in
    has_ended limit place number before h.visit out ending told none h.served (subst O (sym h.over) own) (place_is ∙ ap (λ (g : SharedValue). g.mark.place) (sym h.leaves)) (sym h.ends) (told_is ∙ ap (λ (g : SharedValue). g.known) (sym h.leaves))

-- and the turn took it back
pub given_back : (limit : ℕ) (begun before : Place) (number next : ℕ) (given : Streams) (old new : Connections) (ending taken : Ending) (handed : SharedValue)
    → ServedSoFar limit begun number before → GivesNext before.connections (Some given) old
    → Handed limit number before.gate given ending handed
    → taken ≡ ending → TakesBack old taken new
    → next ≡ min (number + 1) (2 ^ 64 - 1)
    → ServedSoFar limit begun next (place_at new handed)
given_back limit begun before number next given old new ending taken handed so_far gives h taken_is takes next_is =
    let T : Ending → Type 0 = λ e. TakesBack old e new in
    let one : ServesOne limit number (place_at old before.gate) given (place_at new handed) = record {
      visit = h.visit;
      served = h.served;
      over = h.over;
      leaves = h.leaves;
      taken_back = subst T (taken_is ∙ sym h.ends) takes;
    } in
    let more : ServedSoFar limit begun (next_number number) (place_at new handed) = served_more limit number begun before (place_at new handed) old given so_far gives one in
    subst (λ (n : ℕ). ServedSoFar limit begun n (place_at new handed)) (sym next_is) more
