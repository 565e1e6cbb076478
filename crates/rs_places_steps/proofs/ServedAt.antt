-- What is said of a connection, from what a session over its gate says.
use Rattle.std.proofs.Common.{◌≡◌, ℕ, List, [], refl, sym, subst, ◌∙◌}
use Rattle.std.specs.Prelude.{Result}
use Rattle.rs_message.specs.declared.entry.Entry.{Entry}
use Rattle.rs_message.specs.declared.entry.Operation.{Operation}
use Rattle.rs_store.specs.History.{IsLegal, SerialsRise}
use Rattle.rs_intake_queue.specs.declared.job.TheConstants.{MAX_CHANGES}
use Rattle.rs_session.specs.Gate.{Mark, StandsAt}
use Rattle.rs_session.specs.Run.{AreOfGate, Run, Exchange}
use Rattle.rs_server.proofs.Keeping.{run_lists, run_keeps}
use Rattle.rs_server.proofs.Replaying.{run_replays, replay_sends}
use Rattle.rs_session.proofs.Runs.{of_gate_weaker}
use Rattle.rs_server.proofs.Sending.{run_sends}
use Rattle.rs_session.specs.Points.{Point, point_at}
use Rattle.rs_session.specs.State.{State}
use Rattle.rs_server.specs.Conversation.{AreLeft, IsConnection, Transfer, assigned_of, gate_view, start}
use Rattle.rs_server.specs.declared.connection.Served.{Served}
use Rattle.rs_server.specs.declared.writing.ServeFault.{ServeFault}
use Rattle.rs_places_steps.specs.Serving.{IsServedAt}
use Rattle.rs_places_steps.specs.Shared.{HandsOn, Knows, SharedValue, operations_of}
use Rattle.rs_places_steps.proofs.Marks.{marks_between}

-- a gate served a connection, and was handed on
pub served_at : (limit number place : ℕ) (gate before after : SharedValue) (transfer : Transfer) (result : Result Served ServeFault) (tail : List Entry)
    → place ≡ gate.mark.place
    → IsConnection (start (assigned_of place number) gate.known gate.mark) gate.pending MAX_CHANGES (gate_view (Knows limit) (λ (g : SharedValue). g.mark) (λ (g : SharedValue). g.pending) before) transfer result
    → after.known ≡ before.known → HandsOn before.mark tail after.mark → operations_of tail ≡ before.pending → after.pending ≡ []
    → IsServedAt limit (start (assigned_of gate.mark.place number) gate.known gate.mark) gate.pending transfer result after
served_at limit number place gate before after transfer result tail place_is (state, planned, left, few, talk, ends) known_is hands_on is none =
    let conversation = talk.conversation in
    let exchanges = conversation.exchanges in
    let from = start (assigned_of gate.mark.place number) gate.known gate.mark in
    let to = point_at state after.known before.mark in
    let known : conversation.seen ≡ after.known = sym (known_is ∙ conversation.stood_for.known) in
    let P : ℕ → Type 0 = λ p. Run (start (assigned_of p number) gate.known gate.mark) exchanges (point_at state conversation.seen before.mark) in
    let Q : List Entry → Type 0 = λ list. Run from exchanges (point_at state list before.mark) in
    let run : Run from exchanges to = subst Q known (subst P place_is conversation.run) in
    let A : ℕ → Type 0 = λ p. AreLeft (start (assigned_of p number) gate.known gate.mark) exchanges planned before.pending in
    let T : List Operation → Type 0 = λ l. AreLeft from exchanges planned l in
    let L : List Entry → Type 0 = λ list. IsLegal limit list in
    let legal : AreOfGate (λ mark list. IsLegal limit list) exchanges = of_gate_weaker _ (λ mark list. IsLegal limit list) exchanges (λ mark list h. h.1.legal) conversation.of_gate in
    let rises : AreOfGate (λ mark list. SerialsRise list) exchanges = of_gate_weaker (λ mark list. IsLegal limit list) (λ mark list. SerialsRise list) exchanges (λ mark list h. h.rises) legal in
    let R : List Exchange → Type 0 = λ ts. Run from ts to in
    let S : List Exchange → Type 0 = λ ts. AreOfGate (λ mark list. SerialsRise list) ts in
    record {
      exchanges = exchanges;
      state = state;
      mark = before.mark;
      bytes = conversation.bytes;
      buffered = talk.buffered;
      planned = planned;
      few = few;
      left = left;
      run = run;
      read = conversation.read;
      inputs = conversation.inputs;
      whole = talk.whole;
      moments = conversation.moments;
      replies = conversation.replies;
      ends = ends;
      legal = legal;
      last_legal = subst L known conversation.stood_for.legal;
      lists = run_lists from to exchanges run;
      stored = λ before exchange later o p answer whole is_open told. run_keeps from to before exchange later o p answer (subst R whole run) (subst S whole rises) is_open told;
      marks = λ before between later whole. marks_between from to exchanges before between later run whole;
      publications = run_sends from to exchanges run;
      tail = tail;
      handed_on = hands_on;
      none_pending = none;
      tail_is = λ nothing. subst T (sym is) (subst A place_is (talk.expected nothing));
      sent = λ connect opens. let made = run_replays (assigned_of gate.mark.place number) from to exchanges connect refl run opens in (made, replay_sends connect exchanges made);
    }

-- what a gate served, by what contracts see of the gate
pub seen_as_shared : {G : Type 0} (stands : G → List Entry → Type 0) (mark : G → Mark) (pending : G → List Operation) (shared : G → SharedValue) (limit most : ℕ)
    → ((gate : G) (list : List Entry) → stands gate list → Knows limit (shared gate) list) → ((gate : G) → (shared gate).mark ≡ mark gate) → ((gate : G) → (shared gate).pending ≡ pending gate)
    → (from : Point State) (first : List Operation) (gate : G) (transfer : Transfer) (result : Result Served ServeFault)
    → IsConnection from first most (gate_view stands mark pending gate) transfer result
    → IsConnection from first most (gate_view (Knows limit) (λ (g : SharedValue). g.mark) (λ (g : SharedValue). g.pending) (shared gate)) transfer result
seen_as_shared {G} stands mark pending shared limit most knows same_mark same_pending from first gate transfer result (state, planned, left, few, talk, ends) =
    let c = talk.conversation in
    let outer : Mark → List Entry → Type 0 = StandsAt stands mark in
    let inner : Mark → List Entry → Type 0 = StandsAt (Knows limit) (λ (g : SharedValue). g.mark) in
    let R : Mark → Type 0 = λ m. Run from c.exchanges (point_at state c.seen m) in
    let A : List Operation → Type 0 = λ l. AreLeft from c.exchanges planned l in
    let k : Knows limit (shared gate) c.seen = knows gate c.seen c.stood_for in (
      state,
      planned,
      left,
      few,
      record {
        buffered = talk.buffered;
        conversation = record {
          exchanges = c.exchanges;
          seen = c.seen;
          bytes = c.bytes;
          run = subst R (sym (same_mark gate)) c.run;
          of_gate = of_gate_weaker outer inner c.exchanges (λ m list h. (shared h.0, knows h.0 list h.1, same_mark h.0 ∙ h.2)) c.of_gate;
          stood_for = record { known = k.known; legal = k.legal };
          read = c.read;
          inputs = c.inputs;
          moments = c.moments;
          replies = c.replies;
        };
        whole = talk.whole;
        expected = λ none. subst A (sym (same_pending gate)) (talk.expected none);
      },
      ends,
    )
