-- A client whose turn has no more connections, and whose line is closed.
use Rattle.std.proofs.Common.{◌≡◌, ℕ, Option, Some, None, List, [], ◌∷◌, map, refl, sym, ap, subst, ◌∙◌, append-nil as nothing_behind}
use Rattle.std.proofs.lemmas.List.{append-nil}
use Rattle.rs_message.specs.declared.entry.Entry.{Entry}
use Rattle.rs_message.specs.declared.entry.Operation.{Operation}
use Rattle.rs_intake_queue.specs.Changes.{AreOfLine}
use Rattle.rs_intake_queue.specs.Ends.{Closed, IsClosed}
use Rattle.rs_session.specs.Gate.{Sends}
use Rattle.rs_places_steps.specs.Places.{IsPlaceServed, left_at}
use Rattle.rs_places_steps.specs.Shared.{operations_of}
use Rattle.rs_places_steps.specs.Turns.{Connections, Ending, GivesNext, TookBack}
use Rattle.rs_places_steps.specs.Visits.{AreConnectionsServed, Place, ServedSoFar, Visit}
use Rattle.rs_places_steps.proofs.Visits.{all_given, took_more}

-- nothing was sent ahead, if nothing is pending
no_tail : (before : Option (List Entry)) (sent tail : List Entry) (pending : List Operation) → Sends before tail (Some sent) → operations_of tail ≡ pending → pending ≡ [] → before ≡ Some sent
no_tail None sent tail pending sends is none = absurd sends
no_tail (Some before) sent [] pending sends is none = ap (λ (l : List Entry). Some l) (sym (sends ∙ nothing_behind before))
no_tail (Some before) sent (e ∷ tail) pending sends is none =
    let more : e.operation ∷ operations_of tail ≡ [] = is ∙ none in
    absurd (cc (more))

pub place_served : (limit number : ℕ) (first now : Place) (connections : Connections) (told : List Entry) (line : Closed) → ServedSoFar limit first number now → GivesNext now.connections None connections
    → told ≡ now.gate.known → line.place ≡ now.gate.mark.place → ((tail : List Entry) × Sends now.gate.mark.sent tail (Some line.sent) × (operations_of tail ≡ now.gate.pending))
    → IsClosed line.place line.ends line.gone → AreOfLine line.place line.sent → IsPlaceServed limit first (left_at connections told line)
place_served limit number first now connections told line so_far next told_is place sent closed of_line =
    let P : List Visit → Type 0 = λ l. AreConnectionsServed limit 1 first.gate l now.gate in
    let Q : List Ending → Type 0 = λ l. TookBack first.connections.ended l connections.ended in
    record {
      visits = so_far.visits;
      last = now.gate;
      connections = subst P (append-nil so_far.visits) (so_far.extends [] now.gate refl);
      all = all_given first.connections.waiting now.connections.waiting (map (λ (v : Visit). v.given) so_far.visits) so_far.given next.waiting;
      ended = subst Q (append-nil (map (λ (v : Visit). v.ending) so_far.visits))
          (took_more first.connections.ended now.connections.ended connections.ended (map (λ (v : Visit). v.ending) so_far.visits) [] so_far.ended next.ended);
      told = told_is;
      number = place ∙ so_far.place;
      sent = no_tail now.gate.mark.sent line.sent sent.0 now.gate.pending sent.1 sent.2 so_far.pending;
      closed = closed;
      line = of_line;
    }
