-- What is known of a connection that has ended, from what is known of one that was served.
use Rattle.std.proofs.Common.{◌≡◌, ℕ, Option, Some, List, [], ◌∷◌, ◌++◌, refl, sym, subst, ◌∙◌, append-nil}
use Rattle.rs_message.specs.declared.entry.Entry.{Entry}
use Rattle.rs_store.specs.History.{IsLegal}
use Rattle.rs_server.specs.Conversation.{assigned_of, start}
use Rattle.rs_places_steps.specs.Ended.{HasEnded}
use Rattle.rs_places_steps.specs.Shared.{SharedValue}
use Rattle.rs_places_steps.specs.Turns.{Ending, IsOut, Streams}
use Rattle.rs_places_steps.specs.Visits.{IsConnectionServed, Visit}
use Rattle.rs_places_steps.proofs.Marks.{marks_through}
use Rattle.rs_places_steps.proofs.Within.{connection_within, visits_send}

-- the place stays
pub place_stays : (limit number : ℕ) (before : SharedValue) (visit : Visit) → IsConnectionServed limit number before visit → visit.gate.mark.place ≡ before.mark.place
place_stays limit number before visit one =
    one.connection.handed_on.place ∙ (marks_through _ _ _ one.connection.marks one.connection.run).place

pub has_ended : (limit place number : ℕ) (before : SharedValue) (visit : Visit) (out : Option (Option Streams)) (ending : Ending) (told : List Entry) → before.pending ≡ [] → IsConnectionServed limit number before visit
    → IsOut (Some visit.given) out → place ≡ visit.gate.mark.place → ending ≡ visit.ending → told ≡ visit.gate.known → HasEnded limit place number out ending told
has_ended limit place number before visit out ending told none one own place_is ending_is told_is =
    let L : List Entry → Type 0 = λ list. IsLegal limit list in
    record {
      before = before;
      visit = visit;
      at_place = place_is ∙ place_stays limit number before visit one;
      own = own;
      ends = ending_is;
      served = one;
      knew = told_is;
      within = connection_within limit number told before visit (subst L (sym told_is) one.connection.last_legal) one ([], told_is ∙ sym (append-nil visit.gate.known));
      none_pending = none;
      publications = visits_send limit number before (visit ∷ []) visit.gate none (one, refl);
    }
