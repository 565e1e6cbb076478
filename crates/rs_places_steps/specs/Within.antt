-- What connections one after the other saw of one history, and what they sent.
use Rattle.std.specs.Prelude.{◌≡◌, ℕ, List, [], ◌∷◌, ◌++◌}
use Rattle.std.specs.List.{AllByRecursion}
use Rattle.rs_packet.specs.declared.packet.Publish.{Publish}
use Rattle.rs_packet.specs.declared.reply.Reply.{Reply}
use Rattle.rs_message.specs.declared.entry.Entry.{Entry}
use Rattle.rs_session.specs.Gate.{Extends}
use Rattle.rs_session.specs.Points.{Point}
use Rattle.rs_session.specs.Run.{Exchange}
use Rattle.rs_session.specs.Sent.{AreSentBy}
use Rattle.rs_session.specs.State.{State}
use Rattle.rs_session.specs.Stored.{IsStoredIn, IsToldStored, lists_of, point_after}
use Rattle.rs_session.specs.declared.open.Open.{Open}
use Rattle.rs_session.specs.declared.phase.Phase.TheVariants as phase
use Rattle.rs_server.specs.Conversation.{AreLeft, assigned_of, start}
use Rattle.rs_places_steps.specs.Shared.{SharedValue, operations_of}
use Rattle.rs_places_steps.specs.Visits.{Visit, next_number}

-- From this point a connection was served. The list that it began with, and each that it was answered from, is a prefix of this one, in
-- which each retained publication that the client was told is stored stands once.
pub record IsWithin (list : List Entry) (from : Point State) (visit : Visit) : Type 0 where
  pub first : Extends list from.seen
  pub lists : AllByRecursion (λ seen. Extends list seen) (lists_of visit.exchanges)
  pub stored : (before : List Exchange) (exchange : Exchange) (after : List Exchange) (o : Open) (p : Publish) (answer : Reply)
      → visit.exchanges ≡ before ++ exchange ∷ after
      → (point_after from before).state.phase ≡ phase.Open o → IsToldStored o exchange p answer
      → IsStoredIn (point_after from before).mark exchange p (list ∷ [])

-- the same of connections one after the other, numbered from this number on
abbrev pub AreWithin : List Entry → ℕ → SharedValue → List Visit → Type 0
AreWithin list number first [] = Unit {0}
AreWithin list number first (visit ∷ visits) =
    IsWithin list (start (assigned_of first.mark.place number) first.known first.mark) visit
    × AreWithin list (next_number number) visit.gate visits

-- What these connections send, one after the other: what their exchanges send, and behind that of each connection a tail. It is of
-- changes of publications that the connection's bytes hold behind the last packet that was handled, or of that one too, if it sent
-- nothing and ended the session.
abbrev pub ArePublications : ℕ → SharedValue → List Visit → List Entry → Type 0
ArePublications number first [] entries = entries ≡ []
ArePublications number first (visit ∷ visits) entries =
    (own : List Entry) × (tail : List Entry) × (rest : List Entry) × (entries ≡ own ++ (tail ++ rest))
    × AreSentBy (start (assigned_of first.mark.place number) first.known first.mark) visit.exchanges own
    × AreLeft (start (assigned_of first.mark.place number) first.known first.mark) visit.exchanges visit.planned (operations_of tail)
    × ArePublications (next_number number) visit.gate visits rest
