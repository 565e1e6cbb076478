-- What the clients of a run whose connections are given were written.
use Rattle.std.specs.Prelude.{◌≡◌, ℕ, List, [], ◌∷◌, ◌++◌, length, Option, Some, None}
use Rattle.std.specs.List.{AllByRecursion}
use Rattle.std.specs.Io.KnownBytes.{Consumes}
use Rattle.rs_message.specs.declared.entry.Entry.{Entry}
use Rattle.rs_store.specs.History.{IsLegal}
use Rattle.rs_session.specs.Gate.{Extends, Mark}
use Rattle.rs_session.specs.Stored.{lists_of}
use Rattle.rs_session.specs.Points.{Given, Point}
use Rattle.rs_session.specs.Run.{Run, Exchange}
use Rattle.rs_session.specs.State.{State}
use Rattle.rs_server.specs.Clock.{TellsInOrder}
use Rattle.rs_server.specs.Conversation.{Causes, InputsOf, WritesReplies, inputs_of, moments_of, planned_inputs, planned_moments, start}
use Rattle.rs_places_steps.specs.Turns.{Connections, Ending, Streams}

-- The connection was answered by a session: what its client was written are the session's replies to the bytes that it sent. The list
-- that it began with, and each that a filter was answered from, is a prefix of this one. A fault that the turn was told was met.
pub record IsAnswered (history : List Entry) (given : Streams) (ending : Ending) : Type 0 where
  pub assigned : List ℕ
  pub seen : List Entry
  pub mark : Mark
  pub to : Point State
  pub exchanges : List Exchange
  pub bytes : List ℕ
  pub buffered : List ℕ
  pub planned : List Given
  pub left : List ℕ
  pub run : Run (start assigned seen mark) exchanges to
  pub read : Consumes given.unread ending.streams.unread bytes
  pub inputs : InputsOf (inputs_of exchanges) bytes buffered
  -- what was decoded behind the last exchange's packet and not handled
  pub whole : InputsOf (planned_inputs planned) buffered left
  pub moments : TellsInOrder given.moments ending.streams.moments (moments_of exchanges ++ planned_moments planned)
  pub replies : WritesReplies ending.result given.written ending.streams.written exchanges
  pub first : Extends history seen
  pub lists : AllByRecursion (λ list. Extends history list) (lists_of exchanges)
  pub cause : Causes ending.result 0 ending.read_failures 0 ending.write_failures

-- each was answered, one after the other
abbrev pub EachAnswered : List Entry → List Streams → List Ending → Type 0
EachAnswered history [] [] = Unit {0}
EachAnswered history [] (ending ∷ endings) = ⊥
EachAnswered history (given ∷ more) [] = ⊥
EachAnswered history (given ∷ more) (ending ∷ endings) = IsAnswered history given ending × EachAnswered history more endings

-- All that waited at a place, which is given, and nothing else, if it is given what ended: the first list is what waited, the others are
-- what had ended before and what has ended now.
abbrev pub IsPlaceAnswered : List Entry → Option (List Streams) → Option (List Ending) → Option (List Ending) → Type 0
IsPlaceAnswered history None before after = ⊥
IsPlaceAnswered history (Some waiting) before None = Unit {0}
IsPlaceAnswered history (Some waiting) None (Some all) = ⊥
IsPlaceAnswered history (Some waiting) (Some ended) (Some all) = (endings : List Ending) × (all ≡ ended ++ endings)
    × EachAnswered history waiting endings

-- the same of all places
abbrev pub ArePlacesAnswered : List Entry → List Connections → List Connections → Type 0
ArePlacesAnswered history [] [] = Unit {0}
ArePlacesAnswered history [] (after ∷ more) = ⊥
ArePlacesAnswered history (before ∷ rest) [] = ⊥
ArePlacesAnswered history (before ∷ rest) (after ∷ more) = IsPlaceAnswered history before.waiting before.ended after.ended
    × ArePlacesAnswered history rest more

-- of one legal history, of which so many entries were published
pub record AreAnswered (limit : ℕ) (before after : List Connections) (version : ℕ) : Type 0 where
  pub history : List Entry
  pub legal : IsLegal limit history
  pub published : List Entry
  pub first : Extends history published
  pub entries : version ≡ length published
  pub places : ArePlacesAnswered history before after
