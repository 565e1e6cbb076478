-- A whole run of a store: its clients, each with a line of its own, whose number is its place, and the one history that they all saw.
use Rattle.std.specs.Prelude.{◌≡◌, ℕ, ◌+◌, ◌^◌, ◌≤◌, List, [], ◌∷◌, ◌++◌, length, map, Option, MatchOption}
use Rattle.std.specs.List.{AllZip}
use Rattle.rs_message.specs.declared.entry.Entry.{Entry}
use Rattle.rs_store.specs.History.{IsLegal}
use Rattle.rs_intake_line.specs.Done.{AreDone, Outcome, not_refused}
use Rattle.rs_intake_line.specs.Lines.{Line, new_lines}
use Rattle.rs_intake.specs.declared.cause.Cause.{Cause}
use Rattle.rs_intake.specs.declared.cause.Cause.TheVariants.{AllEnded, MostTaken, QueueGone}
use Rattle.rs_intake.specs.Settling.{AreOfPlaces, AreTaken, EachOnce, sent_in_all}
use Rattle.rs_intake_line.specs.Sweeps.{without_sweeps}
use Rattle.rs_intake_queue.specs.Ends.{Closed}
use Rattle.rs_intake_queue.specs.declared.job.TheConstants.{MAX_CHANGES}
use Rattle.rs_intake_queue.specs.Parts.{IsPart}
use Rattle.rs_intake_queue.specs.QueueRule.{of_place}
use Rattle.rs_session.specs.Gate.{Extends}
use Rattle.rs_version.specs.Writer.{Written}
use Rattle.rs_places.specs.Gates.{handed_on}
use Rattle.rs_places_steps.specs.Places.{IsPlaceServed, Left, places_of}
use Rattle.rs_places_steps.specs.Shared.{SharedValue}
use Rattle.rs_places_steps.specs.Turns.{Connections}
use Rattle.rs_places_steps.specs.Visits.{Place}
use Rattle.rs_places_steps.specs.Within.{ArePublications, AreWithin}

-- the gates of these seats and lines, which are handed on. What is left of the longer list is left out
abbrev pub gates_of : List (List Entry) → List Line → List SharedValue
gates_of [] lines = []
gates_of (seat ∷ seats) [] = []
gates_of (seat ∷ seats) (line ∷ lines) = handed_on seat line ∷ gates_of seats lines

-- the gates of so many new places, from 1 on, of a store that begins with this list. They know just that, and sent nothing
abbrev pub new_gates : List Entry → ℕ → List SharedValue
new_gates first places = map (λ line. handed_on first line) (new_lines places)

-- What a place's line sent, over a store with this history, whose writer took these entries.
pub record IsLineOf (history entries : List Entry) (line : Closed) : Type 0 where
  -- what the writer took of the place is a prefix of that
  pub taken : Extends line.sent (of_place line.place entries)
  -- what the history has of the place, but for the Sweeps, is a part of what it sent, in order, each at most once
  pub part : IsPart (of_place line.place (without_sweeps history)) line.sent

-- A place was served its turn, over a store with this history, whose writer took these entries.
pub record IsPlaceOf (limit : ℕ) (history entries : List Entry) (place : Place) (left : Left) : Type 0 where
  -- all its connections were served, in their order, and each was taken back as it ended
  pub served : IsPlaceServed limit place left
  -- Each list that a filter of a connection was answered from is a prefix of the history. Each retained publication that its client
  -- was told is stored stands there once
  pub within : AreWithin history 1 place.gate served.visits
  -- so is the list that the place knew last
  pub known : Extends history left.told
  -- What the place sent are the retained publications of its connections, in order, each at most once, and each that its client was
  -- told is stored; and behind those of each connection at most publications that its bytes hold behind the last one handled.
  pub publications : ArePublications 1 place.gate served.visits left.line.sent
  -- what became of that
  pub line : IsLineOf history entries left.line
  pub open line use *

-- so many changes are settled: each place has one of these lines, all that it sent was taken, and these are all that were taken
pub record IsSettled (places : ℕ) (entries : List Entry) (lines : List Closed) (changes : ℕ) : Type 0 where
  pub once : EachOnce places lines
  pub taken : AreTaken entries lines
  pub entries_are : changes ≡ length entries
  pub sent : changes ≡ sent_in_all lines

-- these lines sent another number of entries than these
abbrev pub IsUnsettled : List Entry → List Closed → Type 0
IsUnsettled entries lines = ¬ (sent_in_all lines ≡ length entries)

-- What is known by why the writer ended that took these entries of what these lines sent: all that they sent was taken; or so many were that
-- one more job could have more than it can count; or a receive failed, of which no more is known
abbrev pub IsEndOfRun : List Entry → List Closed → Cause → Type 0
IsEndOfRun taken lines AllEnded = AreTaken taken lines
IsEndOfRun taken lines MostTaken = 2 ^ 64 ≤ length taken + MAX_CHANGES
IsEndOfRun taken lines (QueueGone gone) = Unit {0}

-- The writer of a run over so many places, whose store began with this list, published so many entries. It holds at most so many.
pub record IsWriterRun (most_held limit places : ℕ) (first : List Entry) (version : ℕ) : Type 0 where
  -- There is one legal history, the list that the writer keeps, which begins with the first list. So many entries of it were published,
  -- from the first on: all, or all but the last ones, which are held then. They would be published before any other.
  pub history : List Entry
  pub legal : IsLegal limit history
  pub begins : Extends history first
  pub published : List Entry
  pub held : List Entry
  pub few : length held ≤ most_held
  pub whole : history ≡ published ++ held
  pub entries : version ≡ length published
  -- The writer took these entries, and each has an outcome. By these the history came of the first list. All of it but the Sweeps are the
  -- first list, and then the entries that were not refused.
  pub taken : List Entry
  pub outcomes : List Outcome
  pub done : AreDone limit first taken outcomes history
  pub not_refused_are : without_sweeps history ≡ first ++ not_refused taken outcomes
  -- the entries that it took are of these places alone
  pub placed : AreOfPlaces places taken
  -- so of each place it has what was taken of the place less what was refused
  pub not_refused_of : (place : ℕ) → of_place place (without_sweeps history) ≡ of_place place (first ++ not_refused taken outcomes)

-- A store that began with this list was run over so many new places, each of them a client's line. Each place served its turn, from that
-- before to that after; the writer published so many entries, and ended for this cause; and so many changes are settled, or it is known
-- that not all were taken. Nothing is said of seats and of threads, of which there may be fewer.
pub record IsStoreRun (most_held limit places : ℕ) (first : List Entry) (before after : List Connections) (version : ℕ) (changes : Option ℕ)
    (cause : Cause) : Type 0 where
  -- the history, and what the writer took and published
  pub writer : IsWriterRun most_held limit places first version
  pub open writer use *
  -- of each place: its connections, what they saw, what they sent, and what became of that
  pub left : List Left
  pub each : AllZip (IsPlaceOf limit history taken) (places_of before (new_gates first places)) left
  pub count : length left ≡ places
  pub turns : after ≡ map (λ end. end.connections) left
  pub ended : IsEndOfRun taken (map (λ end. end.line) left) cause
  -- all that the places sent was taken, once; no number is given only if another number was sent than taken
  pub settled : MatchOption changes (IsUnsettled taken (map (λ end. end.line) left)) (IsSettled places taken (map (λ end. end.line) left))

-- The same of a run whose writer has published and holds this at its end.
pub record IsRunTo (most_held limit places : ℕ) (first : List Entry) (before after : List Connections) (w : Written) (version : ℕ)
    (changes : Option ℕ) (cause : Cause) : Type 0 where
  pub run : IsStoreRun most_held limit places first before after version changes cause
  pub published : run.writer.published ≡ w.published
  pub held : run.writer.held ≡ w.held
