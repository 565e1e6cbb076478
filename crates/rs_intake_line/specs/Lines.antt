-- What a line has sent.
use Rattle.std.specs.Prelude.{ℕ, ◌≡◌, ◌≢◌, ◌<◌, ◌≤◌, ◌+◌, ◌-◌, ◌^◌, min, ◌⊎◌, ◌∷◌, ◌++◌, suc, zero, true, false, List, [], length, Option, None}
use Rattle.atomic_table.specs.declared.badge.Badge.{Badge}
use Rattle.crossbeam_channel.specs.declared.flavors.array.Key.{Key}
use Rattle.crossbeam_channel.specs.declared.flavors.array.Doing.{Doing}
use Rattle.crossbeam_channel.specs.declared.flavors.array.Rows.{Rows}
use Rattle.crossbeam_channel.specs.Claims.{Pass, view}
use Rattle.rs_message.specs.declared.entry.TheConstants.{MAX_LINES}
use Rattle.rs_message.specs.declared.entry.Entry.{Entry}
use Rattle.rs_message.specs.declared.entry.Operation.{Operation}
use Rattle.rs_store.specs.History.{last_serial}
use Rattle.rs_intake_queue.specs.declared.rule.PassView.{PassView}
use Rattle.rs_intake_queue.specs.declared.rule.SentFrom.{SentFrom}
use Rattle.rs_intake_queue.specs.declared.job.Job.{Job}
use Rattle.rs_intake_queue.specs.declared.waiting.Gone.{Gone}
use Rattle.rs_intake_line.specs.Done.{ReplyValue}
use Rattle.rs_intake_line.specs.Names.{QueueName, IsQueue, IsIn}
use Rattle.rs_intake_queue.specs.Changes.{AreNext}
use Rattle.rs_intake_queue.specs.Parts.{before}

-- the serial after this one. The greatest u64 has none after it
abbrev pub next_serial : ℕ → ℕ
next_serial serial = min (serial + 1) (2 ^ 64 - 1)

-- A place, the last serial that was submitted there, what was sent from it and submitted; the replies that were taken, read or dropped,
-- and those that came and were not taken yet; what was sent ahead, and is not submitted yet; and the last submit's send or receive that
-- failed, if one did. The queue took what was sent and then what is ahead
pub record Line : Type 0 where
  pub place : ℕ
  pub serial : ℕ
  pub sent : List Entry
  pub heard : List ReplyValue
  pub came : List ReplyValue
  pub ahead : List Entry
  pub gone : Option Gone

-- what holds of a line's parts: its place, its last serial, what the queue took from it, and what is ahead
pub record IsSeatLine (place serial : ℕ) (taken ahead : List Entry) : Type 0 where
  pub end : taken ≡ before taken ahead ++ ahead
  pub next : AreNext place serial ahead
  pub fits : serial + length ahead < 2 ^ 64
  pub last : last_serial place taken ≤ serial + length ahead
  pub count : length taken ≤ serial + length ahead

-- the first of what is ahead does something else
abbrev pub IsOther : List Entry → Operation → Type 0
IsOther [] operation = ⊥
IsOther (e ∷ es) operation = e.operation ≢ operation

-- what is ahead of a line once the operation was submitted, by what was ahead before: the first is no more, if it does that
abbrev pub IsAheadAfter : List Entry → Operation → List Entry → Type 0
IsAheadAfter [] operation after = after ≡ []
IsAheadAfter (e ∷ es) operation after = ((e.operation ≡ operation) × (after ≡ es)) ⊎ ((e.operation ≢ operation) × (after ≡ e ∷ es))

-- a place, and what was sent from it
pub record LineSenderValue : Type 0 where
  pub place : ℕ
  pub sent : List Entry

-- the pass is that of a line of this queue
pub record IsLine {Q M L A : Type 0} (name : QueueName) (places : ℕ) (c : Rows (Badge (Key Job)) (Doing Job PassView) Q M (Key Job) L A)
    (pass : Pass Job PassView) (place sent : ℕ) : Type 0 where
  pub queue : IsQueue name c
  pub is_of_queue : IsIn name pass
  pub sends : (view pass).sends ≡ true
  pub takes : (view pass).takes ≡ false
  pub place_is : (view pass).from ≡ place
  pub number : sent ≡ length (view pass).entries
  pub from : 0 < place
  pub to : place ≤ places
  pub few : places ≤ MAX_LINES

-- nothing was sent from this place
abbrev pub new_line : ℕ → Line
new_line place = record { place = place; serial = 0; sent = []; heard = []; came = []; ahead = []; gone = None }

-- the same of each of so many places
abbrev pub new_lines : ℕ → List Line
new_lines zero = []
new_lines (suc n) = new_lines n ++ new_line (suc n) ∷ []

-- the same, or with this entry behind the others
abbrev pub AddsAtMost : List Entry → Entry → List Entry → Type 0
AddsAtMost before e after = (after ≡ before) ⊎ (after ≡ before ++ e ∷ [])

-- what the writer took, the places whose End it took, and the places of which it knows all that was sent
pub record Received : Type 0 where
  pub entries : List Entry
  pub ends : List ℕ
  pub whole : List SentFrom

-- the pass takes from this queue, whose lines are made
pub record IsTaker (name : QueueName) (places : ℕ) (pass : Pass Job PassView) : Type 0 where
  pub is_of_queue : IsIn name pass
  pub sends : (view pass).sends ≡ false
  pub takes : (view pass).takes ≡ true
  pub made : (view pass).made ≡ places
  pub some_places : 0 < places
  pub few : places ≤ MAX_LINES
