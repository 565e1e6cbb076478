-- What contracts see of the store by a session's gate.
use Rattle.std.specs.Prelude.{◌≡◌, ℕ, ◌+◌, ◌<◌, ◌≤◌, ◌⊎◌, List, [], ◌∷◌, ◌++◌, Contains, Option, Some, None, Result, Err, OnOk}
use Rattle.std.specs.List.{All}
use Rattle.rs_message.specs.Values.{OriginValue}
use Rattle.rs_message.specs.declared.entry.Entry.{Entry}
use Rattle.rs_message.specs.declared.entry.Operation.{Operation}
use Rattle.rs_message.specs.declared.fault.SubmitFault.{SubmitFault}
use Rattle.rs_message.specs.declared.fault.SubmitFault.TheVariants.{Open, Strange}

-- a place, the last serial that it used, and the entries that it sent to the store, in their order, if they are given
pub record Mark : Type 0 where
  pub place : ℕ
  pub serial : ℕ
  pub sent : Option (List Entry)

-- the origin of the last entry that the gate made
abbrev pub last_origin : Mark → OriginValue
last_origin mark = record { place = mark.place; serial = mark.serial }

-- the entry of this operation under the mark's place and serial
abbrev pub entry_by : Operation → Mark → Entry
entry_by operation mark = record { origin = last_origin mark; operation = operation }

-- These entries were sent behind those before. Nothing is said if they are not given.
abbrev pub Sends : Option (List Entry) → List Entry → Option (List Entry) → Type 0
Sends None entries None = Unit {0}
Sends None entries (Some after) = ⊥
Sends (Some before) entries None = ⊥
Sends (Some before) entries (Some after) = after ≡ before ++ entries

-- nothing was sent, or this entry
abbrev pub SendsAtMost : Option (List Entry) → Entry → Option (List Entry) → Type 0
SendsAtMost before e after = Sends before [] after ⊎ Sends before (e ∷ []) after

-- the list extends the one before, which is a prefix of it
abbrev pub Extends : List Entry → List Entry → Type 0
Extends list seen = (more : List Entry) × (list ≡ seen ++ more)

-- each list before is a prefix of some list after, and P holds of the two
abbrev pub Grows : (List Entry → Type 0) → (List Entry → Type 0) → (List Entry → List Entry → Type 0) → Type 0
Grows before after P = (seen : List Entry) → before seen → (list : List Entry) × after list × Extends list seen × P seen list

-- the place stays, and at most one serial is used
pub record Uses (old new : Mark) : Type 0 where
  pub place : new.place ≡ old.place
  pub no_lower : old.serial ≤ new.serial
  pub no_higher : new.serial ≤ old.serial + 1

-- the list has an entry with this operation, under the new mark's serial, which was not used before, and just this entry was sent
pub record IsSubmitted (operation : Operation) (old new : Mark) (list : List Entry) : Type 0 where
  pub entry : Contains list (entry_by operation new)
  pub serial : old.serial < new.serial
  pub sent : Sends old.sent (entry_by operation new ∷ []) new.sent

-- What is handed over is this operation: of the entries that came after the list before, each of the gate's place with
-- the serial of its new mark has it.
abbrev pub IsHandedOver : Operation → Mark → List Entry → List Entry → Type 0
IsHandedOver operation new seen list = (more : List Entry) → list ≡ seen ++ more
    → All (λ e. e.origin ≡ last_origin new → e.operation ≡ operation) more

-- if it is open what became of the change, a serial was used
abbrev pub UsesIfOpen : Mark → Mark → Result (Unit {0}) SubmitFault → Type 0
UsesIfOpen old new (Err Open) = old.serial < new.serial
UsesIfOpen old new answer = Unit {0}

-- what a submit leaves, from a list before to one after: whatever it answers, no other operation is handed over; at `Ok` this one
-- is an entry; and at `Open` a serial was used
pub record Submits (operation : Operation) (old new : Mark) (answer : Result (Unit {0}) SubmitFault) (seen list : List Entry) : Type 0 where
  pub handed_over : IsHandedOver operation new seen list
  pub submitted : OnOk answer (IsSubmitted operation old new list)
  pub used : UsesIfOpen old new answer

-- Of the changes that were expected, a submit leaves none; or it submits the first, and the rest is left; or it is refused as
-- another than the first, and all are left and no serial is used.
abbrev pub TakesPending : Operation → Mark → Mark → Result (Unit {0}) SubmitFault → List Operation → List Operation → Type 0
TakesPending operation old_mark new_mark answer old new =
    (new ≡ []) ⊎ ((old ≡ operation ∷ new) ⊎ ((new ≡ old) × (answer ≡ Err Strange) × (new_mark ≡ old_mark)))

-- of gates of one type: one of them stands for the list while it has the mark
abbrev pub StandsAt : {G : Type 0} → (G → List Entry → Type 0) → (G → Mark) → Mark → List Entry → Type 0
StandsAt {G} stands mark_of mark list = (gate : G) × stands gate list × (mark_of gate ≡ mark)

-- Grows from the old gate to the new one, and P holds also of the lists by which filters were answered between.
-- For each of these a gate stood while it had the mark of the new one.
abbrev pub GrowsAnswering : {G : Type 0} → (G → List Entry → Type 0) → (G → Mark) → G → G
    → (List Entry → List (List Entry) → List Entry → Type 0) → Type 0
GrowsAnswering stands mark_of old new P =
    Grows (stands old) (stands new) (λ seen list. (answered : List (List Entry)) × All (StandsAt stands mark_of (mark_of new)) answered
    × P seen answered list)
