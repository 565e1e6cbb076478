-- What was done with the entries that the writer took, and what their lines were told: what is sent by their ways back.
use Rattle.std.specs.Prelude.{ℕ, ◌≡◌, ◌==◌, ◌<◌, ◌≤◌, ◌-◌, ◌⊎◌, ◌||◌, Bool, true, false, cond, List, [], ◌∷◌, ◌++◌, length, slice_index_or, Option, Some, None, Result, Ok, Err}
use Rattle.std.specs.List.{AllByRecursion, filter}
use Rattle.rs_message.specs.declared.entry.Entry.{Entry}
use Rattle.rs_message.specs.declared.entry.Origin.{Origin}
use Rattle.rs_store.specs.Adding.{Adds}
use Rattle.rs_store.specs.History.{MayNotCome}
use Rattle.rs_store.specs.declared.fault.Refusal.TheVariants as refusal
use Rattle.rs_version.specs.Receipts.{ReceiptValue}
use Rattle.rs_version.specs.Writer.{PassesOver, RefusesOf, Written, kept_of, shows}
use Rattle.rs_version.specs.declared.fault.PutFault.{PutFault}
use Rattle.rs_version.specs.declared.fault.PutFault.TheVariants.{Full, Held, NoMemory, Stale}
use Rattle.rs_intake_line.specs.Sweeps.{IsSweptAtMost, without_sweeps}
use Rattle.rs_intake_queue.specs.declared.waiting.Gone.{Gone}

-- what became of an entry: a receipt, or why there is none
abbrev pub Outcome : Type 0
Outcome = Result ReceiptValue PutFault

-- what contracts see of a reply
pub record ReplyValue : Type 0 where
  pub origin : Origin
  pub outcome : Outcome

-- the receipt is for this entry, as the last of this list, and its token is of the list
abbrev pub IsReceiptFor : Entry → ReceiptValue → List Entry → Type 0
IsReceiptFor entry r kept = (r.entry ≡ entry) × (r.number ≡ length kept) × (r.told ≡ kept)

-- What a put of the entry leaves, by its outcome. A receipt: the entry is published, behind the Sweep that it needs, and nothing is held.
-- A refusal: what it says of the published list and of what is held
abbrev pub IsPut : ℕ → Written → Entry → Outcome → Written → Type 0
IsPut limit w entry (Ok r) w' = Adds limit (kept_of w) entry (λ list. w' ≡ shows list) × IsReceiptFor entry r w'.published
IsPut limit w entry (Err f) w' = RefusesOf limit w entry f w'

-- What the outcome of an entry says of the kept list before the entry and after it. A receipt, 33: the entry follows, behind the Sweep that
-- it needs, if it needs one. 30: the entry may not come, and the list is the same. 32: the list is the same, or has the Sweep that the
-- entry needs. 31 never comes
abbrev pub IsDone : ℕ → List Entry → Entry → Outcome → List Entry → Type 0
IsDone limit kept entry (Ok r) kept' = Adds limit kept entry (λ list. kept' ≡ list) × IsReceiptFor entry r kept'
IsDone limit kept entry (Err Held) kept' = Adds limit kept entry (λ list. kept' ≡ list)
IsDone limit kept entry (Err Full) kept' = MayNotCome limit kept entry refusal.Full × (kept' ≡ kept)
IsDone limit kept entry (Err NoMemory) kept' = IsSweptAtMost limit kept entry kept'
IsDone limit kept entry (Err Stale) kept' = ⊥

-- one outcome for each entry, in their order: from the first list on, each says what the entry made of the kept list, and the last
-- list comes of it
abbrev pub AreDone : ℕ → List Entry → List Entry → List Outcome → List Entry → Type 0
AreDone limit kept [] [] kept' = kept' ≡ kept
AreDone limit kept (entry ∷ entries) (outcome ∷ outcomes) kept' = (next : List Entry) × IsDone limit kept entry outcome next
    × AreDone limit next entries outcomes kept'
AreDone limit kept [] (outcome ∷ outcomes) kept' = ⊥
AreDone limit kept (entry ∷ entries) [] kept' = ⊥

-- the entry is not put: it is not kept, and nothing changed, or it is held
abbrev pub IsPassedOver : ℕ → Written → Entry → Outcome → Written → Type 0
IsPassedOver limit w entry (Ok r) w' = ⊥
IsPassedOver limit w entry (Err f) w' = PassesOver limit w entry f w'

-- What was done with an entry, and what is published and held then: it was put; or it was not, since one before it of its job is held, or
-- since memory for the replies was refused
abbrev pub IsOutcome : ℕ → Written → Entry → Outcome → Written → Type 0
IsOutcome limit w entry outcome w' = IsPut limit w entry outcome w' ⊎ IsPassedOver limit w entry outcome w'

-- the same for these entries, one after the other
abbrev pub AreOutcomes : ℕ → Written → List Entry → List Outcome → Written → Type 0
AreOutcomes limit w [] [] w' = w' ≡ w
AreOutcomes limit w (entry ∷ entries) (outcome ∷ outcomes) w' = (next : Written) × IsOutcome limit w entry outcome next
    × AreOutcomes limit next entries outcomes w'
AreOutcomes limit w [] (outcome ∷ outcomes) w' = ⊥
AreOutcomes limit w (entry ∷ entries) [] w' = ⊥

-- whether the outcome says that the entry is not kept
abbrev pub is_refused : Outcome → Bool
is_refused (Ok r) = false
is_refused (Err Held) = false
is_refused (Err Full) = true
is_refused (Err NoMemory) = true
is_refused (Err Stale) = true

-- how many of the outcomes say so
abbrev pub refused_in : List Outcome → ℕ
refused_in outcomes = length (filter is_refused outcomes)

-- the entries that were not refused, in their order
abbrev pub not_refused : List Entry → List Outcome → List Entry
not_refused [] outcomes = []
not_refused (entry ∷ entries) [] = []
not_refused (entry ∷ entries) (outcome ∷ outcomes) = cond (is_refused outcome) (not_refused entries outcomes)
    (entry ∷ not_refused entries outcomes)

-- whether the outcome says that the entry is held
abbrev pub is_held : Outcome → Bool
is_held (Ok r) = false
is_held (Err Held) = true
is_held (Err Full) = false
is_held (Err NoMemory) = false
is_held (Err Stale) = false

-- whether one of the outcomes says so
abbrev pub has_held : List Outcome → Bool
has_held [] = false
has_held (outcome ∷ outcomes) = is_held outcome || has_held outcomes

-- the outcome is that memory was refused; or, of a writer that may hold more than one entry, that the entry is held
abbrev pub IsBehindHeld : ℕ → Outcome → Type 0
IsBehindHeld most outcome = (outcome ≡ Err NoMemory) ⊎ ((outcome ≡ Err Held) × (2 ≤ most))

-- the same of each outcome behind one that says that the entry is held, of a writer that holds so many entries at most
abbrev pub AreRefusedBehind : ℕ → List Outcome → Type 0
AreRefusedBehind most [] = Unit {0}
AreRefusedBehind most (outcome ∷ outcomes) = (is_held outcome ≡ true → AllByRecursion (IsBehindHeld most) outcomes)
    × AreRefusedBehind most outcomes

-- the replies that have these outcomes, one to each entry
abbrev pub replies_to : List Entry → List Outcome → List ReplyValue
replies_to [] outcomes = []
replies_to (entry ∷ entries) [] = []
replies_to (entry ∷ entries) (outcome ∷ outcomes) = record { origin = entry.origin; outcome = outcome } ∷ replies_to entries outcomes

-- what the writer's end of a way back knows: the replies that it sent, and the send that failed, behind which it sends none
pub record Told : Type 0 where
  pub sent : List ReplyValue
  pub gone : Option Gone

-- of these replies, the first were sent: all of them, unless a send failed, and then not all
abbrev pub AreSent : List ReplyValue → List ReplyValue → Option Gone → Type 0
AreSent replies sent None = sent ≡ replies
AreSent replies sent (Some gone) = (unsent : List ReplyValue) × (0 < length unsent) × (replies ≡ sent ++ unsent)

-- the replies to entries of this place, in their order
abbrev pub replies_for : ℕ → List ReplyValue → List ReplyValue
replies_for place replies = filter (λ r. r.origin.place == place) replies

-- a way back by which nothing was sent
abbrev pub untold : Told
untold = record { sent = []; gone = None }

-- the way back to this place. That of place 1 is the first
abbrev pub way_to : ℕ → List Told → Told
way_to place ways = slice_index_or ways (place - 1) untold

-- There is a way back to each of so many places. By each, those of these replies were sent that are to entries of its place, in their
-- order: all of them, unless a send failed, and then a prefix of them
pub record AreTold (places : ℕ) (replies : List ReplyValue) (ways : List Told) : Type 0 where
  pub count : length ways ≡ places
  pub each : (place : ℕ) → 0 < place → place ≤ places
      → AreSent (replies_for place replies) (way_to place ways).sent (way_to place ways).gone

-- There are outcomes, one for each entry, in their order, by which this list came of the first one, and by these ways back each place was
-- told those of its own entries. Without its Sweeps the list is the first one, and then the entries that were not refused
pub record IsWritten (limit places : ℕ) (first entries kept : List Entry) (ways : List Told) : Type 0 where
  pub outcomes : List Outcome
  pub done : AreDone limit first entries outcomes kept
  pub changes : without_sweeps kept ≡ first ++ not_refused entries outcomes
  pub told : AreTold places (replies_to entries outcomes) ways

-- There are outcomes of these entries, one for each, in their order, which say what was done with them, one after the other; these are the
-- replies that have them, and so many of the entries are not kept. Behind an entry that is held the others of these are refused, or held if the
-- writer may hold more than one
pub record AreReplied (limit most : ℕ) (w : Written) (entries : List Entry) (replies : List ReplyValue) (refused : ℕ)
    (w' : Written) : Type 0 where
  pub outcomes : List Outcome
  pub done : AreDone limit (kept_of w) entries outcomes (kept_of w')
  pub outcomes_are : AreOutcomes limit w entries outcomes w'
  pub behind : AreRefusedBehind most outcomes
  pub replies_are : replies ≡ replies_to entries outcomes
  pub refused_are : refused ≡ refused_in outcomes

-- the reply that memory was refused
abbrev pub refused_reply : Entry → ReplyValue
refused_reply entry = record { origin = entry.origin; outcome = Err NoMemory }
