-- When the lines and the writer agree on all that was sent.
use Rattle.std.specs.Prelude.{ℕ, ◌≡◌, ◌==◌, ◌<◌, ◌≤◌, ◌+◌, List, [], ◌∷◌, ◌++◌, All, filter, length}
use mathlib.Core.List.{IsPrefix}
use Rattle.rs_message.specs.declared.entry.Entry.{Entry}
use Rattle.rs_intake_queue.specs.declared.rule.SentFrom.{SentFrom}
use Rattle.rs_intake_queue.specs.declared.job.Job.{Job}
use Rattle.rs_intake_queue.specs.QueueRule.{of_place, entries_of, HoldsNothingOf, IsOutside, SumsUp}
use Rattle.rs_intake_line.specs.Lines.{Received}
use Rattle.rs_intake_queue.specs.Ends.{Closed}

-- how many of the ends are of this place
abbrev pub ends_at : ℕ → List Closed → ℕ
ends_at place ends = length (filter (λ e. e.place == place) ends)

-- each place has one end
abbrev pub EachOnce : ℕ → List Closed → Type 0
EachOnce places ends = (place : ℕ) → 0 < place → place ≤ places → ends_at place ends ≡ 1

-- how many entries were sent in all
abbrev pub sent_in_all : List Closed → ℕ
sent_in_all [] = 0
sent_in_all (e ∷ es) = length e.sent + sent_in_all es

-- what was taken of each place is what was sent from there
abbrev pub AreTaken : List Entry → List Closed → Type 0
AreTaken taken ends = All (λ e. of_place e.place taken ≡ e.sent) ends

-- what was taken of each place is a prefix of what was sent from there
abbrev pub AreTakenInOrder : List Entry → List Closed → Type 0
AreTakenInOrder taken ends = All (λ e. IsPrefix (of_place e.place taken) e.sent) ends

-- the entries are of these places alone
abbrev pub AreOfPlaces : ℕ → List Entry → Type 0
AreOfPlaces places entries = (place : ℕ) → IsOutside places place → of_place place entries ≡ []

-- beside what the queue holds, what was taken is what was sent
abbrev pub IsBalanced : ℕ → Received → List Job → Type 0
IsBalanced places r items =
    ((place : ℕ) → IsOutside places place → of_place place (r.entries ++ entries_of items) ≡ [])
    × SumsUp (λ place. of_place place (r.entries ++ entries_of items)) r.whole
    × HoldsNothingOf r.ends items

-- the same for these ends
abbrev pub BalancesWith : ℕ → List Entry → List ℕ → List Job → List Closed → Type 0
BalancesWith places taken ended items ends =
    ((place : ℕ) → IsOutside places place → of_place place (taken ++ entries_of items) ≡ [])
    × All (λ e. e.sent ≡ of_place e.place (taken ++ entries_of items)) ends
    × HoldsNothingOf ended items

-- whatever the lists of the places are, those that are whole fix what these ends sent
abbrev pub Covers : List SentFrom → List Closed → Type 0
Covers whole ends = (all : ℕ → List Entry) → SumsUp all whole → All (λ e. e.sent ≡ all e.place) ends
