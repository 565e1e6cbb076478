-- The rule of the queue to the writer.
use Rattle.std.specs.Prelude.{ℕ, ◌≡◌, ◌==◌, ◌+◌, ◌<◌, ◌≤◌, ◌⊎◌, true, false, List, [], ◌∷◌, ◌++◌, length, filter, filter_map}
use Rattle.std.specs.List.{AllByRecursion, flat_map}
use Rattle.std.specs.Prelude as std
use mathlib.Core.Option.{Option, some, none}
use lib.ListN.{get_elem?}
use Rattle.rs_store.specs.History.{SerialsRise, last_serial}
use Rattle.rs_message.specs.declared.entry.Entry.{Entry}
use Rattle.rs_intake_queue.specs.Changes.{AreOf}
use Rattle.rs_intake_queue.specs.declared.rule.PassView.{PassView}
use Rattle.rs_intake_queue.specs.declared.rule.SentFrom.{SentFrom}
use Rattle.rs_intake_queue.specs.declared.job.Job.{Job}
use Rattle.rs_intake_queue.specs.declared.job.Job.TheVariants.{Put, End}

-- the entries of a place, in order
abbrev pub of_place : ℕ → List Entry → List Entry
of_place place entries = filter (λ e. e.origin.place == place) entries

-- the entries that the job asks for. An End asks for none
abbrev pub entries_in : Job → List Entry
entries_in (Put es) = es
entries_in (End place) = []

-- the entries that the jobs ask for, in their order
abbrev pub entries_of : List Job → List Entry
entries_of jobs = flat_map entries_in jobs

abbrev pub end_of : Job → std.Option ℕ
end_of (Put es) = std.None
end_of (End place) = std.Some place

-- the places of the Ends among the jobs
abbrev pub ends_of : List Job → List ℕ
ends_of jobs = filter_map end_of jobs

-- those that are this place
abbrev pub at_place : ℕ → List ℕ → List ℕ
at_place place ends = filter (λ p. p == place) ends

-- the job is of this place, and so is each entry that it asks for
abbrev pub IsOf : ℕ → Job → Type 0
IsOf place (Put es) = AreOf place es
IsOf place (End p) = p ≡ place

-- each serial is above those of its place before it
abbrev pub AreAbove : List Entry → List Entry → Type 0
AreAbove entries [] = Unit {0}
AreAbove entries (e ∷ es) = (last_serial e.origin.place entries < e.origin.serial) × AreAbove (entries ++ e ∷ []) es

-- the job's serials are above those of its place before it, and so is each of them above those of the same job
abbrev pub IsAbove : List Entry → Job → Type 0
IsAbove entries (Put es) = AreAbove entries es
IsAbove entries (End place) = Unit {0}

-- the writer has taken nothing
abbrev pub taker : PassView
taker = record { from = 0; sends = false; takes = true; made = 0; entries = []; ends = []; known = [] }

-- the pass with one more job
abbrev pub job_more : PassView → Job → PassView
job_more v job = record {
  from = v.from;
  sends = v.sends;
  takes = v.takes;
  made = v.made;
  entries = v.entries ++ entries_in job;
  ends = v.ends ++ ends_of (job ∷ []);
  known = v.known;
}

abbrev pub Sends : PassView → Job → PassView → Type 0
Sends v job w = w ≡ job_more v job

-- a place that has no line yet
abbrev pub IsOutside : ℕ → ℕ → Type 0
IsOutside made place = (place ≡ 0) ⊎ (made < place)

-- each place has one End at most, and a place that has no line has none
abbrev pub AreEnds : ℕ → List ℕ → Type 0
AreEnds made ends = (place : ℕ) → (length (at_place place ends) ≤ 1) × (IsOutside made place → at_place place ends ≡ [])

-- the job, and each entry that it asks for, is of a place that has a line
abbrev pub IsPlaced : ℕ → Job → Type 0
IsPlaced made (Put es) = AllByRecursion (λ e. ¬ IsOutside made e.origin.place) es
IsPlaced made (End place) = ¬ IsOutside made place

-- the job is of a place that has a line. The serials of all that was taken rise, and each place has one End at most
abbrev pub Takes : PassView → Job → PassView → Type 0
Takes v job w = (w ≡ job_more v job) × SerialsRise w.entries × AreEnds w.made w.ends × IsPlaced v.made job

-- of each of these places the whole of what was sent is known, and its line is gone
abbrev pub AreWhole : (ℕ → Option ℕ) → (ℕ → List Entry) → List SentFrom → Type 0
AreWhole line sent [] = Unit {0}
AreWhole line sent (k ∷ ks) = (line k.place ≡ none) × (k.entries ≡ sent k.place) × AreWhole line sent ks

-- each place has one pass, which knows what was sent from there
abbrev pub FitsLine : (ℕ → Option ℕ) → (ℕ → List Entry) → ℕ → PassView → Type 0
FitsLine line sent pass v = v.sends ≡ true → (line v.from ≡ some pass) × (v.entries ≡ sent v.from)

-- one pass takes, and knows what was taken, and which places have no line
abbrev pub FitsTaker : (ℕ → Option ℕ) → (ℕ → List Entry) → ℕ → List Entry → ℕ → PassView → Type 0
FitsTaker line sent writer taken pass v = v.takes ≡ true
    → (pass ≡ writer) × (v.entries ≡ taken)
    × ((place : ℕ) → IsOutside v.made place → (line place ≡ none) × (sent place ≡ []))
    × AreWhole line sent v.known

-- what was sent from each place is what was taken of it, and then what the queue holds of it
abbrev pub Delivers : List Job → List PassView → Type 0
Delivers items views =
    (writer : ℕ) × (line : ℕ → Option ℕ) × (sent : ℕ → List Entry) × (taken : List Entry)
    × ((place : ℕ) → of_place place (taken ++ entries_of items) ≡ sent place)
    × ((pass : ℕ) (v : PassView) → get_elem? views pass ≡ some v → FitsLine line sent pass v × FitsTaker line sent writer taken pass v)
    × SerialsRise (taken ++ entries_of items)

-- behind an End is no entry of its place
abbrev pub AreLast : List Job → Type 0
AreLast [] = Unit {0}
AreLast (Put es ∷ jobs) = AreLast jobs
AreLast (End place ∷ jobs) = (of_place place (entries_of jobs) ≡ []) × AreLast jobs

-- a line knows which End it sent
abbrev pub ClosesLine : List ℕ → PassView → Type 0
ClosesLine ends v = v.sends ≡ true → v.ends ≡ at_place v.from ends

-- the writer knows which Ends it took. A place that has no line has none
abbrev pub ClosesTaker : List ℕ → List ℕ → PassView → Type 0
ClosesTaker ended ends v = v.takes ≡ true → (v.ends ≡ ended) × ((place : ℕ) → IsOutside v.made place → at_place place ends ≡ [])

-- of a place whose End was taken the queue holds nothing
abbrev pub HoldsNothingOf : List ℕ → List Job → Type 0
HoldsNothingOf ended items = (place : ℕ) → (at_place place ended ≡ []) ⊎ (of_place place (entries_of items) ≡ [])

-- each line sends one End at most, and nothing behind it: neither in the queue, nor behind an End that was taken
abbrev pub Closes : List Job → List PassView → Type 0
Closes items views =
    (ended : List ℕ)
    × ((place : ℕ) → length (at_place place (ended ++ ends_of items)) ≤ 1)
    × ((pass : ℕ) (v : PassView) → get_elem? views pass ≡ some v → ClosesLine (ended ++ ends_of items) v
    × ClosesTaker ended (ended ++ ends_of items) v)
    × AreLast items
    × HoldsNothingOf ended items

-- the whole rule
abbrev pub Keeps : List Job → List PassView → Type 0
Keeps items views = Delivers items views × Closes items views

-- the writer's pass with a line more, and that line's
abbrev pub one_line_more : PassView → PassView
one_line_more v = record {
  from = v.from;
  sends = v.sends;
  takes = v.takes;
  made = v.made + 1;
  entries = v.entries;
  ends = v.ends;
  known = v.known;
}

abbrev pub new_line : PassView → PassView
new_line v = record { from = v.made + 1; sends = true; takes = false; made = 0; entries = []; ends = []; known = [] }

-- the writer's pass once it has taken in a line's, and what is left of that one
abbrev pub one_line_less : PassView → PassView → PassView
one_line_less v w = record {
  from = v.from;
  sends = v.sends;
  takes = v.takes;
  made = v.made;
  entries = v.entries;
  ends = v.ends;
  known = record { place = w.from; entries = w.entries } ∷ v.known;
}

abbrev pub spent : PassView
spent = record { from = 0; sends = false; takes = false; made = 0; entries = []; ends = []; known = [] }

-- of each place that is known whole: what was taken of it and what the queue holds of it are what was sent from there
abbrev pub SumsUp : (ℕ → List Entry) → List SentFrom → Type 0
SumsUp sent [] = Unit {0}
SumsUp sent (k ∷ ks) = (k.entries ≡ sent k.place) × SumsUp sent ks

-- what the rule says of the writer's pass
abbrev pub Balances : PassView → List Job → Type 0
Balances v items =
    ((place : ℕ) → IsOutside v.made place → of_place place (v.entries ++ entries_of items) ≡ [])
    × SumsUp (λ place. of_place place (v.entries ++ entries_of items)) v.known
    × HoldsNothingOf v.ends items
