-- Jobs that are taken one behind the other, and the list of all their changes.
use Rattle.std.specs.Prelude.{ℕ, ◌≡◌, ◌≤◌, Bool, List, [], ◌∷◌, length, take, drop}
use Rattle.rs_message.specs.declared.entry.Entry.{Entry}
use Rattle.rs_intake_queue.specs.Changes.{AreOfOneJob, place_of_all}
use Rattle.rs_intake_queue.specs.declared.job.Job.{Job}
use Rattle.rs_intake_queue.specs.declared.job.Job.TheVariants.{Put}

-- the place of a job, and how many changes it has
pub record PartValue : Type 0 where
  pub place : ℕ
  pub count : ℕ

-- the jobs to which these changes belong: so many of them to the first, then so many to the next
abbrev pub jobs_of : List PartValue → List Entry → List Job
jobs_of [] entries = []
jobs_of (part ∷ parts) entries = Put (take part.count entries) ∷ jobs_of parts (drop part.count entries)

-- these are all changes of such jobs, each of its place
abbrev pub AreParts : List PartValue → List Entry → Type 0
AreParts [] entries = entries ≡ []
AreParts (part ∷ parts) entries = (part.count ≤ length entries) × (part.place ≡ place_of_all (take part.count entries))
    × AreOfOneJob (take part.count entries) × AreParts parts (drop part.count entries)

-- jobs that were taken one behind the other, and whether more may come behind them
pub record GatheredValue : Type 0 where
  pub jobs : List Job
  pub is_open : Bool
