-- What the writer did between its start and some moment, and what one step does.
use Rattle.std.specs.Prelude.{ℕ, ◌≡◌, ◌+◌, ◌<◌, ◌≤◌, List, ◌∷◌, ◌++◌, [], length, Option, Some, None}
use Rattle.std.specs.List.{AllByRecursion}
use Rattle.rs_message.specs.declared.entry.Entry.{Entry}
use Rattle.rs_store.specs.History.{SerialsRise}
use Rattle.rs_version.specs.First.{AreOwn}
use Rattle.rs_version.specs.Writer.{Written, kept_of}
use Rattle.rs_intake_queue.specs.Changes.{AreOfOneJob, place_of_all}
use Rattle.rs_intake_queue.specs.QueueRule.{IsPlaced, ends_of, entries_of}
use Rattle.rs_intake_queue.specs.declared.job.Job.{Job}
use Rattle.rs_intake_queue.specs.declared.job.Job.TheVariants.{End, Put}
use Rattle.rs_intake_line.specs.Done.{AreReplied, IsWritten, ReplyValue, Told}
use Rattle.rs_intake_line.specs.Lines.{Received}
use Rattle.rs_intake_line.specs.Sending.{AreSentTo}
use Rattle.rs_intake_line.specs.Sweeps.{AreForEntries, IsKeptFrom, without_sweeps}
use Rattle.rs_intake.specs.Settling.{AreOfPlaces}
use Rattle.rs_intake.specs.declared.together.TheConstants.{MAX_TOGETHER}
use Rattle.rs_intake.specs.declared.cause.Cause.{Cause}
use Rattle.rs_intake.specs.declared.cause.Cause.TheVariants.{AllEnded, MostTaken, QueueGone}

-- what contracts see of a writer at its queue: what it kept when it began, what it published and holds, what it took, what it sent by the
-- ways back, how many entries it took, and how many of these were not appended
pub record WriterValue : Type 0 where
  pub first : List Entry
  pub writer : Written
  pub received : Received
  pub ways : List Told
  pub taken : ℕ
  pub refused : ℕ

-- Of whatever was taken by now: what is kept came of the first list by its outcomes, and each place was told those of its own entries. All
-- are of these places, the first list is the writer's own. What is kept without its Sweeps is a part of both, each Sweep is for one of what
-- was taken, and serials rise. So many were taken, and so many of them are not kept
pub record IsUnderWay (limit places : ℕ) (w : WriterValue) : Type 0 where
  pub written : IsWritten limit places w.first w.received.entries (kept_of w.writer) w.ways
  pub placed : AreOfPlaces places w.received.entries
  pub own : AreOwn w.first
  pub rises : SerialsRise w.first
  pub kept_from : IsKeptFrom limit (w.first ++ w.received.entries) (kept_of w.writer)
  pub sweeps : AreForEntries limit w.received.entries (kept_of w.writer)
  pub taken_is : w.taken ≡ length w.received.entries
  pub refused_is : length (without_sweeps (kept_of w.writer)) + w.refused ≡ w.taken + length w.first

-- What is done for a job. Each of its changes has an outcome, in their order, and the replies with these outcomes were sent next by the
-- way back to its place, unless a send failed, and nothing by any other. So many of the changes are not kept. For an End nothing is done
abbrev pub IsJobDone : ℕ → ℕ → Written → List Told → Job → ℕ → Written → List Told → Type 0
IsJobDone limit most w ways (Put changes) refused w' ways' = AreOfOneJob changes × (replies : List ReplyValue)
    × AreReplied limit most w changes replies refused w' × AreSentTo (place_of_all changes) ways replies ways'
IsJobDone limit most w ways (End place) refused w' ways' = (w' ≡ w) × (ways' ≡ ways) × (refused ≡ 0)

-- the same for each of these jobs, one after the other
abbrev pub AreJobsDone : ℕ → ℕ → Written → List Told → List Job → ℕ → Written → List Told → Type 0
AreJobsDone limit most w ways [] refused w' ways' = (w' ≡ w) × (ways' ≡ ways) × (refused ≡ 0)
AreJobsDone limit most w ways (job ∷ jobs) refused w' ways' = (next : Written) × (told : List Told) × (first rest : ℕ)
    × IsJobDone limit most w ways job first next told × AreJobsDone limit most next told jobs rest w' ways' × (refused ≡ first + rest)

-- Some jobs of places that have lines were taken behind the others, one behind the other, and done in this order. Just their changes are
-- counted as taken, and as refused those that are not kept
pub record IsStep (limit most places : ℕ) (w w' : WriterValue) : Type 0 where
  pub first : w'.first ≡ w.first
  pub jobs : List Job
  pub some : 0 < length jobs
  pub few : length (entries_of jobs) ≤ MAX_TOGETHER
  pub placed : AllByRecursion (IsPlaced places) jobs
  pub entries : w'.received.entries ≡ w.received.entries ++ entries_of jobs
  pub ends : w'.received.ends ≡ w.received.ends ++ ends_of jobs
  pub refused_in : ℕ
  pub done : AreJobsDone limit most w.writer w.ways jobs refused_in w'.writer w'.ways
  pub taken : w'.taken ≡ w.taken + length (entries_of jobs)
  pub refused : w'.refused ≡ w.refused + refused_in

-- The same, by why no job comes after. If it is not that the last End was taken, no job was taken
abbrev pub IsStepBefore : ℕ → ℕ → ℕ → Option Cause → WriterValue → WriterValue → Type 0
IsStepBefore limit most places None w w' = IsStep limit most places w w'
IsStepBefore limit most places (Some AllEnded) w w' = IsStep limit most places w w'
IsStepBefore limit most places (Some MostTaken) w w' = w' ≡ w
IsStepBefore limit most places (Some (QueueGone gone)) w w' = w' ≡ w
