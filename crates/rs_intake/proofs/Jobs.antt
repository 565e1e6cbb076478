-- Jobs that are taken one behind the other, and done one after the other.
use Rattle.std.proofs.Common.{◌≡◌, ◌<◌, ◌≤◌, ◌+◌, ◌-◌, ℕ, zero, suc, true, List, [], ◌∷◌, ◌++◌, length, take, drop, refl, sym, ap, subst, ◌∙◌, append-nil, append_assoc, length-append, inl, ⊎_elim, Option, None, Some, arith}
use Rattle.std.specs.Prelude.{is_none, option_to_list}
use Rattle.std.specs.List.{AllByRecursion}
use Rattle.std.proofs.Math.Seq.{drop-append_seam, take-append_seam}
use Rattle.std.proofs.lemmas.List.{drop-append-le, length-set, take-append-drop, take-append-le}
use Rattle.std.proofs.lemmas.List.Elements.{filter_map-append}
use Rattle.std.proofs.lemmas.Grind.{flat_map-append}
use Rattle.rs_message.specs.declared.entry.Entry.{Entry}
use Rattle.rs_store.proofs.Entries.{all_append}
use Rattle.rs_store.specs.History.{SerialsRise}
use Rattle.rs_version.specs.Writer.{IsReadyFor, Written, kept_of}
use Rattle.rs_intake_queue.specs.Changes.{AreOfOneJob, ArePlain, place_of_all}
use Rattle.rs_intake_queue.specs.QueueRule.{IsPlaced, end_of, ends_of, entries_in, entries_of}
use Rattle.rs_intake_queue.specs.declared.job.Job.{Job}
use Rattle.rs_intake_queue.specs.declared.job.Job.TheVariants.{End, Put}
use Rattle.rs_intake_queue.proofs.Parts.{part_front, part_rises}
use Rattle.rs_intake_line.specs.Done.{AreReplied, ReplyValue, Told}
use Rattle.rs_intake_line.specs.Sending.{AreSentTo, AreToPut}
use Rattle.rs_intake_line.specs.Sweeps.{IsKeptFrom}
use Rattle.rs_intake.specs.Together.{AreParts, GatheredValue, PartValue, jobs_of}
use Rattle.rs_intake.specs.Writers.{AreJobsDone, IsJobDone, IsStep, IsStepBefore, IsUnderWay, WriterValue}
use Rattle.rs_intake.specs.declared.cause.Cause.{Cause}
use Rattle.rs_intake.specs.declared.cause.Cause.TheVariants.{AllEnded}
use Rattle.rs_intake.specs.Settling.{AreOfPlaces}
use Rattle.rs_intake.proofs.Causes.{placed_first}
use Rattle.rs_intake.proofs.First.{rises_behind}
use Rattle.rs_intake.proofs.Sums.{placed_more}
use Rattle.rs_intake.proofs.Done.{above_all, all_kept_from, all_plain}
use Rattle.rs_intake.proofs.Writers.{put_more, under_way_same}

-- ---- a job more

abbrev pub part_of : List Entry → PartValue
part_of changes = record { place = place_of_all changes; count = length changes }

pub jobs_more : (parts : List PartValue) (entries changes : List Entry) → AreParts parts entries → jobs_of (parts ++ part_of changes ∷ []) (entries ++ changes) ≡ jobs_of parts entries ++ Put changes ∷ []
jobs_more [] entries changes are =
    let J : List Entry → List Job = λ l. Put (take (length changes) l) ∷ [] in
    ap (λ (l : List Entry). J (l ++ changes)) are ∙ ap (λ (l : List Entry). Put l ∷ []) (take_whole changes)
  where
    take_whole : (l : List Entry) → take (length l) l ≡ l
    take_whole l = ap (λ (k : List Entry). take (length l) k) (sym (append-nil l)) ∙ take-append_seam l []
jobs_more (part ∷ parts) entries changes are =
    let front : take part.count (entries ++ changes) ≡ take part.count entries = take-append-le part.count entries changes are.0 in
    let back : drop part.count (entries ++ changes) ≡ drop part.count entries ++ changes = drop-append-le part.count entries changes are.0 in
    ap (λ (l : List Entry). Put l ∷ jobs_of (parts ++ part_of changes ∷ []) (drop part.count (entries ++ changes))) front
    ∙ (ap (λ (l : List Entry). Put (take part.count entries) ∷ jobs_of (parts ++ part_of changes ∷ []) l) back
    ∙ ap (λ (l : List Job). Put (take part.count entries) ∷ l) (jobs_more parts (drop part.count entries) changes are.3))

parts_one : (changes : List Entry) → AreOfOneJob changes → AreParts (part_of changes ∷ []) changes
parts_one changes are =
    let whole : take (length changes) changes ≡ changes = ap (λ (k : List Entry). take (length changes) k) (sym (append-nil changes)) ∙ take-append_seam changes [] in
    let none : drop (length changes) changes ≡ [] = ap (λ (k : List Entry). drop (length changes) k) (sym (append-nil changes)) ∙ drop-append_seam changes [] in
    let O : List Entry → Type 0 = λ l. AreOfOneJob l in
    (omega arith, ap place_of_all (sym whole), subst O (sym whole) are, none)

pub parts_more : (parts : List PartValue) (entries changes : List Entry) → AreOfOneJob changes → AreParts parts entries → AreParts (parts ++ part_of changes ∷ []) (entries ++ changes)
parts_more [] entries changes one are =
    let P : List Entry → Type 0 = λ l. AreParts (part_of changes ∷ []) (l ++ changes) in
    subst P (sym are) (parts_one changes one)
parts_more (part ∷ parts) entries changes one are =
    let front : take part.count (entries ++ changes) ≡ take part.count entries = take-append-le part.count entries changes are.0 in
    let back : drop part.count (entries ++ changes) ≡ drop part.count entries ++ changes = drop-append-le part.count entries changes are.0 in
    let few = are.0 in
    let n = length-append entries changes in
    let O : List Entry → Type 0 = λ l. AreOfOneJob l in
    let P : List Entry → Type 0 = λ l. AreParts (parts ++ part_of changes ∷ []) l in
    (omega (arith, few, n), are.1 ∙ ap place_of_all (sym front), subst O (sym front) are.2, subst P (sym back) (parts_more parts (drop part.count entries) changes one are.3))

-- the changes of the jobs are all
pub parts_entries : (parts : List PartValue) (entries : List Entry) → AreParts parts entries → entries_of (jobs_of parts entries) ≡ entries
parts_entries [] entries are = sym are
parts_entries (part ∷ parts) entries are = ap (λ (l : List Entry). take part.count entries ++ l) (parts_entries parts (drop part.count entries) are.3) ∙ take-append-drop part.count entries

-- none of them is an End
pub parts_ends : (parts : List PartValue) (entries : List Entry) → ends_of (jobs_of parts entries) ≡ []
parts_ends [] entries = refl
parts_ends (part ∷ parts) entries = parts_ends parts (drop part.count entries)

pub all_entries : (parts : List PartValue) (entries : List Entry) (more : List Job) → AreParts parts entries → entries_of (jobs_of parts entries ++ more) ≡ entries ++ entries_of more
all_entries parts entries more are = flat_map-append entries_in (jobs_of parts entries) more ∙ ap (λ (l : List Entry). l ++ entries_of more) (parts_entries parts entries are)

pub all_ends : (parts : List PartValue) (entries : List Entry) (more : List Job) → ends_of (jobs_of parts entries ++ more) ≡ ends_of more
all_ends parts entries more = filter_map-append end_of (jobs_of parts entries) more ∙ ap (λ (l : List ℕ). l ++ ends_of more) (parts_ends parts entries)

none_last : (last : Option Job) → is_none last ≡ true → option_to_list last ≡ []
none_last None none = refl
none_last (Some job) none = absurd (cc (none))

abbrev pub gathered : List PartValue → List Entry → Option Job → GatheredValue
gathered parts entries last = record { jobs = jobs_of parts entries ++ option_to_list last; is_open = is_none last }

pub gathered_len : (parts : List PartValue) (entries : List Entry) (last : Option Job) (g : GatheredValue) (n m : ℕ) → gathered parts entries last ≡ g → AreParts parts entries → n ≡ length entries → m ≡ length (entries_of (option_to_list last)) → n + m ≡ length (entries_of g.jobs)
gathered_len parts entries last g n m is are front back =
    let all : length (entries_of g.jobs) ≡ length (entries ++ entries_of (option_to_list last)) = ap (λ (v : GatheredValue). length (entries_of v.jobs)) (sym is) ∙ ap length (all_entries parts entries (option_to_list last) are) in
    let sum = length-append entries (entries_of (option_to_list last)) in
    omega (arith, all, sum, front, back)

pub gathered_open : (parts : List PartValue) (entries : List Entry) (last : Option Job) (g : GatheredValue) (n : ℕ) → gathered parts entries last ≡ g → AreParts parts entries → is_none last ≡ true → n ≡ length entries → length (entries_of g.jobs) ≡ n
gathered_open parts entries last g n is are none front =
    let all : length (entries_of g.jobs) ≡ length (entries ++ entries_of (option_to_list last)) = ap (λ (v : GatheredValue). length (entries_of v.jobs)) (sym is) ∙ ap length (all_entries parts entries (option_to_list last) are) in
    let sum = length-append entries (entries_of (option_to_list last)) in
    let zero = ap (λ (l : List Job). length (entries_of l)) (none_last last none) in
    omega (arith, all, sum, front, zero)

pub gathered_ends : (parts : List PartValue) (entries : List Entry) (last : Option Job) (g : GatheredValue) → gathered parts entries last ≡ g → length (ends_of g.jobs) ≡ length (ends_of (option_to_list last))
gathered_ends parts entries last g is = ap (λ (v : GatheredValue). length (ends_of v.jobs)) (sym is) ∙ ap length (all_ends parts entries (option_to_list last))

-- a job of changes comes behind the others
pub gathered_more : (parts parts' : List PartValue) (entries entries' : List Entry) (last : Option Job) (g : GatheredValue) (job : Job) (changes : List Entry) → gathered parts entries last ≡ g → g.is_open ≡ true → job ≡ Put changes → AreParts parts entries
    → parts' ≡ parts ++ part_of changes ∷ [] → entries' ≡ entries ++ changes → jobs_of parts' entries' ++ option_to_list last ≡ g.jobs ++ job ∷ []
gathered_more parts parts' entries entries' last g job changes is opened puts are more rest =
    let none : option_to_list last ≡ [] = none_last last (ap (λ (v : GatheredValue). v.is_open) is ∙ opened) in
    let before : g.jobs ≡ jobs_of parts entries = ap (λ (v : GatheredValue). v.jobs) (sym is) ∙ (ap (λ (l : List Job). jobs_of parts entries ++ l) none ∙ append-nil (jobs_of parts entries)) in
    let after : jobs_of parts' entries' ≡ jobs_of parts entries ++ Put changes ∷ [] = ap (λ (l : List PartValue). jobs_of l entries') more ∙ (ap (λ (l : List Entry). jobs_of (parts ++ part_of changes ∷ []) l) rest ∙ jobs_more parts entries changes are) in
    ap (λ (l : List Job). jobs_of parts' entries' ++ l) none ∙ (append-nil (jobs_of parts' entries') ∙ (after ∙ (ap (λ (l : List Job). l ++ Put changes ∷ []) (sym before) ∙ ap (λ (x : Job). g.jobs ++ x ∷ []) (sym puts))))

pub parts_again : (parts parts' : List PartValue) (entries entries' changes : List Entry) → AreOfOneJob changes → AreParts parts entries → parts' ≡ parts ++ part_of changes ∷ [] → entries' ≡ entries ++ changes → AreParts parts' entries'
parts_again parts parts' entries entries' changes one are more rest =
    let P : List PartValue → Type 0 = λ l. AreParts l entries' in
    let Q : List Entry → Type 0 = λ l. AreParts (parts ++ part_of changes ∷ []) l in
    subst P (sym more) (subst Q (sym rest) (parts_more parts entries changes one are))

-- one more job behind those that were taken
pub entries_with : (before now : List Entry) (jobs : List Job) (job : Job) (after : List Entry) → now ≡ before ++ entries_of jobs → after ≡ now ++ entries_in job → after ≡ before ++ entries_of (jobs ++ job ∷ [])
entries_with before now jobs job after so_far more =
    let last : entries_of (job ∷ []) ≡ entries_in job = append-nil (entries_in job) in
    more ∙ (ap (λ (l : List Entry). l ++ entries_in job) so_far ∙ (append_assoc before (entries_of jobs) (entries_in job)
    ∙ ap (λ (l : List Entry). before ++ l) (ap (λ (l : List Entry). entries_of jobs ++ l) (sym last) ∙ sym (flat_map-append entries_in jobs (job ∷ [])))))

pub ends_with : (before now : List ℕ) (jobs : List Job) (job : Job) (after : List ℕ) → now ≡ before ++ ends_of jobs → after ≡ now ++ ends_of (job ∷ []) → after ≡ before ++ ends_of (jobs ++ job ∷ [])
ends_with before now jobs job after so_far more =
    more ∙ (ap (λ (l : List ℕ). l ++ ends_of (job ∷ [])) so_far ∙ (append_assoc before (ends_of jobs) (ends_of (job ∷ []))
    ∙ ap (λ (l : List ℕ). before ++ l) (sym (filter_map-append end_of jobs (job ∷ [])))))

pub entries_count : (jobs : List Job) (job : Job) → length (entries_of (jobs ++ job ∷ [])) ≡ length (entries_of jobs) + length (entries_in job)
entries_count jobs job = ap length (flat_map-append entries_in jobs (job ∷ []) ∙ ap (λ (l : List Entry). entries_of jobs ++ l) (append-nil (entries_in job))) ∙ length-append (entries_of jobs) (entries_in job)

pub all_more : (P : Job → Type 0) (jobs : List Job) (job : Job) → AllByRecursion P jobs → P job → AllByRecursion P (jobs ++ job ∷ [])
all_more P jobs job all one = all_append P jobs (job ∷ []) all (one, tt)

pub all_front : (P : Job → Type 0) (xs ys : List Job) → AllByRecursion P (xs ++ ys) → AllByRecursion P xs
all_front P [] ys all = tt
all_front P (x ∷ xs) ys all = (all.0, all_front P xs ys all.1)

pub all_back : (P : Job → Type 0) (xs ys : List Job) → AllByRecursion P (xs ++ ys) → AllByRecursion P ys
all_back P [] ys all = all
all_back P (x ∷ xs) ys all = all_back P xs ys all.1

-- ---- what is left to put

parts_plain : (parts : List PartValue) (entries : List Entry) → AreParts parts entries → ArePlain entries
parts_plain [] entries are = let P : List Entry → Type 0 = λ l. ArePlain l in subst P (sym are) tt
parts_plain (part ∷ parts) entries are =
    let P : List Entry → Type 0 = λ l. ArePlain l in
    subst P (take-append-drop part.count entries) (all_append _ (take part.count entries) (drop part.count entries) are.2.plain (parts_plain parts (drop part.count entries) are.3))

parts_above : (parts : List PartValue) (entries : List Entry) → AreParts parts entries → AllByRecursion (λ (e : Entry). 0 < e.origin.place) entries
parts_above [] entries are = let P : List Entry → Type 0 = λ l. AllByRecursion (λ (e : Entry). 0 < e.origin.place) l in subst P (sym are) tt
parts_above (part ∷ parts) entries are =
    let P : List Entry → Type 0 = λ l. AllByRecursion (λ (e : Entry). 0 < e.origin.place) l in
    let here = above_all (place_of_all (take part.count entries)) (take part.count entries) are.2.above are.2.place in
    subst P (take-append-drop part.count entries) (all_append _ (take part.count entries) (drop part.count entries) here (parts_above parts (drop part.count entries) are.3))

pub left_together : (limit : ℕ) (before kept : List Entry) (parts : List PartValue) (entries : List Entry) (jobs more : List Job) → IsKeptFrom limit before kept → SerialsRise (before ++ entries_of jobs) → jobs ≡ jobs_of parts entries ++ more → AreParts parts entries → AreToPut limit kept entries
left_together limit before kept parts entries jobs more kept_from rise is are =
    let all : entries_of jobs ≡ entries ++ entries_of more = ap entries_of is ∙ all_entries parts entries more are in
    let R : List Entry → Type 0 = λ l. SerialsRise l in
    let whole : SerialsRise ((before ++ entries) ++ entries_of more) = subst R (sym (append_assoc before entries (entries_of more))) (subst (λ (l : List Entry). SerialsRise (before ++ l)) all rise) in
    record {
      entries = before;
      kept_from = kept_from;
      rise = part_rises (before ++ entries) ((before ++ entries) ++ entries_of more) (part_front (before ++ entries) (entries_of more)) whole;
      plain = parts_plain parts entries are;
      above = parts_above parts entries are;
    }

-- ---- jobs that are done

pub jobs_append : (most : ℕ) (limit : ℕ) (w : Written) (ways : List Told) (jobs : List Job) (n : ℕ) (w1 : Written) (ways1 : List Told) (more : List Job) (m : ℕ) (w2 : Written) (ways2 : List Told)
    → AreJobsDone limit most w ways jobs n w1 ways1 → AreJobsDone limit most w1 ways1 more m w2 ways2 → AreJobsDone limit most w ways (jobs ++ more) (n + m) w2 ways2
jobs_append most limit w ways [] n w1 ways1 more m w2 ways2 a b =
    let P : Written → Type 0 = λ v. AreJobsDone limit most v ways1 more m w2 ways2 in
    let Q : List Told → Type 0 = λ t. AreJobsDone limit most w t more m w2 ways2 in
    let none = a.2 in
    let R : ℕ → Type 0 = λ k. AreJobsDone limit most w ways more k w2 ways2 in
    let count : m ≡ n + m = omega (arith, none) in
    subst R count (subst Q a.1 (subst P a.0 b))
jobs_append most limit w ways (job ∷ jobs) n w1 ways1 more m w2 ways2 a b =
    let count = a.6 in
    (a.0, a.1, a.2, a.3 + m, a.4, jobs_append most limit a.0 a.1 jobs a.3 w1 ways1 more m w2 ways2 a.5 b, omega (arith, count))

job_kept_from : (most : ℕ) (limit : ℕ) (before : List Entry) (w : Written) (ways : List Told) (job : Job) (n : ℕ) (w' : Written) (ways' : List Told) → IsKeptFrom limit before (kept_of w) → IsJobDone limit most w ways job n w' ways'
    → IsKeptFrom limit (before ++ entries_in job) (kept_of w')
job_kept_from most limit before w ways (Put changes) n w' ways' kept d =
    (all_kept_from limit before changes d.2.outcomes (kept_of w) (kept_of w') kept (all_plain changes d.0.plain) d.2.done).0
job_kept_from most limit before w ways (End place) n w' ways' kept d =
    let P : List Entry → Type 0 = λ l. IsKeptFrom limit l (kept_of w') in
    let Q : Written → Type 0 = λ v. IsKeptFrom limit before (kept_of v) in
    subst P (sym (append-nil before)) (subst Q (sym d.0) kept)

-- what is kept comes of what was taken before, and of these jobs
pub jobs_kept_from : (most : ℕ) (limit : ℕ) (before : List Entry) (w : Written) (ways : List Told) (jobs : List Job) (n : ℕ) (w' : Written) (ways' : List Told) → IsKeptFrom limit before (kept_of w) → AreJobsDone limit most w ways jobs n w' ways'
    → IsKeptFrom limit (before ++ entries_of jobs) (kept_of w')
jobs_kept_from most limit before w ways [] n w' ways' kept d =
    let P : List Entry → Type 0 = λ l. IsKeptFrom limit l (kept_of w') in
    let Q : Written → Type 0 = λ v. IsKeptFrom limit before (kept_of v) in
    subst P (sym (append-nil before)) (subst Q (sym d.0) kept)
jobs_kept_from most limit before w ways (job ∷ jobs) n w' ways' kept d =
    let P : List Entry → Type 0 = λ l. IsKeptFrom limit l (kept_of w') in
    subst P (append_assoc before (entries_in job) (entries_of jobs))
    (jobs_kept_from most limit (before ++ entries_in job) d.0 d.1 jobs d.3 w' ways' (job_kept_from most limit before w ways job d.2 d.0 d.1 kept d.4) d.5)

job_ways : (most : ℕ) (limit : ℕ) (w : Written) (ways : List Told) (job : Job) (n : ℕ) (w' : Written) (ways' : List Told) → IsJobDone limit most w ways job n w' ways' → length ways' ≡ length ways
job_ways most limit w ways (Put changes) n w' ways' d = ap length d.3.2 ∙ length-set ways (place_of_all changes - 1) d.3.0
job_ways most limit w ways (End place) n w' ways' d = ap length d.1

-- there are as many ways back
pub jobs_ways : (most : ℕ) (limit : ℕ) (w : Written) (ways : List Told) (jobs : List Job) (n : ℕ) (w' : Written) (ways' : List Told) → AreJobsDone limit most w ways jobs n w' ways' → length ways' ≡ length ways
jobs_ways most limit w ways [] n w' ways' d = ap length d.1
jobs_ways most limit w ways (job ∷ jobs) n w' ways' d = jobs_ways most limit d.0 d.1 jobs d.3 w' ways' d.5 ∙ job_ways most limit w ways job d.2 d.0 d.1 d.4

-- the value once one job is done
abbrev after_job : WriterValue → Job → ℕ → Written → List Told → WriterValue
after_job v job n w ways = record {
  first = v.first;
  writer = w;
  received = record { entries = v.received.entries ++ entries_in job; ends = v.received.ends; whole = v.received.whole };
  ways = ways;
  taken = v.taken + length (entries_in job);
  refused = v.refused + n;
}

job_under_way : (most : ℕ) (limit places : ℕ) (v : WriterValue) (job : Job) (n : ℕ) (w : Written) (ways : List Told) → IsPlaced places job → IsJobDone limit most v.writer v.ways job n w ways → IsUnderWay limit places v → IsUnderWay limit places (after_job v job n w ways)
job_under_way most limit places v (Put changes) n w ways there d u = put_more limit places v (after_job v (Put changes) n w ways) changes d.1 n refl refl there d.0 d.2 d.3 refl refl u
job_under_way most limit places v (End place) n w ways there d u =
    let none = d.2 in
    under_way_same limit places v (after_job v (End place) n w ways) refl (append-nil v.received.entries) (ap kept_of d.0) d.1 (omega arith) (omega (arith, none)) u

-- what the writer did goes on with some jobs
pub jobs_under_way : (most : ℕ) (limit places : ℕ) (v w : WriterValue) (jobs : List Job) (n : ℕ) → w.first ≡ v.first → w.received.entries ≡ v.received.entries ++ entries_of jobs → AllByRecursion (IsPlaced places) jobs
    → AreJobsDone limit most v.writer v.ways jobs n w.writer w.ways → w.taken ≡ v.taken + length (entries_of jobs) → w.refused ≡ v.refused + n → IsUnderWay limit places v → IsUnderWay limit places w
jobs_under_way most limit places v w [] n begun more there d taken refused u =
    let none = d.2 in
    under_way_same limit places v w begun (more ∙ append-nil v.received.entries) (ap kept_of d.0) d.1 (omega (arith, taken)) (omega (arith, refused, none)) u
jobs_under_way most limit places v w (job ∷ jobs) n begun more there d taken refused u =
    let mid = after_job v job d.2 d.0 d.1 in
    let sum = length-append (entries_in job) (entries_of jobs) in
    let count = d.6 in
    jobs_under_way most limit places mid w jobs d.3 begun (more ∙ sym (append_assoc v.received.entries (entries_in job) (entries_of jobs))) there.1 d.5
    (omega (arith, taken, sum)) (omega (arith, refused, count)) (job_under_way most limit places v job d.2 d.0 d.1 there.0 d.4 u)

-- they rise behind all that was taken and all that the writer began with
pub jobs_rise : (limit places : ℕ) (w : WriterValue) (entries : List Entry) (jobs : List Job) → entries ≡ w.received.entries ++ entries_of jobs → SerialsRise entries → AllByRecursion (IsPlaced places) jobs → IsUnderWay limit places w
    → (before : List Entry) × IsKeptFrom limit before (kept_of w.writer) × SerialsRise (before ++ entries_of jobs)
jobs_rise limit places w entries jobs more rises there u =
    let R : List Entry → Type 0 = λ l. SerialsRise l in
    let none = all_placed places w.received.entries jobs u.placed there 0 (inl refl) in
    let behind = rises_behind w.first (w.received.entries ++ entries_of jobs) u.own u.rises none (subst R more rises) in
    (w.first ++ w.received.entries, u.kept_from, subst R (sym (append_assoc w.first w.received.entries (entries_of jobs))) behind)
  where
    all_placed : (places : ℕ) (entries : List Entry) (jobs : List Job) → AreOfPlaces places entries → AllByRecursion (IsPlaced places) jobs → AreOfPlaces places (entries ++ entries_of jobs)
    all_placed places entries [] all there = let P : List Entry → Type 0 = λ l. AreOfPlaces places l in subst P (sym (append-nil entries)) all
    all_placed places entries (job ∷ jobs) all there =
        let P : List Entry → Type 0 = λ l. AreOfPlaces places l in
        subst P (append_assoc entries (entries_in job) (entries_of jobs)) (all_placed places (entries ++ entries_in job) jobs (placed_more places entries job all there.0) there.1)

-- ---- the first of the jobs that are left

pub parts_first : (parts left : List PartValue) (part : PartValue) (entries : List Entry) → parts ≡ part ∷ left → AreParts parts entries → AreParts (part ∷ left) entries
parts_first parts left part entries first are = let P : List PartValue → Type 0 = λ l. AreParts l entries in subst P first are

pub part_some : (count : ℕ) (entries : List Entry) → AreOfOneJob (take count entries) → 0 < count
part_some zero entries are = let some = are.some in absurd (omega (arith, some))
part_some (suc n) entries are = omega arith

pub part_place : (places : ℕ) (parts left : List PartValue) (part : PartValue) (entries : List Entry) → parts ≡ part ∷ left → AreParts parts entries → AllByRecursion (IsPlaced places) (jobs_of parts entries) → (0 < part.place) × (part.place ≤ places)
part_place places parts left part entries first are there =
    let f = parts_first parts left part entries first are in
    let P : List PartValue → Type 0 = λ l. AllByRecursion (IsPlaced places) (jobs_of l entries) in
    let few = placed_first places (take part.count entries) (subst P first there).0 in
    let above = f.2.above in
    let is = f.1 in
    (omega (arith, above, is), omega (arith, few, is))

pub parts_left : (parts left : List PartValue) (part : PartValue) (rest rest' : List Entry) → parts ≡ part ∷ left → rest' ≡ drop part.count rest → AreParts parts rest → AreParts left rest'
parts_left parts left part rest rest' first is are = let P : List Entry → Type 0 = λ l. AreParts left l in subst P (sym is) (parts_first parts left part rest first are).3

pub placed_left : (places : ℕ) (parts left : List PartValue) (part : PartValue) (rest rest' : List Entry) → parts ≡ part ∷ left → rest' ≡ drop part.count rest → AllByRecursion (IsPlaced places) (jobs_of parts rest) → AllByRecursion (IsPlaced places) (jobs_of left rest')
placed_left places parts left part rest rest' first is there =
    let P : List PartValue → Type 0 = λ l. AllByRecursion (IsPlaced places) (jobs_of l rest) in
    let Q : List Entry → Type 0 = λ l. AllByRecursion (IsPlaced places) (jobs_of left l) in
    subst Q (sym is) (subst P first there).1

-- all are done if the first is, and then the others
pub parts_step : (most : ℕ) (limit : ℕ) (w : Written) (ways : List Told) (parts left : List PartValue) (part : PartValue) (rest rest' : List Entry) (n : ℕ) (w1 : Written) (ways1 : List Told) (more : ℕ) (w2 : Written) (ways2 : List Told) (replies : List ReplyValue)
    → parts ≡ part ∷ left → rest' ≡ drop part.count rest → AreParts parts rest → AreReplied limit most w (take part.count rest) replies n w1 → AreSentTo part.place ways replies ways1 → AreJobsDone limit most w1 ways1 (jobs_of left rest') more w2 ways2
    → AreJobsDone limit most w ways (jobs_of parts rest) (n + more) w2 ways2
parts_step most limit w ways parts left part rest rest' n w1 ways1 more w2 ways2 replies first is are replied sent done =
    let f = parts_first parts left part rest first are in
    let P : List PartValue → Type 0 = λ l. AreJobsDone limit most w ways (jobs_of l rest) (n + more) w2 ways2 in
    let Q : List Entry → Type 0 = λ l. AreJobsDone limit most w1 ways1 (jobs_of left l) more w2 ways2 in
    let S : ℕ → Type 0 = λ p. AreSentTo p ways replies ways1 in
    subst P (sym first) (w1, ways1, n, more, (f.2, replies, replied, subst S f.1 sent), subst Q is done, refl)

-- none is left to do
pub parts_done : (most : ℕ) (limit : ℕ) (w : Written) (ways : List Told) (parts : List PartValue) (rest : List Entry) → parts ≡ [] → AreJobsDone limit most w ways (jobs_of parts rest) 0 w ways
parts_done most limit w ways parts rest none =
    let P : List PartValue → Type 0 = λ l. AreJobsDone limit most w ways (jobs_of l rest) 0 w ways in
    subst P (sym none) (refl, refl, refl)

-- the last jobs rise behind the first
pub last_rise : (before : List Entry) (jobs first more : List Job) → jobs ≡ first ++ more → SerialsRise (before ++ entries_of jobs) → SerialsRise ((before ++ entries_of first) ++ entries_of more)
last_rise before jobs first more is rise =
    let R : List Entry → Type 0 = λ l. SerialsRise l in
    let both : before ++ entries_of jobs ≡ before ++ (entries_of first ++ entries_of more) = ap (λ (l : List Entry). before ++ l) (ap entries_of is ∙ flat_map-append entries_in first more) in
    subst R (sym (append_assoc before (entries_of first) (entries_of more))) (subst R both rise)

pub sent_ways : (place : ℕ) (ways : List Told) (replies : List ReplyValue) (ways' : List Told) → AreSentTo place ways replies ways' → length ways' ≡ length ways
sent_ways place ways replies ways' sent = ap length sent.2 ∙ length-set ways (place - 1) sent.0

-- one job is done
pub jobs_one : (most : ℕ) (limit : ℕ) (w : Written) (ways : List Told) (job : Job) (n : ℕ) (w' : Written) (ways' : List Told) → IsJobDone limit most w ways job n w' ways' → AreJobsDone limit most w ways (job ∷ []) n w' ways'
jobs_one most limit w ways job n w' ways' d = (w', ways', n, 0, d, (refl, refl, refl), omega arith)

-- none is left
pub ready_all : (ready entries : List Entry) → entries ≡ [] → IsReadyFor ready entries → ready ≡ []
ready_all ready entries none r = ⊎_elim (λ is. is) (λ are. are ∙ none) r

-- ---- a step

pub step_put : (most : ℕ) (limit places : ℕ) (v v' w : WriterValue) (job : Job) (changes : List Entry) (len count : ℕ) → v ≡ v' → w.first ≡ v.first → job ≡ Put changes → w.received.entries ≡ v.received.entries ++ entries_in job
    → w.received.ends ≡ v.received.ends ++ ends_of (job ∷ []) → IsPlaced places job → AreOfOneJob changes → (replies : List ReplyValue) → AreReplied limit most v.writer changes replies count w.writer → AreSentTo (place_of_all changes) v.ways replies w.ways
    → len ≡ length changes → w.taken ≡ v.taken + len → w.refused ≡ v.refused + count → IsStep limit most places v' w
step_put most limit places v v' w job changes len count is begun puts entries ends there are replies replied sent number taken refused =
    let P : WriterValue → Type 0 = λ x. IsStep limit most places x w in
    let J : Job → Type 0 = λ j. IsPlaced places j × (w.received.entries ≡ v.received.entries ++ entries_in j) × (w.received.ends ≡ v.received.ends ++ ends_of (j ∷ [])) in
    let j = subst J puts (there, entries, ends) in
    let n = length-append changes [] in
    let few = are.few in
    subst P is (
    record {
      first = begun;
      jobs = Put changes ∷ [];
      some = omega arith;
      few = omega (arith, n, few);
      placed = (j.0, tt);
      entries = j.1 ∙ ap (λ (l : List Entry). v.received.entries ++ l) (sym (append-nil changes));
      ends = j.2;
      refused_in = count;
      done = jobs_one most limit v.writer v.ways (Put changes) count w.writer w.ways (are, replies, replied, sent);
      taken = omega (arith, n, number, taken);
      refused = refused;
    }
    )

pub step_end : (most : ℕ) (limit places : ℕ) (v v' w : WriterValue) (job : Job) (place : ℕ) → v ≡ v' → w.first ≡ v.first → job ≡ End place → w.received.entries ≡ v.received.entries ++ entries_in job
    → w.received.ends ≡ v.received.ends ++ ends_of (job ∷ []) → IsPlaced places job → w.writer ≡ v.writer → w.ways ≡ v.ways → w.taken ≡ v.taken → w.refused ≡ v.refused → IsStep limit most places v' w
step_end most limit places v v' w job place is begun ending entries ends there writer ways taken refused =
    let P : WriterValue → Type 0 = λ x. IsStep limit most places x w in
    let J : Job → Type 0 = λ j. IsPlaced places j × (w.received.entries ≡ v.received.entries ++ entries_in j) × (w.received.ends ≡ v.received.ends ++ ends_of (j ∷ [])) in
    let j = subst J ending (there, entries, ends) in
    subst P is (
    record {
      first = begun;
      jobs = End place ∷ [];
      some = omega arith;
      few = omega arith;
      placed = (j.0, tt);
      entries = j.1;
      ends = j.2;
      refused_in = 0;
      done = jobs_one most limit v.writer v.ways (End place) 0 w.writer w.ways (writer, ways, refl);
      taken = omega (arith, taken);
      refused = omega (arith, refused);
    }
    )

-- the same by why no job comes after
pub step_last : (limit most places : ℕ) (w w' : WriterValue) (result : Option Cause) → result ≡ Some AllEnded → IsStep limit most places w w' → IsStepBefore limit most places result w w'
step_last limit most places w w' result is s = subst (λ (o : Option Cause). IsStepBefore limit most places o w w') (sym is) s

pub step_more : (limit most places : ℕ) (w w' : WriterValue) (result : Option Cause) → result ≡ None → IsStep limit most places w w' → IsStepBefore limit most places result w w'
step_more limit most places w w' result is s = subst (λ (o : Option Cause). IsStepBefore limit most places o w w') (sym is) s
