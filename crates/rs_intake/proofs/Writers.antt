-- What the writer did so far goes on with each step.
use Rattle.std.specs.Prelude.{IfNone, IfSome, Option, None, Some}
use Rattle.std.proofs.Common.{◌≡◌, inl, ℕ, ◌+◌, ◌≤◌, List, [], ◌∷◌, ◌++◌, length, replicate, refl, sym, ap, subst, ◌∙◌, length-append, append-nil, append_assoc, arith}
use Rattle.rs_message.specs.declared.entry.Entry.{Entry}
use Rattle.rs_store.specs.History.{SerialsRise}
use Rattle.rs_version.specs.First.{AreOwn}
use Rattle.rs_version.specs.Writer.{kept_of}
use Rattle.rs_intake_queue.specs.Changes.{AreOfOneJob, place_of_all}
use Rattle.rs_intake_queue.specs.QueueRule.{IsPlaced, ends_of, entries_in}
use Rattle.rs_intake_queue.specs.declared.job.Job.{Job}
use Rattle.rs_intake_queue.specs.declared.job.Job.TheVariants.{End, Put}
use Rattle.rs_intake_line.specs.Done.{AreReplied, AreTold, IsWritten, ReplyValue, Told, not_refused, replies_to, untold}
use Rattle.rs_intake_line.specs.Sending.{AreSentTo}
use Rattle.rs_intake_line.specs.Sweeps.{AreForEntries, IsKeptFrom, without_sweeps}
use Rattle.rs_intake_line.specs.Lines.{Received}
use Rattle.rs_intake.specs.Causes.{HaveEnded, IsCause}
use Rattle.rs_intake.specs.declared.cause.Cause.{Cause}
use Rattle.rs_intake.specs.declared.cause.Cause.TheVariants.{AllEnded}
use Rattle.rs_intake.specs.Settling.{AreOfPlaces}
use Rattle.rs_intake.specs.Writers.{IsUnderWay, WriterValue}
use Rattle.rs_intake.proofs.Causes.{placed_first}
use Rattle.rs_intake.proofs.Done.{all_kept_from, all_plain, all_sweeps, done_append, not_refused_append, replies_append, without_all}
use Rattle.rs_intake.proofs.First.{kept_from_first, own_plain, own_sweeps, rises_behind}
use Rattle.rs_intake.proofs.Sums.{placed_more}
use Rattle.rs_intake.proofs.Telling.{told_more, told_none}

-- nothing was taken
pub none_taken : (limit places : ℕ) (w : WriterValue) → w.received.entries ≡ [] → kept_of w.writer ≡ w.first → AreOwn w.first → SerialsRise w.first → w.ways ≡ replicate places untold → w.taken ≡ 0 → w.refused ≡ 0 → IsUnderWay limit places w
none_taken limit places w none same own rises new taken refused =
    let P : List Entry → List Entry → Type 0 = λ l k. IsWritten limit places w.first l k w.ways in
    let Q : List Entry → Type 0 = λ k. IsWritten limit places w.first [] k w.ways in
    let J : List Entry → Type 0 = λ l. IsKeptFrom limit l w.first in
    let K : List Entry → List Entry → Type 0 = λ l k. IsKeptFrom limit (w.first ++ l) k in
    let S : List Entry → Type 0 = λ k. AreForEntries limit w.received.entries k in
    let start : IsWritten limit places w.first [] w.first w.ways = record { outcomes = []; done = refl; changes = own_plain w.first own ∙ sym (append-nil w.first); told = told_none places w.ways new } in
    let n : length (without_sweeps (kept_of w.writer)) ≡ length w.first = ap (λ (l : List Entry). length (without_sweeps l)) same ∙ ap length (own_plain w.first own) in
    record {
      written = subst (λ (l : List Entry). P l (kept_of w.writer)) (sym none) (subst Q (sym same) start);
      placed = subst (AreOfPlaces places) (sym none) (λ place out. refl);
      own = own;
      rises = rises;
      kept_from = subst (λ (l : List Entry). K l (kept_of w.writer)) (sym none) (subst (λ (k : List Entry). K [] k) (sym same) (subst J (sym (append-nil w.first)) (kept_from_first limit w.first own rises)));
      sweeps = subst S (sym same) (own_sweeps limit w.received.entries w.first own);
      taken_is = taken ∙ sym (ap length none);
      refused_is = omega (arith, n, refused, taken);
    }

-- the same of values that agree
pub under_way_same : (limit places : ℕ) (w w' : WriterValue) → w'.first ≡ w.first → w'.received.entries ≡ w.received.entries → kept_of w'.writer ≡ kept_of w.writer → w'.ways ≡ w.ways → w'.taken ≡ w.taken → w'.refused ≡ w.refused
    → IsUnderWay limit places w → IsUnderWay limit places w'
under_way_same limit places w w' begun same kept ways taken refused u =
    let F : List Entry → Type 0 = λ f. IsWritten limit places f w'.received.entries (kept_of w'.writer) w'.ways in
    let A : List Entry → Type 0 = λ l. IsWritten limit places w.first l (kept_of w'.writer) w'.ways in
    let B : List Entry → Type 0 = λ k. IsWritten limit places w.first w.received.entries k w'.ways in
    let C : List Told → Type 0 = λ t. IsWritten limit places w.first w.received.entries (kept_of w.writer) t in
    let D : List Entry → Type 0 = λ l. IsKeptFrom limit l (kept_of w'.writer) in
    let E : List Entry → Type 0 = λ k. IsKeptFrom limit (w.first ++ w.received.entries) k in
    let G : List Entry → Type 0 = λ l. AreForEntries limit l (kept_of w'.writer) in
    let H : List Entry → Type 0 = λ k. AreForEntries limit w.received.entries k in
    let O : List Entry → Type 0 = λ f. AreOwn f in
    let R : List Entry → Type 0 = λ f. SerialsRise f in
    let both : w'.first ++ w'.received.entries ≡ w.first ++ w.received.entries = ap (λ (l : List Entry). l ++ w'.received.entries) begun ∙ ap (λ (l : List Entry). w.first ++ l) same in
    let n : length w'.first ≡ length w.first = ap length begun in
    let m : length (without_sweeps (kept_of w'.writer)) ≡ length (without_sweeps (kept_of w.writer)) = ap (λ (l : List Entry). length (without_sweeps l)) kept in
    let sum = u.refused_is in
    record {
      written = subst F (sym begun) (subst A (sym same) (subst B (sym kept) (subst C (sym ways) u.written)));
      placed = subst (AreOfPlaces places) (sym same) u.placed;
      own = subst O (sym begun) u.own;
      rises = subst R (sym begun) u.rises;
      kept_from = subst D (sym both) (subst E (sym kept) u.kept_from);
      sweeps = subst G (sym same) (subst H (sym kept) u.sweeps);
      taken_is = taken ∙ (u.taken_is ∙ sym (ap length same));
      refused_is = omega (arith, n, m, sum, taken, refused);
    }

-- the changes of one job were put
pub put_more : {most : ℕ} (limit places : ℕ) (w w' : WriterValue) (changes : List Entry) (replies : List ReplyValue) (count : ℕ) → w'.first ≡ w.first → w'.received.entries ≡ w.received.entries ++ changes → IsPlaced places (Put changes)
    → AreOfOneJob changes → AreReplied limit most w.writer changes replies count w'.writer → AreSentTo (place_of_all changes) w.ways replies w'.ways → w'.taken ≡ w.taken + length changes → w'.refused ≡ w.refused + count
    → IsUnderWay limit places w → IsUnderWay limit places w'
put_more limit places w w' changes replies count begun more there are r to taken refused u =
    let first = w.first in
    let entries = w.received.entries in
    let kept = kept_of w.writer in
    let kept' = kept_of w'.writer in
    let written = u.written in
    let few = placed_first places changes there in
    let plain = all_plain changes are.plain in
    let all = all_kept_from limit (first ++ entries) changes r.outcomes kept kept' u.kept_from plain r.done in
    let S : List ReplyValue → Type 0 = λ l. AreSentTo (place_of_all changes) w.ways l w'.ways in
    let told = told_more places (place_of_all changes) (replies_to entries written.outcomes) changes r.outcomes w.ways w'.ways are.above few are.place written.told (subst S r.replies_are to) in
    let T : List ReplyValue → Type 0 = λ l. AreTold places l w'.ways in
    let F : List Entry → Type 0 = λ f. IsWritten limit places f w'.received.entries kept' w'.ways in
    let P : List Entry → Type 0 = λ l. IsWritten limit places first l kept' w'.ways in
    let K : List Entry → Type 0 = λ l. IsKeptFrom limit l kept' in
    let G : List Entry → Type 0 = λ l. AreForEntries limit l kept' in
    let O : List Entry → Type 0 = λ f. AreOwn f in
    let R : List Entry → Type 0 = λ f. SerialsRise f in
    let both : (first ++ entries) ++ changes ≡ w'.first ++ w'.received.entries =
    append_assoc first entries changes ∙ (ap (λ (l : List Entry). first ++ l) (sym more) ∙ ap (λ (l : List Entry). l ++ w'.received.entries) (sym begun)) in
    let n = length-append entries changes in
    let m = ap length more in
    let f : length w'.first ≡ length first = ap length begun in
    let number = u.taken_is in
    let sum = u.refused_is in
    let rest = all.1 in
    let refusals = r.refused_are in
    record {
      written = subst F (sym begun) (subst P (sym more) (
          record {
            outcomes = written.outcomes ++ r.outcomes;
            done = done_append limit first entries written.outcomes kept changes r.outcomes kept' written.done r.done;
            changes = without_all limit kept changes r.outcomes kept' are.plain r.done
                ∙ (ap (λ l. l ++ not_refused changes r.outcomes) written.changes ∙ (append_assoc first (not_refused entries written.outcomes) (not_refused changes r.outcomes)
                ∙ ap (λ l. first ++ l) (sym (not_refused_append limit first entries written.outcomes kept changes r.outcomes written.done))));
            told = subst T (sym (replies_append limit first entries written.outcomes kept changes r.outcomes written.done)) told;
          }
          ));
      placed = subst (AreOfPlaces places) (sym more) (placed_more places entries (Put changes) u.placed there);
      own = subst O (sym begun) u.own;
      rises = subst R (sym begun) u.rises;
      kept_from = subst K both all.0;
      sweeps = subst G (sym more) (all_sweeps limit entries changes r.outcomes kept kept' u.sweeps plain r.done);
      taken_is = omega (arith, n, m, number, taken);
      refused_is = omega (arith, f, sum, rest, refusals, taken, refused);
    }

-- no more are refused than were taken
pub refused_few : (limit places : ℕ) (w : WriterValue) → IsUnderWay limit places w → w.refused ≤ w.taken
refused_few limit places w u =
    let sum = u.refused_is in
    let n = ap length u.written.changes in
    let m = length-append w.first (not_refused w.received.entries u.written.outcomes) in
    omega (arith, sum, n, m)

-- the changes of a job rise behind all that was taken and all that the writer began with
pub job_rises : (limit places : ℕ) (w : WriterValue) (entries : List Entry) (job : Job) (changes : List Entry) → job ≡ Put changes → entries ≡ w.received.entries ++ entries_in job → SerialsRise entries → IsPlaced places job → IsUnderWay limit places w
    → (before : List Entry) × IsKeptFrom limit before (kept_of w.writer) × SerialsRise (before ++ changes)
job_rises limit places w entries job changes is more rises there u =
    let J : Job → Type 0 = λ j. IsPlaced places j × (entries ≡ w.received.entries ++ entries_in j) in
    let j = subst J is (there, more) in
    let R : List Entry → Type 0 = λ l. SerialsRise l in
    let none = placed_more places w.received.entries (Put changes) u.placed j.0 0 (inl refl) in
    let behind = rises_behind w.first (w.received.entries ++ changes) u.own u.rises none (subst R j.1 rises) in
    (w.first ++ w.received.entries, u.kept_from, subst R (sym (append_assoc w.first w.received.entries changes)) behind)

-- why no job comes after, if the last End was taken
pub ended_cause : (places most : ℕ) (received : Received) (result : Option Cause) → result ≡ Some AllEnded → HaveEnded places received.ends → IfSome result (λ cause. IsCause places most received cause)
ended_cause places most received result is ended = subst (λ (o : Option Cause). IfSome o (λ cause. IsCause places most received cause)) (sym is) ended

pub no_cause : (places most : ℕ) (received : Received) (result : Option Cause) → result ≡ None → IfSome result (λ cause. IsCause places most received cause)
no_cause places most received result is = subst (λ (o : Option Cause). IfSome o (λ cause. IsCause places most received cause)) (sym is) tt

-- if a job may come after, each place has ended only if each had
pub last_end : (places : ℕ) (before after : List ℕ) (result : Option Cause) → result ≡ Some AllEnded → IfNone result (HaveEnded places after → HaveEnded places before)
last_end places before after result is = subst (λ (o : Option Cause). IfNone o (HaveEnded places after → HaveEnded places before)) (sym is) tt

pub more_to_end : (places : ℕ) (before after : List ℕ) (result : Option Cause) → result ≡ None → (HaveEnded places after → HaveEnded places before) → IfNone result (HaveEnded places after → HaveEnded places before)
more_to_end places before after result is more = subst (λ (o : Option Cause). IfNone o (HaveEnded places after → HaveEnded places before)) (sym is) more

-- the same by the job
pub job_put : {most : ℕ} (limit places : ℕ) (v w : WriterValue) (job : Job) (changes : List Entry) (len count : ℕ) → w.first ≡ v.first → job ≡ Put changes → w.received.entries ≡ v.received.entries ++ entries_in job → IsPlaced places job → AreOfOneJob changes
    → (replies : List ReplyValue) → AreReplied limit most v.writer changes replies count w.writer → AreSentTo (place_of_all changes) v.ways replies w.ways → len ≡ length changes → w.taken ≡ v.taken + len → w.refused ≡ v.refused + count
    → IsUnderWay limit places v → IsUnderWay limit places w
job_put limit places v w job changes len count begun is entries there are replies put told number taken refused u =
    let J : Job → Type 0 = λ j. IsPlaced places j × (w.received.entries ≡ v.received.entries ++ entries_in j) in
    let j = subst J is (there, entries) in
    put_more limit places v w changes replies count begun j.1 j.0 are put told (taken ∙ ap (λ n. v.taken + n) number) refused u

-- no more Ends were taken by a job of changes
pub no_end : (ends ends' : List ℕ) (job : Job) (changes : List Entry) → ends' ≡ ends ++ ends_of (job ∷ []) → job ≡ Put changes → ends' ≡ ends
no_end ends ends' job changes more is = more ∙ (ap (λ (x : Job). ends ++ ends_of (x ∷ [])) is ∙ append-nil ends)

-- one was, by an End
pub one_end : (ends ends' : List ℕ) (job : Job) (place : ℕ) → ends' ≡ ends ++ ends_of (job ∷ []) → job ≡ End place → length ends' ≡ length ends + 1
one_end ends ends' job place more is = ap length more ∙ (ap (λ (x : Job). length (ends ++ ends_of (x ∷ []))) is ∙ length-append ends (place ∷ []))

-- an End asks for no entry
pub none_asked : (entries entries' : List Entry) (job : Job) (place : ℕ) → entries' ≡ entries ++ entries_in job → job ≡ End place → entries' ≡ entries
none_asked entries entries' job place more is = more ∙ (ap (λ (x : Job). entries ++ entries_in x) is ∙ append-nil entries)
