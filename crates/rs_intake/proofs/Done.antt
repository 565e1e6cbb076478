-- What was done with the entries that the writer took, one after the other.
use Rattle.std.proofs.Common.{⊎_elim, drop, take, ◌≡◌, ℕ, zero, suc, ◌+◌, Bool, true, false, cond, All, ◌<◌, ◌≤◌, ◌||◌, List, [], ◌∷◌, ◌++◌, length, map, inl, inr, refl, sym, ap, subst, ◌∙◌, append_assoc, length-append, Ok, Err, OnOk, IfOk, IfErr, arith}
use Rattle.std.specs.List.{AllByRecursion, filter}
use Rattle.std.proofs.lemmas.Bool.{or_left, or_right}
use Rattle.std.proofs.lemmas.List.{append-nil}
use Rattle.std.proofs.lemmas.List.Elements.{filter-append}
use Rattle.rs_message.specs.Messages.{is_sweep}
use Rattle.rs_message.specs.declared.entry.Entry.{Entry}
use Rattle.rs_store.specs.Adding.{Adds}
use Rattle.rs_store.specs.History.{SerialsRise, cleaned, extended}
use Rattle.rs_store.proofs.Entries.{all_append}
use Rattle.rs_version.specs.First.{AreOwn}
use Rattle.rs_version.specs.Writer.{IsNextOf, IsReadyFor, RefusesOf, Written, kept_of, shows}
use Rattle.rs_version.specs.declared.fault.PutFault.TheVariants.{Full, Held, NoMemory, Stale}
use Rattle.rs_intake_queue.specs.Changes.{AreOf, AreOfOneJob, ArePlain, place_of_all}
use Rattle.rs_intake_line.specs.Done.{Outcome, AreOutcomes, AreDone, AreRefusedBehind, AreReplied, IsBehindHeld, IsOutcome, IsDone, IsPut, ReplyValue, has_held, is_held, is_refused, not_refused, refused_reply, refused_in, replies_to}
use Rattle.rs_intake_queue.specs.Parts.{IsPart}
use Rattle.rs_intake_line.specs.Sending.{AreToPut, ArePut}
use Rattle.rs_intake_line.specs.Sweeps.{AreForEntries, IsKeptFrom, IsSweptAtMost, without_sweeps}
use Rattle.rs_intake_queue.proofs.Parts.{part_front, part_rises}
use Rattle.rs_intake.proofs.First.{kept_from_first, own_plain, own_sweeps}
use Rattle.rs_intake.proofs.Sweeps.{entry_rises, adds_kept, held_kept, no_memory_kept, all_rise, kept_from_entry, kept_from_refused, released_kept, sweeps_entry, sweeps_refused, without_cleaned, without_more}

-- ---- a put

shown_kept : (list : List Entry) (w : Written) → w ≡ shows list → w.published ≡ kept_of w
shown_kept list w is = let P : Written → Type 0 = λ w. w.published ≡ kept_of w in subst P (sym is) (sym (append-nil list))

added_kept : (limit : ℕ) (history : List Entry) (e : Entry) (w : Written) → Adds limit history e (λ list. w ≡ shows list) → w.published ≡ kept_of w
added_kept limit history e w (inl a) = shown_kept _ w a.1
added_kept limit history e w (inr a) = shown_kept _ w a.1

-- the outcome of a put says what was done
pub put_done : (limit : ℕ) (w w' : Written) (e : Entry) (outcome : Outcome) → SerialsRise (extended (kept_of w) e)
    → OnOk outcome (Adds limit (kept_of w) e (λ list. w' ≡ shows list)) → IfOk outcome (λ r. r.entry ≡ e) → IfOk outcome (λ r. r.number ≡ length w'.published) → IfOk outcome (λ r. r.told ≡ w'.published)
    → IfErr outcome (λ f. RefusesOf limit w e f w') → IsDone limit (kept_of w) e outcome (kept_of w')
put_done limit w w' e (Ok r) rises adds entry number told refuses =
    let same = added_kept limit (kept_of w) e w' adds in
    (adds_kept limit (kept_of w) e w' adds, (entry, number ∙ ap length same, told ∙ same))
put_done limit w w' e (Err Full) rises adds entry number told refuses = (refuses.0, released_kept w w' refuses.1)
put_done limit w w' e (Err Stale) rises adds entry number told refuses = refuses.0 rises
put_done limit w w' e (Err NoMemory) rises adds entry number told refuses = no_memory_kept limit w e w' refuses
put_done limit w w' e (Err Held) rises adds entry number told refuses = held_kept limit w e w' refuses

pub put_is : (limit : ℕ) (w w' : Written) (e : Entry) (outcome : Outcome) → OnOk outcome (Adds limit (kept_of w) e (λ list. w' ≡ shows list)) → IfOk outcome (λ r. r.entry ≡ e)
    → IfOk outcome (λ r. r.number ≡ length w'.published) → IfOk outcome (λ r. r.told ≡ w'.published) → IfErr outcome (λ f. RefusesOf limit w e f w') → IsPut limit w e outcome w'
put_is limit w w' e (Ok r) adds entry number told refuses = (adds, (entry, number, told))
put_is limit w w' e (Err f) adds entry number told refuses = refuses

-- ---- what the outcome says

pub adds_if_done : (limit : ℕ) (kept : List Entry) (entry : Entry) (outcome : Outcome) (kept' : List Entry) → IsDone limit kept entry outcome kept' → is_refused outcome ≡ false → Adds limit kept entry (λ list. kept' ≡ list)
adds_if_done limit kept entry (Ok r) kept' is stays = is.0
adds_if_done limit kept entry (Err Full) kept' is stays = absurd (cc (stays))
adds_if_done limit kept entry (Err Stale) kept' is stays = absurd is
adds_if_done limit kept entry (Err NoMemory) kept' is stays = absurd (cc (stays))
adds_if_done limit kept entry (Err Held) kept' is stays = is

pub swept_if_done : (limit : ℕ) (kept : List Entry) (entry : Entry) (outcome : Outcome) (kept' : List Entry) → IsDone limit kept entry outcome kept' → is_refused outcome ≡ true → IsSweptAtMost limit kept entry kept'
swept_if_done limit kept entry (Ok r) kept' is goes = absurd (cc (goes))
swept_if_done limit kept entry (Err Full) kept' is goes = inl is.1
swept_if_done limit kept entry (Err Stale) kept' is goes = absurd is
swept_if_done limit kept entry (Err NoMemory) kept' is goes = is
swept_if_done limit kept entry (Err Held) kept' is goes = absurd (cc (goes))

-- ---- the entries that were not refused

without_added : (limit : ℕ) (kept : List Entry) (entry : Entry) (kept' : List Entry) → is_sweep entry.operation ≡ false → Adds limit kept entry (λ list. kept' ≡ list) → without_sweeps kept' ≡ without_sweeps kept ++ entry ∷ []
without_added limit kept entry kept' plain (inl a) = ap without_sweeps a.1 ∙ without_more kept entry plain
without_added limit kept entry kept' plain (inr a) =
    let moment = a.0.message.received in
    ap without_sweeps a.1 ∙ (without_more (cleaned moment kept) entry plain ∙ ap (λ l. l ++ entry ∷ []) (without_cleaned moment kept))

without_swept : (limit : ℕ) (kept : List Entry) (entry : Entry) (kept' : List Entry) → IsSweptAtMost limit kept entry kept' → without_sweeps kept' ≡ without_sweeps kept
without_swept limit kept entry kept' (inl same) = ap without_sweeps same
without_swept limit kept entry kept' (inr s) = ap without_sweeps s.1 ∙ without_cleaned s.0.message.received kept

without_done : (limit : ℕ) (kept : List Entry) (entry : Entry) (outcome : Outcome) (kept' : List Entry) → is_sweep entry.operation ≡ false → IsDone limit kept entry outcome kept'
    → without_sweeps kept' ≡ without_sweeps kept ++ not_refused (entry ∷ []) (outcome ∷ [])
without_done limit kept entry outcome kept' plain is = go (is_refused outcome) refl
  where
    go : (b : Bool) → is_refused outcome ≡ b → without_sweeps kept' ≡ without_sweeps kept ++ cond b [] (entry ∷ [])
    go false stays = without_added limit kept entry kept' plain (adds_if_done limit kept entry outcome kept' is stays)
    go true goes = without_swept limit kept entry kept' (swept_if_done limit kept entry outcome kept' is goes) ∙ sym (append-nil (without_sweeps kept))

-- more entries
pub done_append : (limit : ℕ) (first entries : List Entry) (outcomes : List Outcome) (kept more : List Entry) (behind : List Outcome) (kept' : List Entry)
    → AreDone limit first entries outcomes kept → AreDone limit kept more behind kept' → AreDone limit first (entries ++ more) (outcomes ++ behind) kept'
done_append limit first [] [] kept more behind kept' are rest = let P : List Entry → Type 0 = λ l. AreDone limit l more behind kept' in subst P are rest
done_append limit first [] (a ∷ outcomes) kept more behind kept' are rest = absurd are
done_append limit first (e ∷ entries) [] kept more behind kept' are rest = absurd are
done_append limit first (e ∷ entries) (a ∷ outcomes) kept more behind kept' are rest = (are.0, are.1, done_append limit are.0 entries outcomes kept more behind kept' are.2 rest)

pub not_refused_append : (limit : ℕ) (first entries : List Entry) (outcomes : List Outcome) (kept more : List Entry) (behind : List Outcome) → AreDone limit first entries outcomes kept
    → not_refused (entries ++ more) (outcomes ++ behind) ≡ not_refused entries outcomes ++ not_refused more behind
not_refused_append limit first [] [] kept more behind are = refl
not_refused_append limit first [] (a ∷ outcomes) kept more behind are = absurd are
not_refused_append limit first (e ∷ entries) [] kept more behind are = absurd are
not_refused_append limit first (e ∷ entries) (a ∷ outcomes) kept more behind are = go (is_refused a) (not_refused_append limit are.0 entries outcomes kept more behind are.2)
  where
    go : (b : Bool) → not_refused (entries ++ more) (outcomes ++ behind) ≡ not_refused entries outcomes ++ not_refused more behind
        → cond b (not_refused (entries ++ more) (outcomes ++ behind)) (e ∷ not_refused (entries ++ more) (outcomes ++ behind))
        ≡ cond b (not_refused entries outcomes) (e ∷ not_refused entries outcomes) ++ not_refused more behind
    go true same = same
    go false same = ap (λ l. e ∷ l) same

pub without_all : (limit : ℕ) (kept entries : List Entry) (outcomes : List Outcome) (kept' : List Entry) → ArePlain entries → AreDone limit kept entries outcomes kept'
    → without_sweeps kept' ≡ without_sweeps kept ++ not_refused entries outcomes
without_all limit kept [] [] kept' plain are = ap without_sweeps are ∙ sym (append-nil (without_sweeps kept))
without_all limit kept [] (a ∷ outcomes) kept' plain are = absurd are
without_all limit kept (e ∷ entries) [] kept' plain are = absurd are
without_all limit kept (e ∷ entries) (a ∷ outcomes) kept' plain are =
    let one = without_done limit kept e a are.0 plain.0 are.1 in
    let rest = without_all limit are.0 entries outcomes kept' plain.1 are.2 in
    rest ∙ (ap (λ l. l ++ not_refused entries outcomes) one ∙ (append_assoc (without_sweeps kept) (not_refused (e ∷ []) (a ∷ [])) (not_refused entries outcomes) ∙ ap (λ l. without_sweeps kept ++ l) (go (is_refused a))))
  where
    go : (b : Bool) → cond b [] (e ∷ []) ++ not_refused entries outcomes ≡ cond b (not_refused entries outcomes) (e ∷ not_refused entries outcomes)
    go true = refl
    go false = refl

-- ---- what follows for the kept list

-- the list is what is kept of the entries, and what is kept of them and what is refused are all
abbrev pub AreKeptFrom : ℕ → List Entry → ℕ → List Entry → ℕ → Type 0
AreKeptFrom limit entries refused kept all = IsKeptFrom limit entries kept × (length (without_sweeps kept) + refused ≡ all)

one_kept_from : (limit : ℕ) (entries kept : List Entry) (entry : Entry) (outcome : Outcome) (kept' : List Entry) → IsKeptFrom limit entries kept → is_sweep entry.operation ≡ false → IsDone limit kept entry outcome kept'
    → AreKeptFrom limit (entries ++ entry ∷ []) (refused_in (outcome ∷ [])) kept' (length (without_sweeps kept) + 1)
one_kept_from limit entries kept entry outcome kept' s plain is = go (is_refused outcome) refl
  where
    go : (b : Bool) → is_refused outcome ≡ b → AreKeptFrom limit (entries ++ entry ∷ []) (length (cond b (outcome ∷ []) [])) kept' (length (without_sweeps kept) + 1)
    go false stays = let o = kept_from_entry limit entries kept kept' entry s plain (adds_if_done limit kept entry outcome kept' is stays) in (o.0, (let n = o.1 in omega (arith, n)))
    go true goes = let o = kept_from_refused limit entries kept kept' entry s (swept_if_done limit kept entry outcome kept' is goes) in (o.0, (let n = o.1 in omega (arith, n)))

refused_more : (outcome : Outcome) (outcomes : List Outcome) → refused_in (outcome ∷ outcomes) ≡ refused_in (outcome ∷ []) + refused_in outcomes
refused_more outcome outcomes = go (is_refused outcome)
  where
    go : (b : Bool) → length (cond b (outcome ∷ filter is_refused outcomes) (filter is_refused outcomes)) ≡ length (cond b (outcome ∷ []) []) + refused_in outcomes
    go true = omega arith
    go false = omega arith

pub all_plain : (entries : List Entry) → ArePlain entries → All (λ e. is_sweep e.operation ≡ false) entries
all_plain [] plain k d lt = absurd (omega (arith, lt))
all_plain (entry ∷ entries) plain zero d lt = plain.0
all_plain (entry ∷ entries) plain (suc k) d lt = all_plain entries plain.1 k d (omega (arith, lt))

pub all_kept_from : (limit : ℕ) (before entries : List Entry) (outcomes : List Outcome) (kept kept' : List Entry) → IsKeptFrom limit before kept → All (λ e. is_sweep e.operation ≡ false) entries → AreDone limit kept entries outcomes kept'
    → AreKeptFrom limit (before ++ entries) (refused_in outcomes) kept' (length (without_sweeps kept) + length entries)
all_kept_from limit before [] [] kept kept' s plain are =
    let P : List Entry → Type 0 = λ l. AreKeptFrom limit l 0 kept' (length (without_sweeps kept) + 0) in
    let Q : List Entry → Type 0 = λ l. AreKeptFrom limit before 0 l (length (without_sweeps kept) + 0) in
    subst P (sym (append-nil before)) (subst Q (sym are) (s, refl))
all_kept_from limit before [] (outcome ∷ outcomes) kept kept' s plain are = absurd are
all_kept_from limit before (entry ∷ entries) [] kept kept' s plain are = absurd are
all_kept_from limit before (entry ∷ entries) (outcome ∷ outcomes) kept kept' s plain are =
    let next = are.0 in
    let one = one_kept_from limit before kept entry outcome next s (plain 0 entry (omega arith)) are.1 in
    let rest = all_kept_from limit (before ++ entry ∷ []) entries outcomes next kept' one.0 (λ k d lt. plain (suc k) d (omega (arith, lt))) are.2 in
    let P : List Entry → Type 0 = λ l. IsKeptFrom limit l kept' in (
      subst P (append_assoc before (entry ∷ []) entries) rest.0,
      (let n = one.1 in let m = rest.1 in let r = refused_more outcome outcomes in omega (arith, n, m, r)),
    )

one_sweeps : (limit : ℕ) (entries kept : List Entry) (entry : Entry) (outcome : Outcome) (kept' : List Entry) → AreForEntries limit entries kept → is_sweep entry.operation ≡ false → IsDone limit kept entry outcome kept'
    → AreForEntries limit (entries ++ entry ∷ []) kept'
one_sweeps limit entries kept entry outcome kept' a plain is = go (is_refused outcome) refl
  where
    go : (b : Bool) → is_refused outcome ≡ b → AreForEntries limit (entries ++ entry ∷ []) kept'
    go false stays = sweeps_entry limit entries kept kept' entry a plain (adds_if_done limit kept entry outcome kept' is stays)
    go true goes = sweeps_refused limit entries kept kept' entry a (swept_if_done limit kept entry outcome kept' is goes)

pub all_sweeps : (limit : ℕ) (before entries : List Entry) (outcomes : List Outcome) (kept kept' : List Entry) → AreForEntries limit before kept → All (λ e. is_sweep e.operation ≡ false) entries → AreDone limit kept entries outcomes kept'
    → AreForEntries limit (before ++ entries) kept'
all_sweeps limit before [] [] kept kept' a plain are =
    let P : List Entry → Type 0 = λ l. AreForEntries limit l kept' in
    let Q : List Entry → Type 0 = λ l. AreForEntries limit before l in
    subst P (sym (append-nil before)) (subst Q (sym are) a)
all_sweeps limit before [] (outcome ∷ outcomes) kept kept' a plain are = absurd are
all_sweeps limit before (entry ∷ entries) [] kept kept' a plain are = absurd are
all_sweeps limit before (entry ∷ entries) (outcome ∷ outcomes) kept kept' a plain are =
    let one = one_sweeps limit before kept entry outcome are.0 a (plain 0 entry (omega arith)) are.1 in
    let P : List Entry → Type 0 = λ l. AreForEntries limit l kept' in
    subst P (append_assoc before (entry ∷ []) entries) (all_sweeps limit (before ++ entry ∷ []) entries outcomes are.0 kept' one (λ k d lt. plain (suc k) d (omega (arith, lt))) are.2)

pub kept_by_outcomes : (limit : ℕ) (first entries kept : List Entry) (outcomes : List Outcome) → AreOwn first → SerialsRise first → All (λ e. is_sweep e.operation ≡ false) entries → AreDone limit first entries outcomes kept
    → IsPart (without_sweeps kept) (first ++ entries) × (length (without_sweeps kept) + refused_in outcomes ≡ length entries + length first) × AreForEntries limit entries kept
kept_by_outcomes limit first entries kept outcomes own rises plain are =
    let all = all_kept_from limit first entries outcomes first kept (kept_from_first limit first own rises) plain are in
    let sum = all.1 in
    let n = ap length (own_plain first own) in
    (all.0.part, omega (arith, sum, n), all_sweeps limit [] entries outcomes first kept (own_sweeps limit [] first own) plain are)

-- ---- the changes of one job

outcomes_append : (limit : ℕ) (first : Written) (entries : List Entry) (outcomes : List Outcome) (w : Written) (more : List Entry) (behind : List Outcome) (w' : Written)
    → AreOutcomes limit first entries outcomes w → AreOutcomes limit w more behind w' → AreOutcomes limit first (entries ++ more) (outcomes ++ behind) w'
outcomes_append limit first [] [] w more behind w' are rest = let P : Written → Type 0 = λ v. AreOutcomes limit v more behind w' in subst P are rest
outcomes_append limit first [] (a ∷ outcomes) w more behind w' are rest = absurd are
outcomes_append limit first (e ∷ entries) [] w more behind w' are rest = absurd are
outcomes_append limit first (e ∷ entries) (a ∷ outcomes) w more behind w' are rest = (are.0, are.1, outcomes_append limit are.0 entries outcomes w more behind w' are.2 rest)

pub replies_append : (limit : ℕ) (first entries : List Entry) (outcomes : List Outcome) (kept more : List Entry) (behind : List Outcome) → AreDone limit first entries outcomes kept
    → replies_to (entries ++ more) (outcomes ++ behind) ≡ replies_to entries outcomes ++ replies_to more behind
replies_append limit first [] [] kept more behind are = refl
replies_append limit first [] (a ∷ outcomes) kept more behind are = absurd are
replies_append limit first (e ∷ entries) [] kept more behind are = absurd are
replies_append limit first (e ∷ entries) (a ∷ outcomes) kept more behind are = ap (λ l. record { origin = e.origin; outcome = a } ∷ l) (replies_append limit are.0 entries outcomes kept more behind are.2)

or_assoc : (a b c : Bool) → (a || (b || c)) ≡ ((a || b) || c)
or_assoc true b c = refl
or_assoc false b c = refl

or_false : (a : Bool) → (a || false) ≡ a
or_false true = refl
or_false false = refl

has_held_append : (outcomes behind : List Outcome) → has_held (outcomes ++ behind) ≡ (has_held outcomes || has_held behind)
has_held_append [] behind = refl
has_held_append (a ∷ outcomes) behind = ap (λ b. is_held a || b) (has_held_append outcomes behind) ∙ or_assoc (is_held a) (has_held outcomes) (has_held behind)

behind_append : (most : ℕ) (outcomes behind : List Outcome) → AreRefusedBehind most outcomes → AreRefusedBehind most behind → (has_held outcomes ≡ true → AllByRecursion (IsBehindHeld most) behind) → AreRefusedBehind most (outcomes ++ behind)
behind_append most [] behind are more here = more
behind_append most (a ∷ outcomes) behind are more here = (
  (λ is. all_append (IsBehindHeld most) outcomes behind (are.0 is) (here (or_left (is_held a) (has_held outcomes) is))),
  behind_append most outcomes behind are.1 more (λ is. here (or_right (is_held a) (has_held outcomes) is)),
)

refused_append : (outcomes behind : List Outcome) → refused_in (outcomes ++ behind) ≡ refused_in outcomes + refused_in behind
refused_append outcomes behind = ap length (filter-append is_refused outcomes behind) ∙ length-append (filter is_refused outcomes) (filter is_refused behind)

pub refused_one : (outcome : Outcome) → refused_in (outcome ∷ []) ≤ 1
refused_one outcome = go (is_refused outcome)
  where
    go : (b : Bool) → length (cond b (outcome ∷ []) []) ≤ 1
    go true = omega arith
    go false = omega arith

-- nothing is put yet
pub put_none : {most : ℕ} (limit : ℕ) (w : Written) (held : Bool) (rest : List Entry) (replies : List ReplyValue) → replies ≡ [] → ArePut limit most w held rest replies 0 held rest w
put_none limit w held rest replies none = record {
  first = [];
  are = refl;
  replied = record { outcomes = []; done = refl; outcomes_are = refl; behind = tt; replies_are = none; refused_are = refl };
  behind = (λ is. tt);
  held_is = sym (or_false held);
}

-- a change is put that is a job of its own
pub replied_one : {most : ℕ} (limit : ℕ) (w : Written) (entry : Entry) (reply : ReplyValue) (count : ℕ) (w' : Written)
    → IsDone limit (kept_of w) entry reply.outcome (kept_of w') → reply.origin ≡ entry.origin → IsOutcome limit w entry reply.outcome w'
    → count ≡ refused_in (reply.outcome ∷ []) → AreReplied limit most w (entry ∷ []) (reply ∷ []) count w'
replied_one limit w entry reply count w' done origin outcome_is number =
    let outcome = reply.outcome in
    record {
      outcomes = outcome ∷ [];
      done = (kept_of w', done, refl);
      outcomes_are = (w', outcome_is, refl);
      behind = ((λ is. tt), tt);
      replies_are = ap (λ o. record { origin = o; outcome = outcome } ∷ []) origin;
      refused_are = number;
    }

pub put_one : {most : ℕ} (limit : ℕ) (w : Written) (held : Bool) (rest rest' : List Entry) (entry : Entry) (reply : ReplyValue) (count : ℕ) (held' : Bool) (w' : Written)
    → rest ≡ entry ∷ rest' → IsDone limit (kept_of w) entry reply.outcome (kept_of w') → reply.origin ≡ entry.origin → IsOutcome limit w entry reply.outcome w'
    → (held ≡ true → IsBehindHeld most reply.outcome) → held' ≡ (held || is_held reply.outcome) → count ≡ refused_in (reply.outcome ∷ []) → ArePut limit most w held rest (reply ∷ []) count held' rest' w'
put_one limit w held rest rest' entry reply count held' w' first done origin outcome_is behind holds number =
    let outcome = reply.outcome in
    record {
      first = entry ∷ [];
      are = first;
      replied = record {
        outcomes = outcome ∷ [];
        done = (kept_of w', done, refl);
        outcomes_are = (w', outcome_is, refl);
        behind = ((λ is. tt), tt);
        replies_are = ap (λ o. record { origin = o; outcome = outcome } ∷ []) origin;
        refused_are = number;
      };
      behind = (λ is. (behind is, tt));
      held_is = holds ∙ ap (λ h. held || h) (sym (or_false (is_held outcome)));
    }

-- more of the job is put
pub put_more : {most : ℕ} (limit : ℕ) (w : Written) (held : Bool) (all : List Entry) (replies : List ReplyValue) (refused : ℕ) (held1 : Bool) (rest1 : List Entry) (w1 : Written) (more : List ReplyValue) (count : ℕ) (held2 : Bool) (rest2 : List Entry) (w2 : Written) (replies' : List ReplyValue)
    → ArePut limit most w held all replies refused held1 rest1 w1 → ArePut limit most w1 held1 rest1 more count held2 rest2 w2 → replies' ≡ replies ++ more → ArePut limit most w held all replies' (refused + count) held2 rest2 w2
put_more {most} limit w held all replies refused held1 rest1 w1 more count held2 rest2 w2 replies' a b joined =
    let xs = a.replied.outcomes in
    let ys = b.replied.outcomes in
    record {
      first = a.first ++ b.first;
      are = a.are ∙ (ap (λ l. a.first ++ l) b.are ∙ sym (append_assoc a.first b.first rest2));
      replied = record {
        outcomes = xs ++ ys;
        done = done_append limit (kept_of w) a.first xs (kept_of w1) b.first ys (kept_of w2) a.replied.done b.replied.done;
        outcomes_are = outcomes_append limit w a.first xs w1 b.first ys w2 a.replied.outcomes_are b.replied.outcomes_are;
        behind = behind_append most xs ys a.replied.behind b.replied.behind (λ is. b.behind (a.held_is ∙ or_right held (has_held xs) is));
        replies_are = joined ∙ (ap (λ l. l ++ more) a.replied.replies_are ∙ (ap (λ l. replies_to a.first xs ++ l) b.replied.replies_are ∙ sym (replies_append limit (kept_of w) a.first xs (kept_of w1) b.first ys a.replied.done)));
        refused_are = ap (λ n. n + count) a.replied.refused_are ∙ (ap (λ n. refused_in xs + n) b.replied.refused_are ∙ sym (refused_append xs ys));
      };
      behind = (λ is. all_append (IsBehindHeld most) xs ys (a.behind is) (b.behind (a.held_is ∙ or_left held (has_held xs) is)));
      held_is = b.held_is ∙ (ap (λ h. h || has_held ys) a.held_is ∙ (sym (or_assoc held (has_held xs) (has_held ys)) ∙ ap (λ h. held || h) (sym (has_held_append xs ys))));
    }

-- ---- the changes that are left

pub above_all : (place : ℕ) (es : List Entry) → 0 < place → AreOf place es → AllByRecursion (λ (e : Entry). 0 < e.origin.place) es
above_all place [] some of = tt
above_all place (e ∷ es) some of = ((let same = of.0 in omega (arith, some, same)), above_all place es some of.1)

-- if memory for replies is refused, none is left
pub left_none : (limit : ℕ) (kept rest left : List Entry) → left ≡ [] → AreToPut limit kept rest → AreToPut limit kept left
left_none limit kept rest left none l =
    let P : List Entry → Type 0 = λ r. AreToPut limit kept r in
    let Q : List Entry → Type 0 = λ r. SerialsRise r in
    subst P (sym none) (
    record {
      entries = l.entries;
      kept_from = l.kept_from;
      rise = subst Q (sym (append-nil l.entries)) (part_rises l.entries (l.entries ++ rest) (part_front l.entries rest) l.rise);
      plain = tt;
      above = tt;
    }
    )

pub left_all : (limit : ℕ) (kept entries changes : List Entry) → IsKeptFrom limit entries kept → SerialsRise (entries ++ changes) → AreOfOneJob changes → AreToPut limit kept changes
left_all limit kept entries changes kept_from rise are =
    record { entries = entries; kept_from = kept_from; rise = rise; plain = are.plain; above = above_all (place_of_all changes) changes are.above are.place }

left_first : (limit : ℕ) (kept rest left : List Entry) (entry : Entry) → rest ≡ entry ∷ left → AreToPut limit kept rest → AreToPut limit kept (entry ∷ left)
left_first limit kept rest left entry first l = let P : List Entry → Type 0 = λ r. AreToPut limit kept r in subst P first l

pub left_plain : (limit : ℕ) (kept rest left : List Entry) (entry : Entry) → rest ≡ entry ∷ left → AreToPut limit kept rest → is_sweep entry.operation ≡ false
left_plain limit kept rest left entry first l = (left_first limit kept rest left entry first l).plain.0

pub left_rises : (limit : ℕ) (kept rest left : List Entry) (entry : Entry) → rest ≡ entry ∷ left → 0 < entry.origin.serial → AreToPut limit kept rest → SerialsRise (extended kept entry)
left_rises limit kept rest left entry first serial l =
    let f = left_first limit kept rest left entry first l in
    let P : List Entry → Type 0 = λ r. SerialsRise r in
    let all : SerialsRise ((f.entries ++ entry ∷ []) ++ left) = subst P (sym (append_assoc f.entries (entry ∷ []) left)) f.rise in
    entry_rises limit f.entries kept entry f.kept_from f.above.0 serial (part_rises (f.entries ++ entry ∷ []) ((f.entries ++ entry ∷ []) ++ left) (part_front (f.entries ++ entry ∷ []) left) all)

pub left_less : (limit : ℕ) (kept rest left : List Entry) (entry : Entry) (outcome : Outcome) (kept' : List Entry) → rest ≡ entry ∷ left → IsDone limit kept entry outcome kept' → AreToPut limit kept rest → AreToPut limit kept' left
left_less limit kept rest left entry outcome kept' first is l =
    let f = left_first limit kept rest left entry first l in
    let P : List Entry → Type 0 = λ r. SerialsRise r in
    record {
      entries = f.entries ++ entry ∷ [];
      kept_from = (one_kept_from limit f.entries kept entry outcome kept' f.kept_from f.plain.0 is).0;
      rise = subst P (sym (append_assoc f.entries (entry ∷ []) left)) f.rise;
      plain = f.plain.1;
      above = f.above.1;
    }

-- all that is left is plain, and rises behind what is kept
pub left_ready : (limit : ℕ) (kept rest : List Entry) → AreToPut limit kept rest → All (λ e. is_sweep e.operation ≡ false) rest × SerialsRise (kept ++ rest)
left_ready limit kept rest l = (all_plain rest l.plain, all_rise limit l.entries kept rest l.kept_from l.above l.rise)

-- ---- the entries that a writer was made ready for

pub ready_next : (ready : List Entry) (count : ℕ) (rest left : List Entry) (entry : Entry) → 0 < count → rest ≡ entry ∷ left → IsReadyFor ready (take count rest) → IsNextOf ready entry
ready_next ready zero rest left entry some first r = absurd (omega (arith, some))
ready_next ready (suc n) rest left entry some first r = ⊎_elim (λ none. inl none) (λ are. inr (take n left, are ∙ ap (λ l. take (suc n) l) first)) r

pub ready_left : (ready ready' : List Entry) (count count' : ℕ) (rest left : List Entry) (entry : Entry) → count ≡ count' + 1 → rest ≡ entry ∷ left → ready' ≡ drop 1 ready → IsReadyFor ready (take count rest) → IsReadyFor ready' (take count' left)
ready_left ready ready' count count' rest left entry less first dropped r = ⊎_elim
    (λ (none : ready ≡ []). inl (dropped ∙ ap (λ l. drop 1 l) none))
    (λ (are : ready ≡ take count rest).
    let n : count ≡ suc count' = omega (arith, less) in
    let all : ready ≡ entry ∷ take count' left = are ∙ (ap (λ k. take k rest) n ∙ ap (λ l. take (suc count') l) first) in
    inr (dropped ∙ ap (λ l. drop 1 l) all))
    r

pub ready_none : (ready : List Entry) (count : ℕ) (rest : List Entry) → count ≡ 0 → IsReadyFor ready (take count rest) → ready ≡ []
ready_none ready count rest none r = ⊎_elim (λ is. is) (λ are. are ∙ ap (λ k. take k rest) none) r

-- the outcomes where nothing is put
abbrev all_refused : List Entry → List Outcome
all_refused [] = []
all_refused (entry ∷ entries) = Err NoMemory ∷ all_refused entries

refused_done : (limit : ℕ) (kept entries : List Entry) → AreDone limit kept entries (all_refused entries) kept
refused_done limit kept [] = refl
refused_done limit kept (entry ∷ entries) = (kept, inl refl, refused_done limit kept entries)

refused_outcomes : (limit : ℕ) (w : Written) (entries : List Entry) → AreOutcomes limit w entries (all_refused entries) w
refused_outcomes limit w [] = refl
refused_outcomes limit w (entry ∷ entries) = (w, inr refl, refused_outcomes limit w entries)

refused_behind : (most : ℕ) (entries : List Entry) → AreRefusedBehind most (all_refused entries)
refused_behind most [] = tt
refused_behind most (entry ∷ entries) = ((λ is. absurd (cc (is))), refused_behind most entries)

refused_replies : (entries : List Entry) → map refused_reply entries ≡ replies_to entries (all_refused entries)
refused_replies [] = refl
refused_replies (entry ∷ entries) = ap (λ l. refused_reply entry ∷ l) (refused_replies entries)

refused_count : (entries : List Entry) → length entries ≡ refused_in (all_refused entries)
refused_count [] = refl
refused_count (entry ∷ entries) = ap suc (refused_count entries)

refused_all : (most : ℕ) (entries : List Entry) → AllByRecursion (IsBehindHeld most) (all_refused entries)
refused_all most [] = tt
refused_all most (entry ∷ entries) = (inl refl, refused_all most entries)

refused_unheld : (entries : List Entry) → has_held (all_refused entries) ≡ false
refused_unheld [] = refl
refused_unheld (entry ∷ entries) = refused_unheld entries

pub put_refusing : {most : ℕ} (limit : ℕ) (w : Written) (held : Bool) (rest : List Entry) (replies : List ReplyValue) (refused : ℕ) (left : List Entry) → replies ≡ map refused_reply rest → refused ≡ length rest → left ≡ [] → ArePut limit most w held rest replies refused held left w
put_refusing {most} limit w held rest replies refused left are number none = record {
  first = rest;
  are = sym (ap (λ l. rest ++ l) none ∙ append-nil rest);
  replied = record {
    outcomes = all_refused rest;
    done = refused_done limit (kept_of w) rest;
    outcomes_are = refused_outcomes limit w rest;
    behind = refused_behind most rest;
    replies_are = are ∙ refused_replies rest;
    refused_are = number ∙ refused_count rest;
  };
  behind = (λ is. refused_all most rest);
  held_is = sym (ap (λ h. held || h) (refused_unheld rest) ∙ or_false held);
}
