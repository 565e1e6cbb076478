-- What the writer's invariant says, and that each step of the writer keeps it.
use Rattle.std.proofs.Common.{◌≡◌, ℕ, ◌<◌, ◌≤◌, List, [], ◌∷◌, ◌++◌, length, fold, ◌⊎◌, Option, Some, None, Result, Ok, Err, OnOk, IfErr, inl, inr, ⊎_elim, subst, refl, sym, ◌∙◌, ap, arith, length-append}
use Rattle.std.specs.List.Sorted.{IsStrictlySortedBy}
use Rattle.std.specs.Map.{keys_of}
use Rattle.std.proofs.lemmas.List.{append-nil}
use Rattle.logbook.specs.Pages.{Book}
use Rattle.rs_topic.specs.Order.{topic_cmp}
use Rattle.rs_message.specs.declared.entry.Entry.{Entry}
use Rattle.rs_message.specs.declared.entry.TheConstants.{MAX_LINES}
use Rattle.rs_store.specs.declared.content.Content.{Content}
use Rattle.rs_store.specs.Bytes.{retained_bytes}
use Rattle.rs_store.specs.Contents.{Accepts, after, followed}
use Rattle.rs_store.specs.Expiring.{NoneExpiredBefore}
use Rattle.rs_store.specs.Adding.{Adds}
use Rattle.rs_store.specs.History.{IsLegal, cleaned, extended}
use Rattle.rs_store.proofs.Histories.{legal_front}
use Rattle.rs_store.proofs.Standing.{accepts}
use Rattle.rs_version.specs.Catalogues.{content_of}
use Rattle.rs_version.specs.declared.catalogue_copy.CatalogueCopy.{CatalogueCopy}
use Rattle.rs_version.specs.declared.catalogue_copy.CopyStep.{CopyStep}
use Rattle.rs_version.specs.declared.copies.Copies.{Copies}
use Rattle.rs_version.specs.declared.fault.PutFault.{PutFault}
use Rattle.rs_version.specs.declared.fault.PutFault.TheVariants.{Full, Stale, NoMemory, Held}
use Rattle.rs_version.specs.Copies.{listed, shown, steps_of}
use Rattle.rs_version.specs.Receipts.{StandsAt}
use Rattle.rs_version.specs.VersionRule.{Follows, IsSound, applied, state}
use Rattle.rs_version.specs.Writer.{Declines, Defers, IsReady, IsWriting, Precedes, Refuses, StepsFor, Written, holds_back, kept_content, kept_of, released, shows}
use Rattle.rs_version.proofs.VersionRule.{goes_on}

-- what is held is one entry or none
pub unlisted : {A : Type 0} (o : Option A) → listed o ≡ [] → o ≡ None
unlisted None is = refl
unlisted (Some x) is = absurd (cc (is))

-- if nothing is held, the kept list is the published one
nothing_held : (history : Book) (limit memory : ℕ) (copies : Copies) (list : List Entry) (calm : ℕ) (held : Option Entry) → IsWriting history limit memory copies list calm held → held ≡ None → list ≡ (shown copies).prefix.log
nothing_held history limit memory copies list calm held w none = w.list_is ∙ (ap (λ h. (shown copies).prefix.log ++ listed h) none ∙ append-nil (shown copies).prefix.log)

-- and the calm moment is that of the published copy
pub calm_of : (history : Book) (limit memory : ℕ) (copies : Copies) (list : List Entry) (calm : ℕ) (held : Option Entry) → IsWriting history limit memory copies list calm held → held ≡ None → NoneExpiredBefore calm (content_of (shown copies).catalogue)
calm_of history limit memory copies list calm held w none =
    let P : Option Entry → Type 0 = λ h. NoneExpiredBefore calm (kept_content (content_of (shown copies).catalogue) h) in
    subst P none w.calm_is

-- so it may be another one of that copy
pub judged_writing : (history : Book) (limit memory : ℕ) (copies : Copies) (list : List Entry) (calm calm' : ℕ) (held : Option Entry) → IsWriting history limit memory copies list calm held → held ≡ None → NoneExpiredBefore calm' (content_of (shown copies).catalogue)
    → IsWriting history limit memory copies list calm' held
judged_writing history limit memory copies list calm calm' held w none now =
    let P : Option Entry → Type 0 = λ h. NoneExpiredBefore calm' (kept_content (content_of (shown copies).catalogue) h) in
    record {
      history_is = w.history_is;
      limit_is = w.limit_is;
      sound = w.sound;
      list_is = w.list_is;
      calm_is = subst P (sym none) now;
      steps = w.steps;
      small = w.small;
    }

-- if the publish is refused, all is as before
pub still_writing : (history : Book) (limit memory : ℕ) (copies copies' : Copies) (list : List Entry) (calm : ℕ) (held : Option Entry) → IsWriting history limit memory copies list calm held → shown copies' ≡ shown copies → steps_of copies' ≡ steps_of copies
    → IsWriting history limit memory copies' list calm held
still_writing history limit memory copies copies' list calm held w same steps =
    let C : CatalogueCopy → Type 0 = λ x. NoneExpiredBefore calm (kept_content (content_of x.catalogue) held) in
    let M : CatalogueCopy → Type 0 = λ x. retained_bytes (kept_content (content_of x.catalogue) held).retained ≤ memory in
    let P : CatalogueCopy → Type 0 = λ x. StepsFor x held (steps_of copies) in
    let Q : List CopyStep → Type 0 = λ ss. StepsFor (shown copies') held ss in
    record {
      history_is = ap (λ x. x.prefix.history) same ∙ w.history_is;
      limit_is = ap (λ x. (content_of x.catalogue).limit) same ∙ w.limit_is;
      sound = subst IsSound (sym same) w.sound;
      list_is = w.list_is ∙ ap (λ x. x.prefix.log ++ listed held) (sym same);
      calm_is = subst C (sym same) w.calm_is;
      steps = subst Q (sym steps) (subst P (sym same) w.steps);
      small = subst M (sym same) w.small;
    }

-- if it is done, nothing is held
pub all_published : (history : Book) (limit memory : ℕ) (copies copies' : Copies) (list : List Entry) (calm : ℕ) (held : Option Entry) (e : Entry) → IsWriting history limit memory copies list calm held → held ≡ Some e
    → state (shown copies') ≡ fold applied (state (shown copies)) (steps_of copies) → steps_of copies' ≡ [] → IsWriting history limit memory copies' list calm None
all_published history limit memory copies copies' list calm held e writing is goes none =
    let W : Option Entry → Type 0 = λ h. IsWriting history limit memory copies list calm h in
    let w : IsWriting history limit memory copies list calm (Some e) = subst W is writing in
    let x = shown copies in
    let y = shown copies' in
    let next = w.steps in
    let one : length (steps_of copies) ≤ 1 = rw next.1 (omega arith) in
    let follows : (s : CopyStep) → steps_of copies ≡ s ∷ [] → Follows x s = λ s at. let same : next.0 ≡ s = cc (next.1, at) in subst (Follows x) same next.3 in
    let g = goes_on x y (steps_of copies) one follows goes w.sound in
    let step = goes ∙ ap (λ ss. fold applied (state x) ss) next.1 in
    let last : y.prefix ≡ next.0.after = ap (λ p. p.1) step in
    let log : y.prefix.log ≡ list = ap (λ z. z.log) last ∙ (next.3.3 ∙ (ap (λ z. extended x.prefix.log z) next.2 ∙ sym w.list_is)) in
    let content : content_of y.catalogue ≡ followed (content_of x.catalogue) e = ap (λ p. p.0) step ∙ ap (λ z. followed (content_of x.catalogue) z) next.2 in
    record {
      history_is = g.1.0 ∙ w.history_is;
      limit_is = g.1.1 ∙ w.limit_is;
      sound = g.0;
      list_is = sym log ∙ sym (append-nil y.prefix.log);
      calm_is = subst (NoneExpiredBefore calm) (sym content) w.calm_is;
      steps = none;
      small = let M : Content → Type 0 = λ z. retained_bytes z.retained ≤ memory in subst M (sym content) w.small;
    }

-- what is retained is in the order of replay, and counts no more than the writer may keep
pub sorted_of : (history : Book) (limit memory : ℕ) (copies : Copies) (list : List Entry) (calm : ℕ) (held : Option Entry) → IsWriting history limit memory copies list calm held
    → IsStrictlySortedBy topic_cmp (keys_of (content_of (shown copies).catalogue).retained)
sorted_of history limit memory copies list calm held w = w.sound.retained.rises

pub small_of : (history : Book) (limit memory : ℕ) (copies : Copies) (list : List Entry) (calm : ℕ) (held : Option Entry) → IsWriting history limit memory copies list calm held → held ≡ None
    → retained_bytes (content_of (shown copies).catalogue).retained ≤ memory
small_of history limit memory copies list calm held w none =
    let P : Option Entry → Type 0 = λ h. retained_bytes (kept_content (content_of (shown copies).catalogue) h).retained ≤ memory in
    subst P none w.small

-- an entry that was appended is held
pub appended : (history : Book) (limit memory : ℕ) (copies copies' : Copies) (list list' : List Entry) (calm calm' : ℕ) (held : Option Entry) (e : Entry) (step : CopyStep) → IsWriting history limit memory copies list calm held → held ≡ None
    → IsLegal limit (extended (shown copies).prefix.log e) → e.origin.place ≤ MAX_LINES → 0 < e.origin.serial
    → shown copies' ≡ shown copies → steps_of copies' ≡ step ∷ [] → step.entry ≡ e → step.after.history ≡ history → step.after.log ≡ list' → list' ≡ extended list e
    → ((c : Content) → NoneExpiredBefore calm c → NoneExpiredBefore calm' (followed c e))
    → retained_bytes (after (content_of (shown copies).catalogue).retained e.operation) ≤ memory
    → IsWriting history limit memory copies' list' calm' (Some e)
appended history limit memory copies copies' list list' calm calm' held e step w none legal small some same steps entry book log more later fits_in =
    let x = shown copies in
    let list_is : list' ≡ extended x.prefix.log e = more ∙ ap (λ l. extended l e) (nothing_held history limit memory copies list calm held w none) in
    let L : ℕ → Type 0 = λ n. IsLegal n (extended x.prefix.log e) in
    let a : Accepts (content_of x.catalogue) e = accepts (content_of x.catalogue) x.prefix.log e w.sound some (subst L (sym w.limit_is) legal) in
    let A : Entry → Type 0 = λ z. (z.origin.place ≤ MAX_LINES) × Accepts (content_of x.catalogue) z in
    let fits : (step.entry.origin.place ≤ MAX_LINES) × Accepts (content_of x.catalogue) step.entry = subst A (sym entry) (small, a) in
    let follows : Follows x step = (fits.0, fits.1, book ∙ sym w.history_is, log ∙ (list_is ∙ ap (λ z. extended x.prefix.log z) (sym entry))) in
    let F : CatalogueCopy → Type 0 = λ z. Follows z step in
    let C : CatalogueCopy → Type 0 = λ z. NoneExpiredBefore calm' (followed (content_of z.catalogue) e) in
    let M : CatalogueCopy → Type 0 = λ z. retained_bytes (after (content_of z.catalogue).retained e.operation) ≤ memory in
    record {
      history_is = ap (λ z. z.prefix.history) same ∙ w.history_is;
      limit_is = ap (λ z. (content_of z.catalogue).limit) same ∙ w.limit_is;
      sound = subst IsSound (sym same) w.sound;
      list_is = list_is ∙ ap (λ z. extended z.prefix.log e) (sym same);
      calm_is = subst C (sym same) (later (content_of x.catalogue) (calm_of history limit memory copies list calm held w none));
      steps = (step, steps, entry, subst F (sym same) follows);
      small = subst M (sym same) fits_in;
    }

-- ---- what `put` makes of what is kept

released_log : (w w' : Written) → w' ≡ released w → w'.published ≡ kept_of w
released_log w w' is = ap (λ (z : Written). z.published) is

-- why the entry does not come next, if all that was kept is published
pub declines_refuses : (limit : ℕ) (w w' : Written) (e : Entry) (f : PutFault) → w' ≡ released w → Declines limit w'.published e f → Refuses limit w e f w'
declines_refuses limit w w' e Stale is h = (let P : List Entry → Type 0 = λ l. Declines limit l e Stale in subst P (released_log w w' is) h, is)
declines_refuses limit w w' e Full is h = (let P : List Entry → Type 0 = λ l. Declines limit l e Full in subst P (released_log w w' is) h, is)
declines_refuses limit w w' e NoMemory is h = absurd h
declines_refuses limit w w' e Held is h = absurd h

pub kept_refuses : (limit : ℕ) (w w' : Written) (e : Entry) → (w.held ≡ [] → ⊥) → w' ≡ w → Refuses limit w e NoMemory w'
kept_refuses limit w w' e some is = inr (inr (some, is))

-- the Sweep before an entry may come next
pub precedes_legal : (limit : ℕ) (history : List Entry) (e sweep : Entry) → Precedes limit history e sweep → IsLegal limit (extended history sweep)
precedes_legal limit history e sweep p =
    let m = p.0.message.received in
    let clean : IsLegal limit (cleaned m history) = legal_front limit (cleaned m history) (extended (cleaned m history) e) (e ∷ [], refl) p.0.legal in
    let P : List Entry → Type 0 = λ l. IsLegal limit l in
    subst P (sym (ap (λ (z : Entry). extended history z) p.1)) clean

precedes_at : (limit : ℕ) (w w' : Written) (e sweep : Entry) → w' ≡ released w → Precedes limit w'.published e sweep → Precedes limit (kept_of w) e sweep
precedes_at limit w w' e sweep is p = let P : List Entry → Type 0 = λ l. Precedes limit l e sweep in subst P (released_log w w' is) p

pub plain_ready : (limit : ℕ) (w w' : Written) (e : Entry) → w' ≡ released w → IsLegal limit (extended w'.published e) → IsReady limit w e w'
plain_ready limit w w' e is legal = inl (let P : List Entry → Type 0 = λ l. IsLegal limit (extended l e) in subst P (released_log w w' is) legal, is)

pub swept_ready : (limit : ℕ) (w w' w'' : Written) (e sweep : Entry) → w' ≡ released w → Precedes limit w'.published e sweep → w'' ≡ shows (extended w'.published sweep) → IsReady limit w e w''
swept_ready limit w w' w'' e sweep is p now =
    let q = precedes_at limit w w' e sweep is p in
    inr (q.0, now ∙ (ap (λ (l : List Entry). shows (extended l sweep)) (released_log w w' is) ∙ ap (λ (z : Entry). shows (extended (kept_of w) z)) q.1))

pub swept_refuses : (limit : ℕ) (w w' w'' : Written) (e sweep : Entry) → w' ≡ released w → Precedes limit w'.published e sweep → (w'' ≡ w') ⊎ (w'' ≡ holds_back w'.published sweep) → Refuses limit w e NoMemory w''
swept_refuses limit w w' w'' e sweep is p left =
    let q = precedes_at limit w w' e sweep is p in
    inr (inl (
      q.0,
      ⊎_elim
          (λ k. inl (k ∙ is))
          (λ k. inr (inl (k ∙ (ap (λ (l : List Entry). holds_back l sweep) (released_log w w' is) ∙ ap (λ (z : Entry). holds_back (kept_of w) z) q.1))))
          left,
    ))

ready_log : (limit : ℕ) (w w' : Written) (e : Entry) → IsReady limit w e w' → (w'.held ≡ []) × IsLegal limit (extended w'.published e)
ready_log limit w w' e (inl r) = (ap (λ (z : Written). z.held) r.1, (let P : List Entry → Type 0 = λ l. IsLegal limit (extended l e) in subst P (sym (released_log w w' r.1)) r.0))
ready_log limit w w' e (inr r) = (
  ap (λ (z : Written). z.held) r.1,
  (let P : List Entry → Type 0 = λ l. IsLegal limit (extended l e) in subst P (sym (ap (λ (z : Written). z.published) r.1)) r.0.legal),
)

pub ready_free : (limit : ℕ) (w w' : Written) (e : Entry) → IsReady limit w e w' → w'.held ≡ []
ready_free limit w w' e r = (ready_log limit w w' e r).0

pub ready_legal : (limit : ℕ) (w w' : Written) (e : Entry) → IsReady limit w e w' → IsLegal limit (extended w'.published e)
ready_legal limit w w' e r = (ready_log limit w w' e r).1

pub ready_refuses : (limit : ℕ) (w w' w'' : Written) (e : Entry) → IsReady limit w e w' → w'' ≡ w' → Refuses limit w e NoMemory w''
ready_refuses limit w w' w'' e (inl r) is = inl (r.0, is ∙ r.1)
ready_refuses limit w w' w'' e (inr r) is = inr (inl (r.0, inr (inr (is ∙ r.1))))

pub ready_holds : (limit : ℕ) (w w' w'' : Written) (e : Entry) → IsReady limit w e w' → w'' ≡ holds_back w'.published e → Refuses limit w e Held w''
ready_holds limit w w' w'' e (inl r) is = inl (r.0, is ∙ ap (λ (l : List Entry). holds_back l e) (released_log w w' r.1))
ready_holds limit w w' w'' e (inr r) is = inr (r.0, is ∙ ap (λ (l : List Entry). holds_back l e) (ap (λ (z : Written). z.published) r.1))

pub ready_adds : (limit : ℕ) (w w' w'' : Written) (e : Entry) → IsReady limit w e w' → w'' ≡ shows (extended w'.published e) → Adds limit (kept_of w) e (λ list. w'' ≡ shows list)
ready_adds limit w w' w'' e (inl r) is = inl (r.0, is ∙ ap (λ (l : List Entry). shows (extended l e)) (released_log w w' r.1))
ready_adds limit w w' w'' e (inr r) is = inr (r.0, is ∙ ap (λ (l : List Entry). shows (extended l e)) (ap (λ (z : Written). z.published) r.1))

pub ready_defers : (limit : ℕ) (w w' w'' : Written) (e : Entry) (f : PutFault) → IsReady limit w e w' → Defers w' e f w'' → Refuses limit w e f w''
ready_defers limit w w' w'' e Stale r d = absurd d
ready_defers limit w w' w'' e Full r d = absurd d
ready_defers limit w w' w'' e NoMemory r d = ready_refuses limit w w' w'' e r d
ready_defers limit w w' w'' e Held r d = ready_holds limit w w' w'' e r d

-- what `add` leaves is what `put` leaves
pub ready_added : {T E : Type 0} (r : Result T E) (limit : ℕ) (w w' w'' : Written) (e : Entry) → IsReady limit w e w' → OnOk r (w'' ≡ shows (extended w'.published e)) → OnOk r (Adds limit (kept_of w) e (λ list. w'' ≡ shows list))
ready_added (Ok t) limit w w' w'' e ready is = ready_adds limit w w' w'' e ready is
ready_added (Err f) limit w w' w'' e ready is = tt

pub ready_deferred : {T : Type 0} (r : Result T PutFault) (limit : ℕ) (w w' w'' : Written) (e : Entry) → IsReady limit w e w' → IfErr r (λ f. Defers w' e f w'') → IfErr r (λ f. Refuses limit w e f w'')
ready_deferred (Ok t) limit w w' w'' e ready d = tt
ready_deferred (Err f) limit w w' w'' e ready d = ready_defers limit w w' w'' e f ready d

-- what was held is the last entry of the list that is published then
pub stands_last : (w w' : Written) (e : Entry) → w.held ≡ e ∷ [] → w' ≡ released w → StandsAt e (length w'.published) w'.published
stands_last w w' e held is =
    let log : w'.published ≡ w.published ++ e ∷ [] = ap (λ z. z.published) is ∙ ap (λ h. w.published ++ h) held in
    record { before = w.published; after = []; whole = log; counted = ap length log ∙ length-append w.published (e ∷ []) }
