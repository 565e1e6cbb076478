-- What stands, and what is seen, along the calls of a pager.
use Rattle.std.proofs.Common.{◌≡◌, ◌⊎◌, inl, inr, Bool, true, false, ℕ, ◌+◌, ◌<◌, ◌≤◌, ◌^◌, List, [], ◌++◌, length, IsTrue, Result, Ok, Err, OnErr, refl, sym, ap, subst, ◌∙◌, arith, append_assoc}
use Rattle.std.proofs.lemmas.List.{append-nil}
use Rattle.sqlite_disk.specs.declared.Disk.{Ghosts}
use Rattle.sqlite_disk.specs.Disk.{MoreFaults}
use Rattle.sqlite_wal.specs.Recovery.{Pages, Image, Recovers, AddsNothing, AreWhole}
use Rattle.sqlite_wal.specs.State.{State, Keeps, MayCommit, StaysOrFails}
use Rattle.sqlite_wal.proofs.LogLemmas.{SeenMayStay}
use Rattle.sqlite_wal.proofs.StateLemmas.{AddsNothing-fewer, AddsNothing-trans, clean_of, open_from, Keeps-refl, Keeps-trans}
use Rattle.sqlite_pager.specs.declared.pager.Pager.{Pager}
use Rattle.sqlite_pager.specs.Pager.{files, state, visible, page_count as pages_of, IsClean as IsCleanPages}
use Rattle.sqlite_pager.proofs.PagerLemmas.{settled, visible_counted, visible_whole}
use Rattle.rs_journal.specs.declared.pages.extent.Extent.{Extent}
use Rattle.rs_journal.specs.declared.pages.stream.PageStream.{PageStream}
use Rattle.rs_journal.specs.Pages.{HasStream, IsHead, PutsPage, head_form, number_of, page_form, part_of}
use Rattle.rs_journal.specs.Images.{Keeps as HasImage}
use Rattle.rs_journal.specs.Streams.{GoesOn, StaysClosed, may_leave, front, IsClean, IsOpen, IsSound, Stands, Holds, Rests}
use Rattle.rs_journal.proofs.FormLemmas.{head_long, head_says, number_form, part_form}
use Rattle.rs_journal.proofs.StreamLemmas.{begins_anew, counted, grows}

-- outcomes that have a stream, along a call that adds none
pub kept : (size : ℕ) (old new : Image → Type 0) (stream : List ℕ) → size ≡ 1024 → ((left : Image) → old left → HasImage left stream) → AddsNothing size old new
    → (left : Image) → new left → HasImage left stream
kept size old new stream is all adds left may =
    let from = adds left may in
    let was = all from.0 from.1 in
    record { pages = was.pages; first = was.first; count = was.count; recovers = subst (λ (n : ℕ). Recovers n left was.pages) is (from.2 was.pages (subst (λ (n : ℕ). Recovers n from.0 was.pages) (sym is) was.recovers)); whole = was.whole; has = was.has }

-- the same of two streams
pub either_kept : (size : ℕ) (old new : Image → Type 0) (stream other : List ℕ) → size ≡ 1024 → ((left : Image) → old left → HasImage left stream ⊎ HasImage left other) → AddsNothing size old new
    → (left : Image) → new left → HasImage left stream ⊎ HasImage left other
either_kept size old new stream other is all adds left may =
    let from = adds left may in
    let along : (s : List ℕ) → HasImage from.0 s → HasImage left s = λ s was. record {
      pages = was.pages;
      first = was.first;
      count = was.count;
      recovers = subst (λ (n : ℕ). Recovers n left was.pages) is (from.2 was.pages (subst (λ (n : ℕ). Recovers n from.0 was.pages) (sym is) was.recovers));
      whole = was.whole;
      has = was.has;
    } in
    elim (all from.0 from.1) [ inl a ↦ inl (along stream a) | inr b ↦ inr (along other b) ]

-- the same stream in equal pages
pub in_same : (pages new : Pages) (extent extent' : Extent) (stream : List ℕ) → new ≡ pages → extent' ≡ extent → HasStream pages extent.first extent.count stream → HasStream new extent'.first extent'.count stream
in_same pages new extent extent' stream same as_before has =
    subst (λ (p : Pages). HasStream p extent'.first extent'.count stream) (sym same) (subst (λ (e : Extent). HasStream pages e.first e.count stream) (sym as_before) has)

pub on_err : {T E : Type 0} (r : Result T E) (P : Type 0) → P → OnErr r P
on_err (Ok x) P holds = tt
on_err (Err e) P holds = holds

not_true : (b : Bool) → ¬ IsTrue b → b ≡ false
not_true true never = absurd (never refl)
not_true false never = refl

-- it closes only at a failed call
pub failed_if_closed : (old new : State) → StaysOrFails old new → IsTrue old.is_ready → ¬ IsTrue new.is_ready → MoreFaults old.faults new.faults
failed_if_closed old new stays before shut = stays.stops before (not_true new.is_ready shut)

module _ {D : Type 0} {g : Ghosts D} where
  pub stands_of : (it : PageStream D g) (standing seen : List ℕ) → Holds it standing seen → Stands it standing
  unfolding Stands Holds Rests
  stands_of it standing seen holds = holds.stands

  pub committed_of : (it : PageStream D g) (standing : List ℕ) → Stands it standing → IsSound it → HasStream (state it.pager).committed it.standing.first it.standing.count standing
  unfolding Stands Holds Rests
  committed_of it standing stands = stands.committed

  pub leaves_of : (it : PageStream D g) (standing : List ℕ) → Stands it standing → (left : Image) → may_leave it left → HasImage left standing
  unfolding Stands Holds Rests
  leaves_of it standing stands = stands.leaves

  pub stands_along : (old new : PageStream D g) (standing : List ℕ) → Keeps (state old.pager) (state new.pager) → new.standing ≡ old.standing → Stands old standing → Stands new standing
  unfolding Stands Holds Rests
  stands_along old new standing keeps same stands = record {
    committed = λ sound. in_same (state old.pager).committed (state new.pager).committed old.standing new.standing standing (keeps.committed sound) same (stands.committed (keeps.stays.was_open sound));
    leaves = kept (state old.pager).page_size (may_leave old) (may_leave new) standing old.sized stands.leaves keeps.crash;
  }

  -- only what is not seen changed
  pub stands_same : (old new : PageStream D g) (standing : List ℕ) → new.pager ≡ old.pager → new.standing ≡ old.standing → Stands old standing → Stands new standing
  stands_same old new standing pager same stands =
      stands_along old new standing (subst (λ (p : Pager D g). Keeps (state old.pager) (state p)) (sym pager) (Keeps-refl (state old.pager))) same stands

  pub goes_on_same : (old new : PageStream D g) → new.pager ≡ old.pager → new.standing ≡ old.standing → GoesOn old new
  goes_on_same old new pager same = record { keeps = subst (λ (p : Pager D g). Keeps (state old.pager) (state p)) (sym pager) (Keeps-refl (state old.pager)); standing = same }

  pub goes_on_trans : (a b c : PageStream D g) → GoesOn a b → GoesOn b c → GoesOn a c
  goes_on_trans a b c s t = record { keeps = Keeps-trans (state a.pager) (state b.pager) (state c.pager) s.keeps t.keeps; standing = t.standing ∙ s.standing }

  pub stands_on : (old new : PageStream D g) (standing : List ℕ) → GoesOn old new → Stands old standing → Stands new standing
  stands_on old new standing on stands = stands_along old new standing on.keeps on.standing stands

  pub adds_nothing : (old : PageStream D g) (new : Pager D g) → Keeps (state old.pager) (state new) → AddsNothing 1024 (may_leave old) (state new).may_leave
  adds_nothing old new keeps = subst (λ (n : ℕ). AddsNothing n (may_leave old) (state new).may_leave) old.sized keeps.crash

  pub adds_none : (old new : PageStream D g) → GoesOn old new → AddsNothing 1024 (may_leave old) (may_leave new)
  adds_none old new on = adds_nothing old new.pager on.keeps

  -- nothing was done with a closed one
  pub closed_same : (old new : PageStream D g) → new.pager ≡ old.pager → ¬ IsOpen old → StaysClosed old new
  closed_same old new pager shut = record {
    closed = λ h. shut (subst (λ (p : Pager D g). IsTrue (state p).is_ready) pager h);
    files = ap (λ (p : Pager D g). files p) pager;
    outcomes = subst (λ (p : Pager D g). AddsNothing 1024 (may_leave old) (state p).may_leave) (sym pager) (AddsNothing-fewer 1024 (may_leave old) (may_leave old) (λ left may. may));
  }

  pub closed_trans : (a b c : PageStream D g) → StaysClosed a b → StaysClosed b c → StaysClosed a c
  closed_trans a b c s t = record { closed = t.closed; files = t.files ∙ s.files; outcomes = AddsNothing-trans 1024 (may_leave a) (may_leave b) (may_leave c) s.outcomes t.outcomes }

  -- after a rollback
  pub rests_back : (old new : PageStream D g) (standing : List ℕ) → Keeps (state old.pager) (state new.pager) → (IsSound old → IsCleanPages new.pager) → new.standing ≡ old.standing → new.seen ≡ new.standing
      → new.tail.items ≡ [] → Stands old standing → Rests new standing
  unfolding Stands Holds Rests
  rests_back old new standing keeps clean same extent empty stands = record {
    stands = stands_along old new standing keeps same stands;
    same = λ sound. (clean (keeps.stays.was_open sound)).1;
    extent = extent;
    empty = empty;
  }

  -- along reads
  pub rests_along : (old new : PageStream D g) (standing : List ℕ) → Keeps (state old.pager) (state new.pager) → visible new.pager ≡ visible old.pager → new.standing ≡ old.standing → new.seen ≡ old.seen
      → new.tail.items ≡ old.tail.items → Rests old standing → Rests new standing
  unfolding Stands Holds Rests
  rests_along old new standing keeps pages same seen tail rests = record {
    stands = stands_along old new standing keeps same rests.stands;
    same = λ sound. pages ∙ rests.same (keeps.stays.was_open sound) ∙ sym (keeps.committed sound);
    extent = seen ∙ rests.extent ∙ sym same;
    empty = tail ∙ rests.empty;
  }

  -- along a call that changes nothing that is seen
  pub holds_kept : (old new : PageStream D g) (standing seen : List ℕ) → Keeps (state old.pager) (state new.pager) → (IsSound new → visible new.pager ≡ visible old.pager) → new.standing ≡ old.standing
      → new.seen ≡ old.seen → new.tail.items ≡ old.tail.items → Holds old standing seen → Holds new standing seen
  unfolding Stands Holds Rests
  holds_kept old new standing seen keeps pages same extent tail holds = record {
    stands = stands_along old new standing keeps same holds.stands;
    shows = λ sound.
        let was = holds.shows (keeps.stays.was_open sound) in (
          was.0,
          in_same (visible old.pager) (visible new.pager) old.seen new.seen was.0 (pages sound) extent was.1,
          ap (λ (l : List ℕ). was.0 ++ l) tail ∙ was.2,
        );
  }

  pub rests_kept : (old new : PageStream D g) (standing : List ℕ) → Keeps (state old.pager) (state new.pager) → (IsSound new → visible new.pager ≡ visible old.pager) → new.standing ≡ old.standing
      → new.seen ≡ old.seen → new.tail.items ≡ old.tail.items → Rests old standing → Rests new standing
  unfolding Stands Holds Rests
  rests_kept old new standing keeps pages same extent tail rests = record {
    stands = stands_along old new standing keeps same rests.stands;
    same = λ sound. pages sound ∙ rests.same (keeps.stays.was_open sound) ∙ sym (keeps.committed sound);
    extent = extent ∙ rests.extent ∙ sym same;
    empty = tail ∙ rests.empty;
  }

  pub stands_if_rests : (it : PageStream D g) (standing : List ℕ) → Rests it standing → Stands it standing
  unfolding Stands Holds Rests
  stands_if_rests it standing rests = rests.stands

  -- all parts of a stream at rest are what stands
  pub all_parts : (it : PageStream D g) (standing : List ℕ) → Rests it standing → IsSound it → front it it.seen.count ≡ standing
  unfolding Stands Holds Rests
  all_parts it standing rests sound =
      (in_same (state it.pager).committed (visible it.pager) it.standing it.seen standing (rests.same sound) rests.extent (rests.stands.committed sound)).joins

  -- what is committed in an open stream is all that a crash leaves
  pub stands_settled : (it : PageStream D g) (standing : List ℕ) → SeenMayStay g → IsTrue (state it.pager).is_ready → (IsSound it → HasStream (state it.pager).committed it.standing.first it.standing.count standing)
      → Stands it standing
  unfolding Stands Holds Rests
  stands_settled it standing stay ready has = record {
    committed = has;
    leaves = λ left may.
        let sound = open_from (state it.pager) ready may.0 in
        record {
          pages = (state it.pager).committed;
          first = it.standing.first;
          count = it.standing.count;
          recovers = subst (λ (n : ℕ). Recovers n left (state it.pager).committed) it.sized ((settled it.pager sound stay).durable left may);
          whole = subst (λ (n : ℕ). AreWhole n (state it.pager).committed) it.sized (settled it.pager sound stay).whole;
          has = has sound;
        };
  }

  -- a page that was put behind those that are seen
  pub holds_put : (old new : PageStream D g) (page standing seen : List ℕ) (at number : ℕ) → Keeps (state old.pager) (state new.pager) → new.standing ≡ old.standing
      → at ≡ old.seen.count + 2 → number ≡ old.seen.first + old.seen.count → number < 2 ^ 64 → page ≡ page_form number old.tail.items
      → (IsSound new → at ≤ pages_of old.pager + 1 → PutsPage (visible old.pager) at page (visible new.pager))
      → new.seen.first ≡ old.seen.first → new.seen.count ≡ old.seen.count + 1 → new.tail.items ≡ [] → Holds old standing seen → Holds new standing seen
  unfolding Stands Holds Rests
  holds_put old new page standing seen at number keeps same place numbered small formed puts first count empty holds = record {
    stands = stands_along old new standing keeps same holds.stands;
    shows = λ sound.
        let was_sound = keeps.stays.was_open sound in
        let was = holds.shows was_sound in
        let there = counted (visible old.pager) old.seen.first old.seen.count (pages_of old.pager) was.0 was.1 (visible_counted old.pager was_sound) in
        let put = subst (λ (k : ℕ). PutsPage (visible old.pager) k page (visible new.pager)) place (puts sound (omega (arith, there, place))) in
        let is_number : number_of page ≡ old.seen.first + old.seen.count = ap number_of formed ∙ number_form number old.tail.items small ∙ numbered in
        let is_part : part_of page ≡ old.tail.items = ap part_of formed ∙ part_form number old.tail.items (omega (arith, old.short)) in
        let more = grows (visible old.pager) (visible new.pager) old.seen.first old.seen.count was.0 page was.1 put is_number in (
          was.0 ++ old.tail.items,
          subst (λ (n : ℕ). HasStream (visible new.pager) new.seen.first n (was.0 ++ old.tail.items)) (sym count)
              (subst (λ (n : ℕ). HasStream (visible new.pager) n (old.seen.count + 1) (was.0 ++ old.tail.items)) (sym first)
              (subst (λ (part : List ℕ). HasStream (visible new.pager) old.seen.first (old.seen.count + 1) (was.0 ++ part)) is_part more)),
          ap (λ (l : List ℕ). (was.0 ++ old.tail.items) ++ l) empty ∙ append-nil (was.0 ++ old.tail.items) ∙ was.2,
        );
  }

  -- a new page 1
  pub holds_anew : (old new : PageStream D g) (page standing : List ℕ) (first : ℕ) → Keeps (state old.pager) (state new.pager) → new.standing ≡ old.standing
      → first ≡ old.standing.first + old.standing.count → first < 2 ^ 64 → page ≡ head_form first → (IsSound new → 1 ≤ pages_of old.pager + 1 → PutsPage (visible old.pager) 1 page (visible new.pager))
      → new.seen.first ≡ first → new.seen.count ≡ 0 → new.tail.items ≡ old.tail.items → Rests old standing → Holds new standing []
  unfolding Stands Holds Rests
  holds_anew old new page standing first keeps same numbered small formed puts is_first is_count tail rests = record {
    stands = stands_along old new standing keeps same rests.stands;
    shows = λ sound.
        let was_sound = keeps.stays.was_open sound in
        let has = subst (λ (p : Pages). HasStream p old.standing.first old.standing.count standing) (sym (rests.same was_sound)) (rests.stands.committed was_sound) in
        let begun = begins_anew (visible old.pager) (visible new.pager) old.standing.first old.standing.count standing page has (puts sound (omega arith))
        (ap length formed ∙ head_long first) (subst (λ (k : ℕ). IsHead page k) numbered (subst (λ (l : List ℕ). IsHead l first) (sym formed) (head_says first small))) in (
          [],
          subst (λ (n : ℕ). HasStream (visible new.pager) new.seen.first n []) (sym is_count)
              (subst (λ (n : ℕ). HasStream (visible new.pager) n 0 []) (sym numbered ∙ sym is_first) begun),
          tail ∙ rests.empty,
        );
  }

  pub holds_idle : (it : PageStream D g) (standing : List ℕ) → Rests it standing → Holds it standing standing
  unfolding Stands Holds Rests
  holds_idle it standing rests = record {
    stands = rests.stands;
    shows = λ sound. (
      standing,
      in_same (state it.pager).committed (visible it.pager) it.standing it.seen standing (rests.same sound) rests.extent (rests.stands.committed sound),
      ap (λ (l : List ℕ). standing ++ l) rests.empty ∙ append-nil standing,
    );
  }

  -- what was pushed into the tail
  pub holds_pushed : (old new : PageStream D g) (more standing seen : List ℕ) → new.pager ≡ old.pager → new.standing ≡ old.standing → new.seen ≡ old.seen → new.tail.items ≡ old.tail.items ++ more
      → Holds old standing seen → Holds new standing (seen ++ more)
  unfolding Stands Holds Rests
  holds_pushed old new more standing seen pager same extent tail holds = record {
    stands = stands_along old new standing (subst (λ (p : Pager D g). Keeps (state old.pager) (state p)) (sym pager) (Keeps-refl (state old.pager))) same holds.stands;
    shows = λ sound.
        let was = holds.shows (subst (λ (p : Pager D g). IsTrue (state p).is_open) pager sound) in (
          was.0,
          in_same (visible old.pager) (visible new.pager) old.seen new.seen was.0 (ap (λ (p : Pager D g). visible p) pager) extent was.1,
          ap (λ (l : List ℕ). was.0 ++ l) tail ∙ sym (append_assoc was.0 old.tail.items more) ∙ ap (λ (l : List ℕ). l ++ more) was.2,
        );
  }

  -- after a commit
  pub rests_committed : (old new : PageStream D g) (standing seen : List ℕ) → SeenMayStay g → IsTrue (state new.pager).is_ready → (IsSound new → IsSound old)
      → (IsSound new → visible new.pager ≡ (state new.pager).committed) → (IsSound new → (state new.pager).committed ≡ visible old.pager)
      → new.standing ≡ old.seen → new.seen ≡ old.seen → old.tail.items ≡ [] → new.tail.items ≡ [] → Holds old standing seen → Rests new seen
  unfolding Stands Holds Rests
  rests_committed old new standing seen stay ready was_sound clean durable is_standing is_seen none empty holds = record {
    stands = stands_settled new seen stay ready (λ sound.
        let was = holds.shows (was_sound sound) in
        let all : was.0 ≡ seen = sym (append-nil was.0) ∙ ap (λ (l : List ℕ). was.0 ++ l) (sym none) ∙ was.2 in
        in_same (visible old.pager) (state new.pager).committed old.seen new.standing seen (durable sound) is_standing
        (subst (λ (s : List ℕ). HasStream (visible old.pager) old.seen.first old.seen.count s) all was.1));
    same = clean;
    extent = is_seen ∙ sym is_standing;
    empty = empty;
  }

  -- after a commit that failed and left it open
  pub stands_uncommitted : (old new : PageStream D g) (standing seen : List ℕ) → SeenMayStay g → IsTrue (state new.pager).is_ready → (IsSound new → IsSound old)
      → (IsSound new → (state new.pager).committed ≡ (state old.pager).committed) → new.standing ≡ old.standing → Holds old standing seen → Stands new standing
  stands_uncommitted old new standing seen stay ready was_sound same extent holds = stands_settled new standing stay ready (λ sound.
      in_same (state old.pager).committed (state new.pager).committed old.standing new.standing standing (same sound) extent
      (committed_of old standing (stands_of old standing seen holds) (was_sound sound)))

  -- what a commit leaves, however far it gets
  pub either_committed : (old : PageStream D g) (new : Pager D g) (standing seen : List ℕ) → MayCommit (state old.pager) (visible old.pager) (state new) → old.tail.items ≡ [] → Holds old standing seen
      → (left : Image) → (state new).may_leave left → HasImage left standing ⊎ HasImage left seen
  unfolding Stands Holds Rests
  either_committed old new standing seen commits none holds left may = elim (commits.crash left may) [
    | inl before ↦ inl (kept (state old.pager).page_size (may_leave old) (λ (image : Image). image ≡ left) standing old.sized holds.stands.leaves
        (λ image same. (before.0, before.1, subst (λ (i : Image). (pages : Pages) → Recovers (state old.pager).page_size before.0 pages → Recovers (state old.pager).page_size i pages) (sym same) before.2)) left refl)
    | inr after ↦
        let was = holds.shows after.0 in
        let all : was.0 ≡ seen = sym (append-nil was.0) ∙ ap (λ (l : List ℕ). was.0 ++ l) (sym none) ∙ was.2 in
        inr (record {
          pages = visible old.pager;
          first = old.seen.first;
          count = old.seen.count;
          recovers = subst (λ (n : ℕ). Recovers n left (visible old.pager)) old.sized after.1;
          whole = subst (λ (n : ℕ). AreWhole n (visible old.pager)) old.sized (visible_whole old.pager after.0);
          has = subst (λ (s : List ℕ). HasStream (visible old.pager) old.seen.first old.seen.count s) all was.1;
        })
  ]

  -- after an opening
  pub rests_found : (it : PageStream D g) (standing : List ℕ) → SeenMayStay g → IsTrue (state it.pager).is_ready → (IsSound it → HasStream (state it.pager).committed it.standing.first it.standing.count standing)
      → (IsSound it → visible it.pager ≡ (state it.pager).committed) → it.seen ≡ it.standing → it.tail.items ≡ [] → Rests it standing
  unfolding Stands Holds Rests
  rests_found it standing stay ready has same extent empty = record { stands = stands_settled it standing stay ready has; same = same; extent = extent; empty = empty }

  -- the same stream by another name, where that is known
  pub rests_like : (it : PageStream D g) (stream other : List ℕ) → Rests it stream → (IsClean it → stream ≡ other) → Rests it other
  unfolding Stands Holds Rests
  rests_like it stream other rests same = record {
    stands = record {
      committed = λ sound. subst (λ (s : List ℕ). HasStream (state it.pager).committed it.standing.first it.standing.count s) (same (clean_of (state it.pager) sound)) (rests.stands.committed sound);
      leaves = λ left may. subst (λ (s : List ℕ). HasImage left s) (same may.0) (rests.stands.leaves left may);
    };
    same = rests.same;
    extent = rests.extent;
    empty = rests.empty;
  }
