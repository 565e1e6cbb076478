-- What files stand for, before and after they are opened.
use Rattle.std.proofs.Common.{◌≡◌, ◌≢◌, ◌⊎◌, inl, inr, ℕ, ◌+◌, ◌<◌, ◌≤◌, List, [], length, get_or, slice_index, Some, None, IsTrue, is_some, refl, sym, ap, subst, ◌∙◌, arith}
use Rattle.std.proofs.lemmas.Bool.{cases_lt, cases_eq, cond-false, ne_eqb}
use Rattle.std.proofs.lemmas.List.{get_or-take}
use Rattle.sqlite_wal.specs.declared.error.Error.{Error}
use Rattle.sqlite_wal.specs.declared.error.Error.TheVariants.{Io, OutOfMemory, Closed, NoSuchPage, Full, Corrupt, Exists}
use Rattle.sqlite_wal.specs.Recovery.{Pages, Image, Recovers, AddsNothing, AreWhole, IsBlank, IsUnreadable, KeepsImage, only_page}
use Rattle.sqlite_wal.specs.Files.{CreatesAtMost, RefusesToCreate, RefusesToRecover}
use Rattle.sqlite_wal.specs.Outcome.{HasCause}
use Rattle.sqlite_wal.specs.State.{State, Keeps, IsSettled}
use Rattle.sqlite_wal.specs.Reads.{OnlyReadsBoth}
use Rattle.sqlite_wal.proofs.LogLemmas.{SeenMayStay}
use Rattle.sqlite_wal.proofs.StateLemmas.{AddsNothing-trans, open_from, ready_of}
use Rattle.sqlite_disk.specs.declared.Disk.{Ghosts}
use Rattle.sqlite_pager.specs.declared.pager.Pager.{Pager}
use Rattle.sqlite_pager.specs.Pager.{files, image, state, visible, IsClean as IsCleanPages}
use Rattle.sqlite_pager.proofs.PagerLemmas.{settled}
use Rattle.sqlite_wal.proofs.CreateLemmas.{begun_is_not_blank}
use Rattle.sqlite_wal.proofs.RecoveryLemmas.{recovers_once}
use Rattle.sqlite_wal.proofs.ChangeLemmas.{HaveCount}
use Rattle.rs_journal.specs.Pages.{AreNumbered, HasStream, IsHead, head_form, number_in, number_of}
use Rattle.rs_journal.specs.Images.{EachStandsForOne, StandsFor, Keeps as HasImage}
use Rattle.rs_journal.specs.declared.pages.fault.OpenFault.{OpenFault}
use Rattle.rs_journal.specs.declared.pages.fault.OpenFault.TheVariants.{Foreign, Version, Damaged, LoneLog, ForeignLog, NoMemory, Disk}
use Rattle.rs_journal.specs.OpenFaults.{AreWrong, Explains, IsHindrance, IsRefusal, IsWrongHead, fault_of}
use Rattle.rs_journal.proofs.FormLemmas.{head_long}
use Rattle.rs_journal.proofs.StreamLemmas.{fresh, one_stream, page_of_number, some_is}

head_byte : slice_index (head_form 1) 0 ≡ 0x72
unfolding head_form
head_byte = refl

pub head_gate : slice_index (head_form 1) 0 ≢ 0
head_gate none = absurd (omega (arith, none, head_byte))

-- files that have a stream are not blank
pub not_blank : (image : Image) (stream : List ℕ) → HasImage image stream → ¬ IsBlank (head_form 1) image
not_blank image stream has =
    let page = has.has.head.bytes in
    let byte : slice_index page 0 ≡ 0x72 = sym (get_or-take 7 page 0 0 (omega arith)) ∙ ap (λ (l : List ℕ). get_or l 0 0) has.has.head.says.named in
    begun_is_not_blank (head_form 1) page 1024 image has.pages has.recovers has.has.head.there has.has.head.sized (omega arith) (byte ∙ sym head_byte) (λ none. absurd (omega (arith, none, head_byte)))

pub one_image : (image : Image) (stream other : List ℕ) → StandsFor image stream → StandsFor image other → stream ≡ other
one_image image stream other (inl a) (inl b) = a.1 ∙ sym b.1
one_image image stream other (inl a) (inr b) = absurd (not_blank image other b a.0)
one_image image stream other (inr a) (inl b) = absurd (not_blank image stream a b.0)
one_image image stream other (inr a) (inr b) =
    one_stream a.pages a.first a.count b.first b.count stream other a.has (subst (λ (p : Pages). HasStream p b.first b.count other) (recovers_once 1024 image b.pages a.pages b.recovers a.recovers) b.has)

only_whole : AreWhole 1024 (only_page (head_form 1))
only_whole = record {
  first = refl;
  sized = λ n bytes there. elim (cases_eq n 1) [
    | inl one ↦ ap length (sym (some_is (head_form 1) bytes (only_page (head_form 1) 1) refl (ap (only_page (head_form 1)) (sym one) ∙ there))) ∙ head_long 1
    | inr other ↦ absurd (no_page bytes (sym (cond-false _ _ _ (ne_eqb n 1 other)) ∙ there))
  ];
}
  where
    no_page : (bytes : List ℕ) → None ≡ Some bytes → ⊥
    no_page bytes same = cc

-- a first page alone, or nothing yet
stands_made : (left : Image) (stream : List ℕ) → stream ≡ [] → IsBlank (head_form 1) left ⊎ Recovers 1024 left (only_page (head_form 1)) → StandsFor left stream
stands_made left stream none (inl blank) = inl (blank, none)
stands_made left stream none (inr recovers) = inr (record {
  pages = only_page (head_form 1);
  first = 1;
  count = 0;
  recovers = recovers;
  whole = only_whole;
  has = subst (λ (s : List ℕ). HasStream (only_page (head_form 1)) 1 0 s) (sym none) fresh;
})

-- what a making of page 1 leaves
pub each_made : (old new : Image → Type 0) (seen : Image) (streams : List (List ℕ)) → CreatesAtMost 1024 (head_form 1) old new → ((left : Image) → new left → old seen)
    → (¬ IsBlank (head_form 1) seen → (left : Image) → new left → old left) → EachStandsForOne old streams → EachStandsForOne new streams
each_made old new seen streams creates there untouched each left may = elim (creates left may) [
  | inl was ↦ each left was
  | inr made ↦
      let at = each seen (there left may) in
      elim at.2 [
        | inl blank ↦ (at.0, at.1, stands_made left at.0 blank.1 made)
        | inr has ↦ each left (untouched (not_blank seen at.0 has) left may)
      ]
]

-- what a recovery leaves
pub each_recovered : (old new : Image → Type 0) (seen : Image) (streams : List (List ℕ)) → KeepsImage 1024 seen old new → ((left : Image) → new left → old seen × (¬ IsBlank (head_form 1) seen))
    → EachStandsForOne old streams → EachStandsForOne new streams
each_recovered old new seen streams keeps there each left may = elim (keeps left may) [
  | inl was ↦ each left was
  | inr same ↦
      let here = there left may in
      let at = each seen here.0 in
      elim at.2 [
        | inl blank ↦ absurd (here.1 blank.0)
        | inr has ↦ (at.0, at.1, inr (record { pages = has.pages; first = has.first; count = has.count; recovers = same has.pages has.recovers; whole = has.whole; has = has.has }))
      ]
]

-- what is left once the pages are found, along reads
pub each_found : (old : Image → Type 0) (found last : State) (seen : Image) (streams : List (List ℕ)) → found.page_size ≡ 1024 → Keeps found last
    → ((left : Image) → last.may_leave left → old seen × (¬ IsBlank (head_form 1) seen) × Recovers 1024 seen found.committed × IsSettled found)
    → EachStandsForOne old streams → EachStandsForOne last.may_leave streams
each_found old found last seen streams size keeps there each left may =
    let here = there left may in
    let at = each seen here.0 in
    let from = keeps.crash left may in
    let recovers : Recovers 1024 left found.committed = subst (λ (n : ℕ). Recovers n left found.committed) size (from.2 found.committed (here.3.durable from.0 from.1)) in
    elim at.2 [
      | inl blank ↦ absurd (here.1 blank.0)
      | inr has ↦ (
        at.0,
        at.1,
        inr (record {
          pages = found.committed;
          first = has.first;
          count = has.count;
          recovers = recovers;
          whole = subst (λ (n : ℕ). AreWhole n found.committed) size here.3.whole;
          has = subst (λ (p : Pages). HasStream p has.first has.count at.0) (recovers_once 1024 seen has.pages found.committed has.recovers here.2) has.has;
        }),
      )
    ]

pub each_fewer : (old new : Image → Type 0) (streams : List (List ℕ)) → ((left : Image) → new left → old left) → EachStandsForOne old streams → EachStandsForOne new streams
each_fewer old new streams within each left may = each left (within left may)

-- why page 1 is not made
pub why_not_made : (old new size : ℕ) (first : List ℕ) (image : Image) → HasCause old new (RefusesToCreate size first image) Exists → ¬ IsBlank first image
why_not_made old new size first image (inl there) = there.1
why_not_made old new size first image (inr full) = absurd (other full.0)
  where
    other : Exists ≡ Full → ⊥
    other same = cc

-- why nothing is found
pub why_not_found : (old new size : ℕ) (image : Image) → HasCause old new (RefusesToRecover size image) Corrupt → IsUnreadable size image
why_not_found old new size image (inl there) = there.1
why_not_found old new size image (inr full) = absurd (other full.0)
  where
    other : Corrupt ≡ Full → ⊥
    other same = cc

-- only what cannot be recovered is refused as such
pub refused_corrupt : (e : Error) → IsRefusal (fault_of e) → e ≡ Corrupt
refused_corrupt (Io e) is = absurd is
refused_corrupt OutOfMemory is = absurd is
refused_corrupt Closed is = absurd is
refused_corrupt NoSuchPage is = absurd is
refused_corrupt Full is = absurd is
refused_corrupt Corrupt is = refl
refused_corrupt Exists is = absurd is

pub not_unreadable : (image : Image) (stream : List ℕ) → ¬ IsBlank (head_form 1) image → IsUnreadable 1024 image → ¬ StandsFor image stream
not_unreadable image stream begun unreadable (inl blank) = begun blank.0
not_unreadable image stream begun unreadable (inr has) = unreadable has.pages has.recovers has.whole

-- a page 1 that is wrong is none
wrong_head : (fault : OpenFault) (page : List ℕ) (first : ℕ) → IsWrongHead fault page → ¬ IsHead page first
wrong_head Foreign page first wrong head = wrong head.named
wrong_head (Version n) page first wrong head = wrong.2 (sym wrong.1 ∙ head.version)
wrong_head Damaged page first wrong head = wrong.2 first head
wrong_head LoneLog page first wrong head = wrong
wrong_head ForeignLog page first wrong head = wrong
wrong_head NoMemory page first wrong head = wrong
wrong_head (Disk e) page first wrong head = wrong

pub wrong_refuses : (fault : OpenFault) (page : List ℕ) → IsWrongHead fault page → IsRefusal fault
wrong_refuses Foreign page wrong = tt
wrong_refuses (Version n) page wrong = tt
wrong_refuses Damaged page wrong = tt
wrong_refuses LoneLog page wrong = wrong
wrong_refuses ForeignLog page wrong = wrong
wrong_refuses NoMemory page wrong = wrong
wrong_refuses (Disk e) page wrong = wrong

-- and pages with it have no stream
pub wrong_page : (fault : OpenFault) (pages : Pages) (page : List ℕ) → pages 1 ≡ Some page → IsWrongHead fault page → AreWrong fault pages page
wrong_page Foreign pages page there wrong = wrong
wrong_page (Version n) pages page there wrong = wrong
wrong_page Damaged pages page there wrong =
    (wrong.0, wrong.1, λ first count stream has. wrong.2 first (subst (λ (l : List ℕ). IsHead l first) (some_is has.head.bytes page (pages 1) has.head.there there) has.head.says))
wrong_page LoneLog pages page there wrong = wrong
wrong_page ForeignLog pages page there wrong = wrong
wrong_page NoMemory pages page there wrong = wrong
wrong_page (Disk e) pages page there wrong = wrong

pub wrong_pages : (fault : OpenFault) (pages : Pages) (page : List ℕ) → pages 1 ≡ Some page → AreWrong fault pages page → (first count : ℕ) (stream : List ℕ) → ¬ HasStream pages first count stream
wrong_pages fault pages page there wrong first count stream has =
    let says = subst (λ (l : List ℕ). IsHead l first) (some_is has.head.bytes page (pages 1) has.head.there there) has.head.says in
    by fault wrong says
  where
    by : (f : OpenFault) → AreWrong f pages page → IsHead page first → ⊥
    by Foreign wrong says = wrong says.named
    by (Version n) wrong says = wrong.2 (sym wrong.1 ∙ says.version)
    by Damaged wrong says = wrong.2 first count stream has
    by LoneLog wrong says = wrong
    by ForeignLog wrong says = wrong
    by NoMemory wrong says = wrong
    by (Disk e) wrong says = wrong

-- why files are refused: those that were not recovered, and those that were
pub not_recovered : (e : Error) (image : Image) → (e ≡ Corrupt → IsUnreadable 1024 image) → Explains (fault_of e) image
not_recovered (Io e) image why = tt
not_recovered OutOfMemory image why = tt
not_recovered Closed image why = tt
not_recovered NoSuchPage image why = tt
not_recovered Full image why = tt
not_recovered Corrupt image why = inl (why refl)
not_recovered Exists image why = tt

pub recovered_wrong : (fault : OpenFault) (image : Image) (pages : Pages) → Recovers 1024 image pages → (IsRefusal fault → (page : List ℕ) × (pages 1 ≡ Some page) × AreWrong fault pages page) → IsRefusal fault ⊎ IsHindrance fault → Explains fault image
recovered_wrong Foreign image pages recovers why kind = let at = why tt in inr (record { pages = pages; recovers = recovers; page = at.0; there = at.1; wrong = at.2 })
recovered_wrong (Version n) image pages recovers why kind = let at = why tt in record { pages = pages; recovers = recovers; page = at.0; there = at.1; wrong = at.2 }
recovered_wrong Damaged image pages recovers why kind = let at = why tt in record { pages = pages; recovers = recovers; page = at.0; there = at.1; wrong = at.2 }
recovered_wrong LoneLog image pages recovers why (inl refusal) = absurd refusal
recovered_wrong LoneLog image pages recovers why (inr hindrance) = absurd hindrance
recovered_wrong ForeignLog image pages recovers why (inl refusal) = absurd refusal
recovered_wrong ForeignLog image pages recovers why (inr hindrance) = absurd hindrance
recovered_wrong NoMemory image pages recovers why kind = tt
recovered_wrong (Disk e) image pages recovers why kind = tt

-- pages that have no stream stand for none
pub not_without : (image : Image) (stream : List ℕ) (pages : Pages) → ¬ IsBlank (head_form 1) image → Recovers 1024 image pages → ((first count : ℕ) (s : List ℕ) → ¬ HasStream pages first count s)
    → ¬ StandsFor image stream
not_without image stream pages begun recovers none (inl blank) = begun blank.0
not_without image stream pages begun recovers none (inr has) =
    none has.first has.count stream (subst (λ (p : Pages). HasStream p has.first has.count stream) (recovers_once 1024 image has.pages pages has.recovers recovers) has.has)

-- ---- along the calls of a pager

module _ {D : Type 0} {g : Ghosts D} where
  pub seen_is_left : (it : Pager D g) → SeenMayStay g → IsTrue (state it).is_clean → (state it).may_leave (image it)
  seen_is_left it stay clean = (clean, (stay (files it).0, stay (files it).1))

  pub same_files : (old new : Pager D g) → OnlyReadsBoth g (files old) (files new) → image new ≡ image old
  same_files old new only =
      let both : List ℕ → List ℕ → Image = λ (a b : List ℕ). record { log = a; db = b } in
      ap (λ (a : List ℕ). both a (g.seen (files new).1)) only.0.seen ∙ ap (λ (b : List ℕ). both (g.seen (files old).0) b) only.1.seen

  pub fewer_left : (old new : Pager D g) → OnlyReadsBoth g (files old) (files new) → (IsTrue (state new).is_clean → IsTrue (state old).is_clean) → (left : Image) → (state new).may_leave left
      → (state old).may_leave left
  fewer_left old new only honest left may = (honest may.0, (only.0.crash left.log may.1.0, only.1.crash left.db may.1.1))

  -- a call that adds no outcome, and reads behind it
  pub along_reads : (old mid new : Pager D g) → (state old).page_size ≡ 1024 → (state mid).page_size ≡ (state old).page_size → AddsNothing (state old).page_size (state old).may_leave (state mid).may_leave
      → Keeps (state mid) (state new) → AddsNothing 1024 (state old).may_leave (state new).may_leave
  along_reads old mid new size same adds keeps =
      AddsNothing-trans 1024 (state old).may_leave (state mid).may_leave (state new).may_leave
      (subst (λ (n : ℕ). AddsNothing n (state old).may_leave (state mid).may_leave) size adds)
      (subst (λ (n : ℕ). AddsNothing n (state mid).may_leave (state new).may_leave) (same ∙ size) keeps.crash)

  -- after an attempt to make page 1
  pub each_created : (old new : Pager D g) (first : List ℕ) (streams : List (List ℕ)) → SeenMayStay g → (state old).page_size ≡ 1024 → first ≡ head_form 1
      → (IsTrue (state new).is_clean → IsTrue (state old).is_clean) → CreatesAtMost (state old).page_size first (state old).may_leave (state new).may_leave
      → (¬ IsBlank first (image old) → (left : Image) → (state new).may_leave left → (state old).may_leave left)
      → EachStandsForOne (state old).may_leave streams → EachStandsForOne (state new).may_leave streams
  each_created old new first streams stay size is honest creates untouched =
      each_made (state old).may_leave (state new).may_leave (image old) streams
      (subst (λ (n : ℕ). CreatesAtMost n (head_form 1) (state old).may_leave (state new).may_leave) size
      (subst (λ (l : List ℕ). CreatesAtMost (state old).page_size l (state old).may_leave (state new).may_leave) is creates))
      (λ left may. seen_is_left old stay (honest may.0))
      (λ begun. untouched (λ blank. begun (subst (λ (l : List ℕ). IsBlank l (image old)) is blank)))

  -- after a recovery that found no pages
  pub each_reopened : (old new : Pager D g) (streams : List (List ℕ)) → SeenMayStay g → (state old).page_size ≡ 1024 → (IsTrue (state old).is_clean → ¬ IsBlank (head_form 1) (image old))
      → (IsTrue (state new).is_clean → IsTrue (state old).is_clean) → KeepsImage (state old).page_size (image old) (state old).may_leave (state new).may_leave
      → EachStandsForOne (state old).may_leave streams → EachStandsForOne (state new).may_leave streams
  each_reopened old new streams stay size begun honest keeps =
      each_recovered (state old).may_leave (state new).may_leave (image old) streams
      (subst (λ (n : ℕ). KeepsImage n (image old) (state old).may_leave (state new).may_leave) size keeps)
      (λ left may. let clean = honest may.0 in (seen_is_left old stay clean, begun clean))

  -- after a recovery, and reads behind it
  pub each_read : (old mid new : Pager D g) (streams : List (List ℕ)) → SeenMayStay g → (state old).page_size ≡ 1024 → (state mid).page_size ≡ (state old).page_size
      → (IsTrue (state old).is_clean → ¬ IsBlank (head_form 1) (image old)) → (IsTrue (state mid).is_clean → IsTrue (state old).is_clean) → IsTrue (state mid).is_ready
      → (IsTrue (state mid).is_clean → Recovers (state old).page_size (image old) (state mid).committed) → Keeps (state mid) (state new)
      → EachStandsForOne (state old).may_leave streams → EachStandsForOne (state new).may_leave streams
  each_read old mid new streams stay size same begun honest ready found keeps =
      each_found (state old).may_leave (state mid) (state new) (image old) streams (same ∙ size) keeps (λ left may.
      let clean = keeps.stays.clean may.0 in
      let was = honest clean in (
        seen_is_left old stay was,
        begun was,
        subst (λ (n : ℕ). Recovers n (image old) (state mid).committed) size (found clean),
        settled mid (open_from (state mid) ready clean) stay,
      ))

  -- what was recovered has the stream that was found in it
  pub stands_recovered : (mid : Pager D g) (pages : Pages) (seen : Image) (first count : ℕ) (stream : List ℕ) → SeenMayStay g → IsTrue (state mid).is_open → (state mid).page_size ≡ 1024
      → Recovers 1024 seen (state mid).committed → pages ≡ (state mid).committed → HasStream pages first count stream → StandsFor seen stream
  stands_recovered mid pages seen first count stream stay is_open size recovers same has =
      inr (record {
        pages = (state mid).committed;
        first = first;
        count = count;
        recovers = recovers;
        whole = subst (λ (n : ℕ). AreWhole n (state mid).committed) size (settled mid is_open stay).whole;
        has = subst (λ (p : Pages). HasStream p first count stream) same has;
      })

  -- a clean pager stays one along reads
  pub clean_along : (old new : Pager D g) → Keeps (state old) (state new) → (state new).is_ready ≡ (state old).is_ready → visible new ≡ visible old → IsTrue (state new).is_clean → IsCleanPages old
      → IsCleanPages new
  clean_along old new keeps ready pages clean was =
      let is_open = open_from (state new) (ready ∙ ready_of (state old) was.0) clean in
      (is_open, pages ∙ was.1 ∙ sym (keeps.committed is_open))

-- ---- the pages that are numbered

-- the pages that were looked at: so many are numbered, and those behind them are left over
pub record IsCounted (pages : Pages) (first count at : ℕ) : Type 0 where
  pub each : (j : ℕ) → j < count → number_in (pages (j + 2)) ≡ Some (first + j)
  pub stale : (j : ℕ) (page : List ℕ) → count ≤ j → j < at → pages (j + 2) ≡ Some page → number_of page < first

pub counted_none : (pages : Pages) (first : ℕ) → IsCounted pages first 0 0
counted_none pages first = record { each = λ j lt. absurd (omega (arith, lt)); stale = λ j page le lt there. absurd (omega (arith, lt)) }

-- with one page more
pub counted_more : (pages : Pages) (first count next at number : ℕ) (page : List ℕ) → IsCounted pages first count at → pages (at + 2) ≡ Some page → number ≡ number_of page
    → ((next ≡ count + 1) × (count ≡ at) × (number ≡ first + count)) ⊎ ((next ≡ count) × (number < first)) → IsCounted pages first next (at + 1)
counted_more pages first count next at number page counted there says (inl (is, here, follows)) = record {
  each = λ j lt. elim (cases_eq j count) [
    | inl same ↦
        ap (λ (k : ℕ). number_in (pages (k + 2))) (same ∙ here) ∙ ap number_in there ∙ ap (λ (k : ℕ). Some k) (sym says ∙ follows ∙ ap (λ (k : ℕ). first + k) (sym same))
    | inr apart ↦ counted.each j (omega (arith, apart, lt, is))
  ];
  stale = λ j other le lt was. absurd (omega (arith, le, lt, is, here));
}
counted_more pages first count next at number page counted there says (inr (is, low)) = record {
  each = λ j lt. counted.each j (omega (arith, lt, is));
  stale = λ j other le lt was. elim (cases_eq j at) [
    | inl here ↦ let same = some_is other page (pages (at + 2)) (ap (λ (k : ℕ). pages (k + 2)) (sym here) ∙ was) there in omega (arith, ap number_of same, says, low)
    | inr apart ↦ counted.stale j other (omega (arith, le, is)) (omega (arith, apart, lt)) was
  ];
}

pub next_low : (first count next at number : ℕ) → ((next ≡ count + 1) × (count ≡ at) × (number ≡ first + count)) ⊎ ((next ≡ count) × (number < first)) → count ≤ at → next ≤ at + 1
next_low first count next at number (inl (is, here, follows)) low = omega arith
next_low first count next at number (inr (is, left)) low = omega arith

-- once all pages were looked at
pub counted_all : (pages : Pages) (first count at n : ℕ) → HaveCount pages n → n ≤ at + 1 → IsCounted pages first count at → AreNumbered pages first count
counted_all pages first count at n have all counted = record {
  each = counted.each;
  stale = λ j page le there.
      let within = (have (j + 2)).0 (ap is_some there) in
      counted.stale j page le (omega (arith, within.1, all)) there;
}

-- a page whose number is no lower, and is not the next one, or does not stand behind those that are numbered
pub not_numbered : (pages : Pages) (first count at : ℕ) (page : List ℕ) → count ≤ at → IsCounted pages first count at
    → pages (at + 2) ≡ Some page → first ≤ number_of page → (count ≡ at → number_of page ≡ first + count → ⊥) → (n : ℕ) → ¬ AreNumbered pages first n
not_numbered pages first count at page low counted there high apart n are = elim (cases_lt at n) [
  | inl within ↦
      let here = page_of_number (pages (at + 2)) (first + at) (are.each at within) in
      let number : number_of page ≡ first + at = ap number_of (some_is page here.0 (pages (at + 2)) there here.1) ∙ here.2 in
      elim (cases_eq count at) [
        | inl same ↦ apart same (omega (arith, number, same))
        | inr less ↦
            let was = page_of_number (pages (count + 2)) (first + count) (are.each count (omega (arith, low, within))) in
            let lower = counted.stale count was.0 (omega arith) (omega (arith, low, less)) was.1 in
            omega (arith, lower, was.2)
      ]
  | inr past ↦ let lower = are.stale at page past there in omega (arith, lower, high)
]
