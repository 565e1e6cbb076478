-- What is found in two files before anything is written, and what is left of them if they are refused.
use Rattle.std.proofs.Common.{◌≡◌, ◌≢◌, ◌⊎◌, inl, inr, ℕ, zero, suc, ◌+◌, ◌<◌, ◌≤◌, List, length, slice_index, Option, Some, None, IsSome, IsTrue, refl, sym, ap, subst, ◌∙◌, arith}
use Rattle.std.proofs.lemmas.Bool.{cases_lt}
use Rattle.sqlite_disk.specs.declared.Disk.{Ghosts}
use Rattle.sqlite_wal.specs.Format.{part}
use Rattle.sqlite_wal.specs.Files.{seen_image}
use Rattle.sqlite_wal.specs.Index.{IsLatest}
use Rattle.sqlite_wal.specs.Reads.{AreClean, OnlyReads}
use Rattle.sqlite_wal.specs.Recovery.{Image, Pages, AreFramesOf, IsBlank, IsUnreadable, IsValid, Recovers, Replays, frame_at, page_after, page_count, pages_after}
use Rattle.sqlite_wal.proofs.CleanLemmas.{both_clean}
use Rattle.sqlite_wal.proofs.FileLemmas.{pages_inside}
use Rattle.sqlite_wal.proofs.PartLemmas.{part_within}
use Rattle.sqlite_wal.proofs.RecoveryLemmas.{recovers_once}
use Rattle.sqlite_wal.proofs.ScanLemmas.{Takes, first_in_file, first_in_log}
use Rattle.sqlite_pager.specs.declared.pager.Pager.{Pager}
use Rattle.sqlite_pager.specs.Pager.{files, image, state}
use Rattle.rs_journal.specs.Pages.{IsHead, head_form}
use Rattle.rs_journal.specs.Images.{AreKept, StandsFor, outcomes_of}
use Rattle.rs_journal.specs.declared.pages.fault.OpenFault.{OpenFault}
use Rattle.rs_journal.specs.declared.pages.fault.OpenFault.TheVariants.{Foreign, Version, Damaged, LoneLog, ForeignLog, NoMemory, Disk}
use Rattle.rs_journal.specs.OpenFaults.{Explains, HasOtherHead, IsHindrance, IsOtherFile, IsRefusal, IsWrongHead, RecoverWrong}
use Rattle.rs_journal.proofs.OpenLemmas.{not_unreadable, not_without, wrong_page, wrong_pages}

valid_of : (log : List ℕ) (k : ℕ) → Replays 1024 log k → (i : ℕ) → i < k → IsValid 1024 log i
valid_of log k (inl ignored) i low = absurd (omega (arith, ignored.1, low))
valid_of log k (inr committed) i low = committed.0.valid i low

takes : (log numbers : List ℕ) → AreFramesOf 1024 log numbers → Takes 1024 log numbers
takes log numbers frames = (frames.0, λ i low. (frames.1 i low, valid_of log (length numbers) frames.0 i low))

count_some : (log db : List ℕ) (k : ℕ) → Replays 1024 log k → (0 < k) ⊎ (1024 ≤ length db) → 1 ≤ page_count 1024 log db k
count_some log db zero replays (inl some) = absurd (omega (arith, some))
count_some log db zero replays (inr long) = omega (arith, long)
count_some log db (suc i) (inl ignored) some = absurd (omega (arith, ignored.1))
count_some log db (suc i) (inr committed) some = let last = committed.0.commits i (omega arith) in omega (arith, last)

recovered : (image : Image) (k : ℕ) → Replays 1024 image.log k → 0 < length image.db → Recovers 1024 image (pages_after 1024 image.log image.db k)
recovered image k replays present = record { frames = k; replays = replays; present = present; gives = refl }

-- page 1 by its last frame
pub first_by_frame : (image : Image) (numbers : List ℕ) (i : ℕ) (page : List ℕ) → AreFramesOf 1024 image.log numbers → IsLatest numbers 1 i → part image.log (frame_at 1024 i + 24) 1024 ≡ page → 0 < length image.db
    → (pages : Pages) × Recovers 1024 image pages × (pages 1 ≡ Some page)
first_by_frame image numbers i page frames last is present =
    let k : ℕ = length numbers in
    let all : Pages = pages_after 1024 image.log image.db k in
    let low : 0 < k = omega (arith, last.within) in
    let there : all 1 ≡ Some (page_after 1024 image.log image.db 1 k) = pages_inside 1024 image.log image.db k 1 (omega arith) (count_some image.log image.db k frames.0 (inl low)) in
    let found = recovered image k frames.0 present in
    let same = first_in_log 1024 image numbers (takes image.log numbers frames) all (page_after 1024 image.log image.db 1 k) found there i last in
    (all, found, there ∙ ap (λ (l : List ℕ). Some l) (sym same ∙ is))

-- and without one by the file of pages
pub first_by_file : (image : Image) (numbers page : List ℕ) → AreFramesOf 1024 image.log numbers → ((i : ℕ) → i < length numbers → slice_index numbers i ≢ 1) → 1024 ≤ length image.db → part image.db 0 1024 ≡ page
    → (pages : Pages) × Recovers 1024 image pages × (pages 1 ≡ Some page)
first_by_file image numbers page frames none long is =
    let k : ℕ = length numbers in
    let all : Pages = pages_after 1024 image.log image.db k in
    let there : all 1 ≡ Some (page_after 1024 image.log image.db 1 k) = pages_inside 1024 image.log image.db k 1 (omega arith) (count_some image.log image.db k frames.0 (inr long)) in
    let found = recovered image k frames.0 (omega (arith, long)) in
    let same = first_in_file 1024 image numbers (takes image.log numbers frames) all (page_after 1024 image.log image.db 1 k) found there none in
    (all, found, there ∙ ap (λ (l : List ℕ). Some l) (sym same ∙ is))

some_page : (o : Option (List ℕ)) → IsSome o → (page : List ℕ) × (o ≡ Some page)
some_page (Some page) some = (page, refl)
some_page None some = absurd (cc)

-- a file of pages that is too short for page 1, which no frame has
pub short_first : (image : Image) (numbers : List ℕ) → AreFramesOf 1024 image.log numbers → ((i : ℕ) → i < length numbers → slice_index numbers i ≢ 1) → length image.db < 1024 → IsUnreadable 1024 image
short_first image numbers frames none short pages recovers whole =
    let at = some_page (pages 1) whole.first in
    let held = first_in_file 1024 image numbers (takes image.log numbers frames) pages at.0 recovers at.1 none in
    let within = part_within image.db 0 1024 (omega arith) (ap length held ∙ whole.sized 1 at.0 at.1) in
    absurd (omega (arith, within, short))

-- a log that recovery refuses
pub no_frames : (image : Image) → ((k : ℕ) → ¬ Replays 1024 image.log k) → IsUnreadable 1024 image
no_frames image none pages recovers whole = none recovers.frames recovers.replays

pub right_head : (image : Image) (page : List ℕ) (first : ℕ) → (0 < length image.db → (pages : Pages) × Recovers 1024 image pages × (pages 1 ≡ Some page)) → length page ≡ 1024 → IsHead page first → ¬ HasOtherHead image
right_head image page first found long says strange =
    let at = found strange.recovers.present in
    let same = recovers_once 1024 image strange.pages at.0 strange.recovers at.1 in
    strange.other first (record { bytes = page; there = ap (λ (p : Pages). p 1) same ∙ at.2; sized = long; says = says })

pub other_head : (fault : OpenFault) (image : Image) (page : List ℕ) → (pages : Pages) × Recovers 1024 image pages × (pages 1 ≡ Some page) → IsWrongHead fault page → RecoverWrong fault image
other_head fault image page at wrong = record { pages = at.0; recovers = at.1; page = page; there = at.2; wrong = wrong_page fault at.0 page at.2 wrong }

no_both : (fault : OpenFault) → IsRefusal fault → IsHindrance fault → ⊥
no_both Foreign refusal h = h
no_both (Version n) refusal h = h
no_both Damaged refusal h = h
no_both LoneLog refusal h = refusal
no_both ForeignLog refusal h = refusal
no_both NoMemory refusal h = refusal
no_both (Disk e) refusal h = refusal

version_is : (n : ℕ) → Version n ≡ Foreign → ⊥
version_is n same = cc

damaged_is : Damaged ≡ Foreign → ⊥
damaged_is same = cc

lone_is : LoneLog ≡ Foreign → ⊥
lone_is same = cc

log_is : ForeignLog ≡ Foreign → ⊥
log_is same = cc

pub other_explained : (fault : OpenFault) (image : Image) → IsHindrance fault ⊎ IsOtherFile fault image → Explains fault image
other_explained Foreign image (inl h) = absurd h
other_explained Foreign image (inr (inl unreadable)) = inl unreadable.1
other_explained Foreign image (inr (inr wrong)) = inr wrong
other_explained (Version n) image (inl h) = absurd h
other_explained (Version n) image (inr (inl unreadable)) = absurd (version_is n unreadable.0)
other_explained (Version n) image (inr (inr wrong)) = wrong
other_explained Damaged image (inl h) = absurd h
other_explained Damaged image (inr (inl unreadable)) = absurd (damaged_is unreadable.0)
other_explained Damaged image (inr (inr wrong)) = wrong
other_explained LoneLog image (inl h) = absurd h
other_explained LoneLog image (inr (inl unreadable)) = absurd (lone_is unreadable.0)
other_explained LoneLog image (inr (inr wrong)) = absurd wrong.wrong
other_explained ForeignLog image (inl h) = absurd h
other_explained ForeignLog image (inr (inl unreadable)) = absurd (log_is unreadable.0)
other_explained ForeignLog image (inr (inr wrong)) = absurd wrong.wrong
other_explained NoMemory image why = tt
other_explained (Disk e) image why = tt

pub other_stands_for_none : (fault : OpenFault) (image : Image) (stream : List ℕ) → ¬ IsBlank (head_form 1) image → IsRefusal fault → IsHindrance fault ⊎ IsOtherFile fault image → ¬ StandsFor image stream
other_stands_for_none fault image stream begun refusal (inl h) stands = no_both fault refusal h
other_stands_for_none fault image stream begun refusal (inr (inl unreadable)) stands = not_unreadable image stream begun unreadable.1 stands
other_stands_for_none fault image stream begun refusal (inr (inr wrong)) stands =
    not_without image stream wrong.pages begun wrong.recovers (wrong_pages fault wrong.pages wrong.page wrong.there wrong.wrong) stands

-- in a file of pages in which something was made there is something
pub some_made : (image : Image) → ¬ IsBlank (head_form 1) image → 0 < length image.db
some_made image begun = elim (cases_lt 0 (length image.db)) [ inl some ↦ some | inr none ↦ absurd (begun (inl (omega (arith, none)))) ]

-- ---- what is left

pub kept_trans : (a b c : Image) (p q r : Image → Type 0) → AreKept a p b q → AreKept b q c r → AreKept a p c r
kept_trans a b c p q r s t = record { same = t.same ∙ s.same; leaves = λ left may. s.leaves left (t.leaves left may) }

-- of the same files
pub kept_same : {D : Type 0} (g : Ghosts D) (log db log' db' : D) → log' ≡ log → db' ≡ db → AreKept (seen_image g log db) (outcomes_of g log db) (seen_image g log' db') (outcomes_of g log' db')
kept_same {D} g log db log' db' a b =
    subst (λ (l : D). AreKept (seen_image g log db) (outcomes_of g log db) (seen_image g l db') (outcomes_of g l db')) (sym a)
    (subst (λ (d : D). AreKept (seen_image g log db) (outcomes_of g log db) (seen_image g log d) (outcomes_of g log d)) (sym b) (record { same = refl; leaves = λ left may. may }))

module _ {D : Type 0} {g : Ghosts D} where
  -- after reads
  pub kept_by_reads : (log db log' db' : D) → OnlyReads g log log' → OnlyReads g db db' → AreKept (seen_image g log db) (outcomes_of g log db) (seen_image g log' db') (outcomes_of g log' db')
  kept_by_reads log db log' db' of_log of_db = record {
    same =
        let both : List ℕ → List ℕ → Image = λ (a b : List ℕ). record { log = a; db = b } in
        ap (λ (a : List ℕ). both a (g.seen db')) of_log.seen ∙ ap (λ (b : List ℕ). both (g.seen log) b) of_db.seen;
    leaves = λ left may. (both_clean _ _ _ _ of_log.clean of_db.clean may.0, (of_log.crash left.log may.1.0, of_db.crash left.db may.1.1));
  }

  pub clean_before : (log db log' db' : D) → OnlyReads g log log' → OnlyReads g db db' → AreClean g log' db' → AreClean g log db
  clean_before log db log' db' of_log of_db clean = both_clean _ _ _ _ of_log.clean of_db.clean clean

  -- a pager over these files, and these files out of a pager
  pub kept_over : (it : Pager D g) (log db : D) → files it ≡ (log, db) → AreKept (seen_image g log db) (outcomes_of g log db) (image it) (state it).may_leave
  kept_over it log db is = record {
    same = ap (λ (both : D × D). seen_image g both.0 both.1) is;
    leaves = λ left may. subst (λ (both : D × D). outcomes_of g both.0 both.1 left) is may;
  }

  pub kept_out : (it : Pager D g) (log db : D) → files it ≡ (log, db) → AreKept (image it) (state it).may_leave (seen_image g log db) (outcomes_of g log db)
  kept_out it log db is = record {
    same = sym (ap (λ (both : D × D). seen_image g both.0 both.1) is);
    leaves = λ left may. subst (λ (both : D × D). outcomes_of g both.0 both.1 left) (sym is) may;
  }

  pub clean_over : (it : Pager D g) (log db : D) → files it ≡ (log, db) → IsTrue (state it).is_clean → AreClean g log db
  clean_over it log db is clean = subst (λ (both : D × D). AreClean g both.0 both.1) is clean

  pub clean_out : (it : Pager D g) (log db : D) → files it ≡ (log, db) → AreClean g log db → IsTrue (state it).is_clean
  clean_out it log db is clean = subst (λ (both : D × D). AreClean g both.0 both.1) (sym is) clean
