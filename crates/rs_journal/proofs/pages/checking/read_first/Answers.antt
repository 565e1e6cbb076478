use Rattle.std.proofs.Common.{◌≡◌, ◌⊎◌, inl, inr, ℕ, List, Some, sym, subst}
use Rattle.sqlite_wal.specs.Recovery.{AreFramesOf, Image, IsUnreadable, Pages, Recovers, Replays}
use Rattle.sqlite_wal.specs.Files.{seen_image}
use Rattle.sqlite_wal.proofs.CleanLemmas.{halves}
use Rattle.rs_journal.specs.declared.pages.fault.OpenFault.{OpenFault}
use Rattle.rs_journal.specs.declared.pages.fault.OpenFault.TheVariants.{Foreign}
use Rattle.rs_journal.specs.OpenFaults.{IsHindrance}
use Rattle.rs_journal.proofs.CheckLemmas.{no_frames}
use Rattle.rs_journal.proofs.pages.checking.read_first.Goals as goal

no_log : (e : OpenFault) (image : Image) → IsHindrance e ⊎ ((e ≡ Foreign) × ((k : ℕ) → ¬ Replays 1024 image.log k)) → IsHindrance e ⊎ ((e ≡ Foreign) × IsUnreadable 1024 image)
no_log e image (inl hindrance) = inl hindrance
no_log e image (inr none) = inr (none.0, no_frames image none.1)

same_log : (a b db : List ℕ) (P : Image → Type 0) → a ≡ b → P (record { log = a; db = db }) → P (record { log = b; db = db })
same_log a b db P same p =
    let by : List ℕ → Image = λ (l : List ℕ). record { log = l; db = db } in subst (λ (l : List ℕ). P (by l)) same p

pub read_page_1-requires-clause-frames : goal.read_page_1-requires-clause-frames
read_page_1-requires-clause-frames g c = λ clean.
    let old : List ℕ = g.D.Disk.seen c.args.files.now.log in
    subst (λ (l : List ℕ). AreFramesOf 1024 l c.deref.result.now) (sym c.read_frames.ensures.same.seen) (subst (λ (n : List ℕ). AreFramesOf 1024 old n) (sym c.deref.ensures.value) (c.in-Ok.ensures.taken clean))

pub returns-in-Err-clause-refused : goal.returns-in-Err-clause-refused
returns-in-Err-clause-refused g c = λ clean.
    let old = c.args.files.now in no_log c.in-Err.fault (seen_image g.D.Disk old.log old.db) (c.in-Err.ensures.refused (halves g.D.Disk _ _ clean).0)

pub returns-in-Ok-read_page_1-clause-read : goal.returns-in-Ok-read_page_1-clause-read
returns-in-Ok-read_page_1-clause-read g c = λ clean present.
    let old = c.args.files.now in
    same_log (g.D.Disk.seen c.read_frames.new.log) (g.D.Disk.seen old.log) (g.D.Disk.seen old.db) (λ (i : Image). (pages : Pages) × Recovers 1024 i pages × (pages 1 ≡ Some c.read_page_1.new.page)) c.read_frames.ensures.same.seen
    (c.in-Ok-read_page_1.ensures.read clean present)

pub returns-clause-refused : goal.returns-clause-refused
returns-clause-refused g c = λ clean.
    let old = c.args.files.now in
    let e = c.in-Err-read_page_1.fault in
    same_log (g.D.Disk.seen c.read_frames.new.log) (g.D.Disk.seen old.log) (g.D.Disk.seen old.db) (λ (i : Image). IsHindrance e ⊎ ((e ≡ Foreign) × IsUnreadable 1024 i)) c.read_frames.ensures.same.seen
    (c.in-Err-read_page_1.ensures.refused clean)
