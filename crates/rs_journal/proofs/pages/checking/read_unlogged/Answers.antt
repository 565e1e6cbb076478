use Rattle.std.proofs.Common.{◌≡◌, ◌⊎◌, inl, inr, ◌<◌, length, List, ℕ, slice_index, ◌≢◌}
use Rattle.sqlite_wal.specs.Files.{seen_image}
use Rattle.sqlite_wal.specs.Recovery.{Image, AreFramesOf, IsUnreadable}
use Rattle.sqlite_wal.proofs.CleanLemmas.{halves}
use Rattle.rs_journal.specs.declared.pages.fault.OpenFault.{OpenFault}
use Rattle.rs_journal.specs.declared.pages.fault.OpenFault.TheVariants.{Foreign}
use Rattle.rs_journal.specs.OpenFaults.{IsHindrance}
use Rattle.rs_journal.proofs.CheckLemmas.{first_by_file, short_first}
use Rattle.rs_journal.proofs.pages.checking.read_unlogged.Goals as goal

short_file : (e : OpenFault) (image : Image) (numbers : List ℕ) → AreFramesOf 1024 image.log numbers → ((i : ℕ) → i < length numbers → slice_index numbers i ≢ 1) → IsHindrance e ⊎ ((e ≡ Foreign) × (length image.db < 1024))
    → IsHindrance e ⊎ ((e ≡ Foreign) × IsUnreadable 1024 image)
short_file e image numbers frames none (inl hindrance) = inl hindrance
short_file e image numbers frames none (inr short) = inr (short.0, short_first image numbers frames none short.1)

pub returns-in-Ok-clause-read : goal.returns-in-Ok-clause-read
returns-in-Ok-clause-read g c = λ clean present.
    let old = c.args.files.now in
    let both = halves g.D.Disk _ _ clean in
    let here = c.in-Ok.ensures.read both.1 in
    first_by_file (seen_image g.D.Disk old.log old.db) c.args.numbers.now c.read_in_file.new.page (c.requires.frames both.0) c.requires.none here.0 here.1

pub returns-in-Err-clause-refused : goal.returns-in-Err-clause-refused
returns-in-Err-clause-refused g c = λ clean.
    let old = c.args.files.now in
    let both = halves g.D.Disk _ _ clean in
    short_file c.in-Err.fault (seen_image g.D.Disk old.log old.db) c.args.numbers.now (c.requires.frames both.0) c.requires.none (c.in-Err.ensures.short both.1)
