use Rattle.std.proofs.Common.{◌≡◌, ◌⊎◌, inl, inr}
use Rattle.sqlite_wal.specs.Recovery.{Image, IsUnreadable}
use Rattle.sqlite_wal.specs.Files.{seen_image}
use Rattle.rs_journal.specs.declared.pages.fault.OpenFault.{OpenFault}
use Rattle.rs_journal.specs.declared.pages.fault.OpenFault.TheVariants.{Foreign}
use Rattle.rs_journal.specs.OpenFaults.{IsHindrance, IsOtherFile}
use Rattle.rs_journal.proofs.CheckLemmas.{other_head, right_head}
use Rattle.rs_journal.proofs.pages.checking.check_page_1.Goals as goal

no_pages : (e : OpenFault) (image : Image) → IsHindrance e ⊎ ((e ≡ Foreign) × IsUnreadable 1024 image) → IsHindrance e ⊎ IsOtherFile e image
no_pages e image (inl hindrance) = inl hindrance
no_pages e image (inr unreadable) = inr (inl unreadable)

pub returns-in-Err-clause-wrong : goal.returns-in-Err-clause-wrong
returns-in-Err-clause-wrong g c = λ clean present.
    let old = c.args.files.now in no_pages c.in-Err.fault (seen_image g.D.Disk old.log old.db) (c.in-Err.ensures.refused clean)

pub returns-in-Err-read_head-clause-wrong : goal.returns-in-Err-read_head-clause-wrong
returns-in-Err-read_head-clause-wrong g c = λ clean present.
    let old = c.args.files.now in
    inr (inr (other_head c.in-Err-read_head.fault (seen_image g.D.Disk old.log old.db) c.read_first.new.page (c.in_default.ensures.read clean present) c.in-Err-read_head.ensures.err))

pub returns-in-Ok-clause-right : goal.returns-in-Ok-clause-right
returns-in-Ok-clause-right g c = λ clean.
    let old = c.args.files.now in
    right_head (seen_image g.D.Disk old.log old.db) c.read_first.new.page c.in-Ok.field-0 (λ present. c.in_default.ensures.read clean present) c.read_first.ensures.sized c.in-Ok.ensures.ok
