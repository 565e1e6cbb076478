use Rattle.sqlite_wal.specs.Files.{seen_image}
use Rattle.sqlite_wal.proofs.CleanLemmas.{halves}
use Rattle.rs_journal.proofs.CheckLemmas.{first_by_frame}
use Rattle.rs_journal.proofs.pages.checking.read_logged.Goals as goal

pub returns-in-Ok-clause-read : goal.returns-in-Ok-clause-read
returns-in-Ok-clause-read g c = λ clean present.
    let old = c.args.files.now in
    let both = halves g.D.Disk _ _ clean in
    first_by_frame (seen_image g.D.Disk old.log old.db) c.args.numbers.now c.args.frame c.read_in_log.new.page (c.requires.frames (c.read_in_log.ensures.same.clean both.0)) c.requires.last (c.in-Ok.ensures.read both.0) present
