use Rattle.std.proofs.Common.{◌≡◌, ℕ, List, length, sym, ap, ◌∙◌, arith}
use Rattle.sqlite_wal.specs.Format.{part}
use Rattle.sqlite_wal.proofs.PartLemmas.{held_is_part}
use Rattle.rs_journal.proofs.pages.checking.read_in_file.Goals as goal

pub returns-clause-read : goal.returns-clause-read
returns-clause-read g c = λ clean.
    let mid : List ℕ = g.D.Disk.seen c.len.new.self in
    let holds = c.in_ok-read_at.ensures.read clean (omega (arith, c.requires.sized)) in
    let long : length c.read_at.new.buf ≡ 1024 = omega (arith, c.read_at.auto.buf, c.requires.sized) in (
      omega (arith, c.if-branch-lt-PAGE_SIZE.false, c.in_ok-len.ensures.len (c.read_at.ensures.clean clean)),
      ap (λ (f : List ℕ). part f 0 1024) (sym c.len.ensures.seen) ∙ held_is_part mid c.read_at.new.buf 0 1024 holds long,
    )
