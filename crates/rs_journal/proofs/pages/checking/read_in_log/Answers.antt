use Rattle.std.proofs.Common.{◌≡◌, ℕ, List, length, sym, ap, ◌∙◌, arith}
use Rattle.sqlite_wal.specs.Format.{part}
use Rattle.sqlite_wal.proofs.PartLemmas.{held_is_part}
use Rattle.rs_journal.proofs.pages.checking.read_in_log.Goals as goal

pub returns-clause-read : goal.returns-clause-read
returns-clause-read g c = λ clean.
    let file : List ℕ = g.D.Disk.seen c.args.log.now in
    let holds = c.in_ok-read_at.ensures.read clean (omega (arith, c.requires.sized)) in
    let long : length c.read_at.new.buf ≡ 1024 = omega (arith, c.read_at.auto.buf, c.requires.sized) in
    ap (λ (n : ℕ). part file n 1024) (sym c.in-Some.ensures) ∙ held_is_part file c.read_at.new.buf c.in-Some.at 1024 holds long
