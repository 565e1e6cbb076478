use Rattle.std.proofs.Common.{◌≡◌, inr, ℕ, List, length, refl, sym, ◌∙◌, arith}
use Rattle.sqlite_wal.proofs.PartLemmas.{held_is_part}
use Rattle.rs_journal.specs.OpenFaults.{log_name}
use Rattle.rs_journal.proofs.pages.checking.check_log.Goals as goal

pub returns-then-is_log_name-clause-right : goal.returns-then-is_log_name-clause-right
returns-then-is_log_name-clause-right g c = λ clean strange.
    let file : List ℕ = g.D.Disk.seen c.args.log.now in
    let long : length c.read_at.new.buf ≡ 3 = omega (arith, c.read_at.auto.buf) in
    let held = held_is_part file c.read_at.new.buf 1 3 (c.in_ok-read_at.ensures.read clean (omega arith)) long in
    let named : c.read_at.new.buf ≡ log_name = cc (c.as_slice.ensures, c.is_log_name.ensures.0 c.if-is_log_name.true) in
    strange.other (held ∙ named)

pub returns-else-is_log_name-clause-wrong : goal.returns-else-is_log_name-clause-wrong
returns-else-is_log_name-clause-wrong g c = λ clean long_log.
    let file : List ℕ = g.D.Disk.seen c.args.log.now in
    let long : length c.read_at.new.buf ≡ 3 = omega (arith, c.read_at.auto.buf) in
    let held = held_is_part file c.read_at.new.buf 1 3 (c.in_ok-read_at.ensures.read clean (omega arith)) long in
    inr (
      refl,
      record {
        long = long_log;
        other = λ same.
            let named : c.as_slice.result.now ≡ log_name = cc (c.as_slice.ensures, sym held ∙ same) in
            absurd (cc (c.if-is_log_name.false, c.is_log_name.ensures.1 named));
      },
    )
