use Rattle.std.proofs.Common.{refl}
use Rattle.sqlite_wal.proofs.StateLemmas.{Keeps-refl}
use Rattle.sqlite_pager.specs.Pager.{state}
use Rattle.rs_journal.proofs.StandsLemmas.{adds_nothing, closed_same, holds_kept, rests_kept}
use Rattle.rs_journal.proofs.pages.stream.PageStream.checkpoint.Goals as goal

pub returns-in-Ok-clause-holds : goal.returns-in-Ok-clause-holds
returns-in-Ok-clause-holds g c = λ standing seen holds. holds_kept c.args.self.now _ standing seen c.checkpoint.ensures.keeps c.checkpoint.ensures.pages refl refl refl holds

pub returns-in-Ok-clause-rests : goal.returns-in-Ok-clause-rests
returns-in-Ok-clause-rests g c = λ standing rests. rests_kept c.args.self.now _ standing c.checkpoint.ensures.keeps c.checkpoint.ensures.pages refl refl refl rests

pub returns-in-Ok-clause-crash : goal.returns-in-Ok-clause-crash
returns-in-Ok-clause-crash g c = adds_nothing c.args.self.now c.checkpoint.new.self c.checkpoint.ensures.keeps

pub returns-in-Err-clause-holds : goal.returns-in-Err-clause-holds
returns-in-Err-clause-holds g c = λ standing seen holds. holds_kept c.args.self.now _ standing seen c.checkpoint.ensures.keeps c.checkpoint.ensures.pages refl refl refl holds

pub returns-in-Err-clause-rests : goal.returns-in-Err-clause-rests
returns-in-Err-clause-rests g c = λ standing rests. rests_kept c.args.self.now _ standing c.checkpoint.ensures.keeps c.checkpoint.ensures.pages refl refl refl rests

pub returns-in-Err-clause-crash : goal.returns-in-Err-clause-crash
returns-in-Err-clause-crash g c = adds_nothing c.args.self.now c.checkpoint.new.self c.checkpoint.ensures.keeps

pub returns-in_err-check_open-clause-closed : goal.returns-in_err-check_open-clause-closed
returns-in_err-check_open-clause-closed g c = closed_same c.args.self.now _ refl

pub returns-in_err-check_open-clause-crash : goal.returns-in_err-check_open-clause-crash
returns-in_err-check_open-clause-crash g c = adds_nothing c.args.self.now c.args.self.now.pager (Keeps-refl (state c.args.self.now.pager))

pub returns-in-Err-clause-closed : goal.returns-in-Err-clause-closed
returns-in-Err-clause-closed g c = λ shut. absurd (shut c.in_ok-check_open.ensures)

pub returns-in-Ok-clause-closed : goal.returns-in-Ok-clause-closed
returns-in-Ok-clause-closed g c = λ shut. absurd (shut c.in_ok-check_open.ensures)

pub returns-in-Ok-clause-open : goal.returns-in-Ok-clause-open
returns-in-Ok-clause-open g c = c.in_ok-check_open.ensures
