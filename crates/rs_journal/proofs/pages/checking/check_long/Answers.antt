use Rattle.std.proofs.Common.{sym, ◌∙◌, arith}
use Rattle.sqlite_wal.proofs.CleanLemmas.{halves}
use Rattle.rs_journal.proofs.CheckLemmas.{clean_before}
use Rattle.rs_journal.proofs.pages.checking.check_long.Goals as goal

pub check_some-requires-clause-long : goal.check_some-requires-clause-long
check_some-requires-clause-long g c = λ looks clean. let told = c.has_name.ensures.0 looks in omega (arith, told.1, c.requires.of_log clean)

pub returns-then-is_lone-clause-named : goal.returns-then-is_lone-clause-named
returns-then-is_lone-clause-named g c = λ clean.
    let told = c.is_lone.ensures.0 c.if-is_lone.true in
    let both = halves g.D.Disk _ _ clean in
    record { empty = sym (c.requires.of_db both.1) ∙ told.0; long = omega (arith, told.1, c.requires.of_log both.0) }

pub returns-in-Ok-clause-lone : goal.returns-in-Ok-clause-lone
returns-in-Ok-clause-lone g c = λ clean lone.
    let old = c.args.files.now in
    let last = c.check_some.new.files in
    let both = halves g.D.Disk _ _ (clean_before old.log old.db last.log last.db c.check_some.ensures.log c.check_some.ensures.db clean) in
    absurd (cc (c.if-is_lone.false, c.is_lone.ensures.1 (c.requires.of_db both.1 ∙ lone.empty, omega (arith, lone.long, c.requires.of_log both.0))))

pub returns-in-Ok-clause-named_log : goal.returns-in-Ok-clause-named_log
returns-in-Ok-clause-named_log g c = λ mixing clean strange.
    let old = c.args.files.now in
    let last = c.check_some.new.files in
    let both = halves g.D.Disk _ _ (clean_before old.log old.db last.log last.db c.check_some.ensures.log c.check_some.ensures.db clean) in
    c.in-Ok.ensures.named_log (c.has_name.ensures.1 (mixing, omega (arith, strange.long, c.requires.of_log both.0))) clean strange
