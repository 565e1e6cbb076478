use Rattle.std.proofs.Common.{subst}
use Rattle.rs_journal.specs.Journals.{may_leave}
use Rattle.rs_journal_writer.specs.Keeping.{Covers, KeptValue}
use Rattle.rs_journal_writer.proofs.Parts.{safe_told}
use Rattle.rs_journal_writer.proofs.kept_writer.KeptWriter.into_journal_after.Goals as goal

pub returns : goal.returns
returns g c =
    let K : KeptValue → Type 0 = λ k. Covers (may_leave c.self.inside.journal) k c.args.told.now in
    subst K c.self.view_is (safe_told _ _ _ c.self.inside.journal _ _ _ _ c.self.invariant c.note_covered.ensures.prefix)
