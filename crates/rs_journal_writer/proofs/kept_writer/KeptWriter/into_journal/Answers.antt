use Rattle.std.proofs.Common.{subst}
use Rattle.rs_journal.specs.Journals.{may_leave}
use Rattle.rs_journal_writer.specs.Keeping.{IsSafe, KeptValue}
use Rattle.rs_journal_writer.proofs.Parts.{safe}
use Rattle.rs_journal_writer.proofs.kept_writer.KeptWriter.into_journal.Goals as goal

pub returns : goal.returns
returns g c =
    let K : KeptValue → Type 0 = λ k. IsSafe (may_leave c.self.inside.journal) k in
    subst K c.self.view_is (safe _ _ _ c.self.inside.journal _ _ _ c.self.invariant)
