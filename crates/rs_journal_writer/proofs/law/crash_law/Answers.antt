use Rattle.rs_journal_writer.proofs.Crashes.{answer_as_before}
use Rattle.rs_journal_writer.proofs.law.crash_law.Goals as goal

pub returns : goal.returns
returns c = answer_as_before
