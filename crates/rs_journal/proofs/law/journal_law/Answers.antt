use Rattle.rs_journal.proofs.FrameLemmas.{one_list_of}
use Rattle.rs_journal.proofs.law.journal_law.Goals as goal

pub returns : goal.returns
returns c = one_list_of
