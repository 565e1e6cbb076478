use Rattle.rs_journal.proofs.OpenLemmas.{one_image}
use Rattle.rs_journal.proofs.law.image_law.Goals as goal

pub returns : goal.returns
returns c = one_image
