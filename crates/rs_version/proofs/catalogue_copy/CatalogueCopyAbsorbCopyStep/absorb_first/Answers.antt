use Rattle.std.proofs.Common.{refl}
use Rattle.rs_version.proofs.catalogue_copy.CatalogueCopyAbsorbCopyStep.absorb_first.Goals as goal

pub returns-clause-absorbed : goal.returns-clause-absorbed
returns-clause-absorbed c = rw (c.in_ok-apply.ensures.done, c.in_ok-copy.ensures, c.again.ensures) refl
