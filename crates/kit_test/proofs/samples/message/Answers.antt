use Rattle.rs_message.proofs.Sizes.{large_message}
use Rattle.kit_test.proofs.samples.message.Goals as goal

pub new-requires-clause-fits : goal.new-requires-clause-fits
new-requires-clause-fits c = simp c.none.ensures (large_message _ _ c.requires.fits)
