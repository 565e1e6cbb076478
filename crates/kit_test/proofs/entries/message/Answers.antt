use Rattle.rs_message.proofs.Sizes.{small_message}
use Rattle.kit_test.proofs.entries.message.Goals as goal

pub new-requires-clause-fits : goal.new-requires-clause-fits
new-requires-clause-fits c = rw (c.in_ok-payload.ensures, c.none.ensures) (small_message c.args.expiry c.args.payload.now c.requires.small)
