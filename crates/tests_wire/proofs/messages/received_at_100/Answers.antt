use Rattle.rs_message.proofs.Sizes.{small_message}
use Rattle.tests_wire.proofs.messages.received_at_100.Goals as goal

pub new-requires-clause-fits : goal.new-requires-clause-fits
new-requires-clause-fits c = simp (c.none.ensures, c.from_static.ensures) (small_message _ _ c.requires.small)
