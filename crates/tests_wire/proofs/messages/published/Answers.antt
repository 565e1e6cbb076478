use Rattle.rs_message.proofs.Sizes.{small_message}
use Rattle.tests_wire.proofs.messages.published.Goals as goal

pub of-requires : goal.of-requires
of-requires c = simp (c.none.ensures, c.from_static.ensures) (small_message _ _ c.requires)
