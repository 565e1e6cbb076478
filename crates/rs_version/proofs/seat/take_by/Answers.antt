use Rattle.rs_version.proofs.VersionRule.{turns, continues_self}
use Rattle.rs_version.proofs.seat.take_by.Goals as goal

pub enter_as-requires : goal.enter_as-requires
enter_as-requires g c x = turns _ _ x x (λ sound. (sound, continues_self x))
