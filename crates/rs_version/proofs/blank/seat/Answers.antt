use Rattle.rs_version.proofs.VersionRule.{admits}
use Rattle.rs_version.proofs.blank.seat.Goals as goal

pub reader-requires : goal.reader-requires
reader-requires g c = admits
