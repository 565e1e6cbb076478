use Rattle.std.proofs.Common.{rules}
use Rattle.rs_version.proofs.VersionRule.{forks, merges}
use Rattle.rs_version.proofs.copies.inform.Goals as goal

pub tell-requires : goal.tell-requires
tell-requires c = forks _ _

pub learn-requires : goal.learn-requires
learn-requires c = record { own = search rules; rule = merges _ _ _ _ }
