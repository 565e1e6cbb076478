use Rattle.std.proofs.Common.{drop}
use Rattle.rs_version.proofs.VersionRule.{turns, goes_on}
use Rattle.rs_version.proofs.copies.publish_once.Goals as goal

pub publish_as-requires : goal.publish_as-requires
publish_as-requires g c next is =
    let now = c.args.writer.desk.shown.value in
    turns _ _ now next (goes_on now next (drop c.args.writer.behind c.args.writer.log.items) c.requires.one c.requires.follows is)
