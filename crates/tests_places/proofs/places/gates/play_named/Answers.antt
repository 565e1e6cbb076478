use Rattle.std.proofs.Common.{subst, sym}
use Rattle.rs_version.specs.First.{AreOwn}
use Rattle.rs_version.specs.Writer.{Written, kept_of}
use Rattle.tests_places.proofs.places.gates.play_named.Goals as goal

pub start_writer-requires-after_bounds : goal.start_writer-requires-after_bounds
start_writer-requires-after_bounds g c κs within =
    let P : Written → Type 0 = λ w. AreOwn (kept_of w) in
    subst P (sym c.in-Ok.ensures.writer) tt
