use Rattle.std.proofs.Common.{ap}
use Rattle.rs_version.specs.Catalogues.{content_of}
use Rattle.rs_version.specs.Copies.{shown}
use Rattle.rs_version.proofs.writer.VersionWriter.bytes.Goals as goal

pub returns : goal.returns
returns g c =
    rw (← ap (λ w. w.published) c.self.view_is) (content_of (shown c.self.inside.copies).catalogue, c.self.invariant.sound, rw c.catalogue.ensures at c.bytes.ensures)
