use Rattle.std.proofs.Common.{◌≡◌, ap, arith, length}
use Rattle.rs_version.specs.Catalogues.{content_of}
use Rattle.rs_version.specs.Copies.{shown}
use Rattle.rs_version.proofs.Whole.{answers_all}
use Rattle.rs_version.proofs.writer.VersionWriter.retained.Goals as goal

pub returns : goal.returns
returns g c =
    let x = content_of (shown c.self.inside.copies).catalogue in
    let topics : c.count.result ≡ length x.retained = rw c.catalogue-catalogue.ensures at c.count.ensures.value in
    let long : length c.in_ok-found.found.items ≡ length x.retained = omega (arith, topics, c.len.ensures, c.if-len-count.false) in
    rw (← ap (λ w. w.published) c.self.view_is) (x, c.self.invariant.sound, answers_all c.in-Ok.filter 0 x.retained c.in_ok-found.found.items (rw c.catalogue-catalogue.ensures at c.in_ok-found.ensures) long)
