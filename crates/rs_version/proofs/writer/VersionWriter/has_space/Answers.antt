use Rattle.std.proofs.Common.{◌≡◌, ℕ, ◌+◌, ◌≤◌, ◌<◌, ◌^◌, List, length, ap, sym, subst, arith}
use Rattle.rs_message.specs.declared.entry.Entry.{Entry}
use Rattle.rs_version.specs.Catalogues.{content_of}
use Rattle.rs_version.specs.Copies.{shown}
use Rattle.rs_version.specs.Space.{HasSpaceFor}
use Rattle.rs_version.proofs.Space.{has_space}
use Rattle.rs_version.proofs.writer.VersionWriter.has_space.Goals as goal

pub returns : goal.returns
returns g c =
    let x = shown c.self.inside.copies in
    let limit = g.N.StoreName.limit in
    let topics : c.count-topics.result ≡ length (content_of x.catalogue).retained = rw c.catalogue-catalogue.ensures at c.count-topics.ensures.value in
    let fewer : c.count-topics.result ≤ (content_of x.catalogue).limit = rw c.catalogue-catalogue.ensures at c.count-topics.ensures.few in
    let entries : c.version-entries.result ≡ (content_of x.catalogue).version = rw c.catalogue-catalogue.ensures at c.version-entries.ensures in
    let is = c.self.invariant.limit_is in
    let space = c.if-count-saturating_sub.false in
    let free = c.saturating_sub.ensures in
    let value = c.get.ensures.value in
    let asked = c.requires in
    let few = c.if-count-entries.false in
    let P : List Entry → Type 0 = λ l. HasSpaceFor limit l c.args.count in
    λ _. subst P (ap (λ w. w.published) c.self.view_is)
    (has_space (content_of x.catalogue) x.prefix.log limit c.args.count c.self.invariant.sound is (omega (arith, topics, fewer, is, space, free, value, asked)) (omega (arith, entries, few)))
