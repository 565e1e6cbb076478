use Rattle.std.proofs.Common.{refl, subst}
use Rattle.sqlite_wal.specs.Recovery.{Pages}
use Rattle.sqlite_wal.proofs.StateLemmas.{clean_of}
use Rattle.sqlite_pager.specs.Pager.{state, visible}
use Rattle.rs_journal.specs.Pages.{HasStream, joined}
use Rattle.rs_journal.proofs.StandsLemmas.{rests_found}
use Rattle.rs_journal.proofs.pages.stream.PageStream.open.Goals as goal

pub returns-in-Ok-clause-found : goal.returns-in-Ok-clause-found
returns-in-Ok-clause-found g c =
    let last = c.in-Ok.pager in
    let extent = c.in-Ok.extent in
    let stream = joined (visible last) extent.count in (
      stream,
      λ clean. (c.in-Ok.ensures.found clean).0,
      rests_found {g = g.D.Disk} _ stream g.met.D.Disk.seen_may_stay c.in-Ok.ensures.ready
          (λ sound. subst (λ (p : Pages). HasStream p extent.first extent.count stream) (c.in-Ok.ensures.clean (clean_of (state last) sound)).1 (c.in-Ok.ensures.found (clean_of (state last) sound)).1)
          (λ sound. (c.in-Ok.ensures.clean (clean_of (state last) sound)).1)
          refl
          c.new.ensures.items,
    )
