-- What a crash may leave of a stream that was opened and read.
use Rattle.std.proofs.Common.{◌≡◌, inr, ℕ, List, subst}
use Rattle.std.specs.Prelude.{Contains}
use Rattle.sqlite_disk.specs.declared.Disk.{Ghosts}
use Rattle.sqlite_wal.proofs.LogLemmas.{SeenMayStay}
use Rattle.rs_journal.specs.declared.pages.stream.PageStream.{PageStream}
use Rattle.rs_journal.specs.Images.{EachStandsForOne}
use Rattle.rs_journal.specs.Streams.{may_leave, image, IsClean, Rests}
use Rattle.rs_journal.proofs.OpenLemmas.{one_image, seen_is_left}
use Rattle.rs_journal.proofs.StandsLemmas.{leaves_of, stands_if_rests}

module _ {D : Type 0} {g : Ghosts D} where
  pub each_at_rest : (mid new : PageStream D g) (standing : List ℕ) (streams : List (List ℕ)) → SeenMayStay g → Rests mid standing → Rests new standing → (IsClean new → IsClean mid)
      → EachStandsForOne (may_leave mid) streams → EachStandsForOne (may_leave new) streams
  each_at_rest mid new standing streams stay was rests honest each left may =
      let seen = seen_is_left mid.pager stay (honest may.0) in
      let at = each (image mid) seen in
      let same : at.0 ≡ standing = one_image (image mid) at.0 standing at.2 (inr (leaves_of mid standing (stands_if_rests mid standing was) (image mid) seen)) in
      (standing, subst (λ (s : List ℕ). Contains streams s) same at.1, inr (leaves_of new standing (stands_if_rests new standing rests) left may))
