use Rattle.std.proofs.Common.{◌≡◌, refl, subst, sym, true}
use Rattle.crossbeam_channel.specs.Claims.{view}
use Rattle.rs_intake_line.specs.ReplyRule.{WayView, both_ends}
use Rattle.rs_intake_line.proofs.Ways.{cuts_way, starts_way}
use Rattle.rs_intake_line.proofs.reply.way_back.Goals as goal

pub bounded_with-requires-clause-rule : goal.bounded_with-requires-clause-rule
bounded_with-requires-clause-rule g c = starts_way

pub another-other-requires-clause-rule : goal.another-other-requires-clause-rule
another-other-requires-clause-rule g c =
    let new : view c.in_ok-to.pass ≡ both_ends = c.in_ok-to.ensures.3 in
    let S : WayView → Type 0 = λ v. v.sends ≡ true in
    let R : WayView → Type 0 = λ v. v.receives ≡ true in
    cuts_way _ (view c.in_ok-to.pass) (subst S (sym new) refl) (subst R (sym new) refl)
