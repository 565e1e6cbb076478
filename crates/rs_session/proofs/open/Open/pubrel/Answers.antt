use Rattle.std.proofs.Common.{◌≡◌, Bool, cond, ap, ◌∙◌}
use Rattle.std.specs.FinSet.{FinSet}
use Rattle.std.specs.Ordering.{nat_cmp}
use Rattle.rs_session.specs.declared.open.Open.{Open}
use Rattle.rs_session.specs.declared.reason.ReasonCode.TheVariants.{Success, PacketIdentifierNotFound}
use Rattle.rs_session.specs.Points.{point_at}
use Rattle.rs_session.proofs.Rows.{released}
use Rattle.rs_session.specs.Table.{released_reason}
use Rattle.rs_session.proofs.open.Open.pubrel.Goals as goal
use Rattle.rs_session.proofs.open.Open.pubrel.Goals.{then-release, else-release}

pub returns : goal.returns
returns c = λ now mark list.
    let code : c.if-release.reason ≡ released_reason c.args.a.id c.args.self.now.inbound = elim c.if-release.branch [
      | then-release w ↦ w.reason-is ∙ ap (λ (b : Bool). cond b Success PacketIdentifierNotFound) w.if-release.ensures.there
      | else-release w ↦ w.reason-is ∙ ap (λ (b : Bool). cond b Success PacketIdentifierNotFound) w.if-release.ensures.there
    ] in
    released c.args.a c.code.result c.if-release.reason now (point_at c.args.self.now list mark) _ c.code.ensures code (ap (λ (s : FinSet nat_cmp). let o : Open = record c.args.self.now { inbound = s } in o) c.release.ensures.removed)
