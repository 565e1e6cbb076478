use Rattle.std.proofs.Common.{◌≡◌, All, vec_len}
use Rattle.left_right.specs.Sides.{view}
use Rattle.rs_version.specs.VersionRule.{Names}
use Rattle.rs_version.proofs.blank.seats.Given as goal

abbrev pub invariant-loop-place : goal.invariant-loop-place
invariant-loop-place g l = Names g.N.StoreName.history g.N.StoreName.limit (view l.writer.desk.place)
    × (l.writer.desk.shown ≡ l.fn.writer.desk.shown) × (l.writer.log ≡ l.fn.writer.log) × (l.writer.behind ≡ l.fn.writer.behind)
    × (vec_len l.all ≡ l._place) × All (λ s. s ≡ l.list) l.all.items
