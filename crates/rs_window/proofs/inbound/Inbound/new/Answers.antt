use Rattle.std.proofs.Common.{subst, sym}
use Rattle.std.specs.Ordering.{nat_cmp}
use Rattle.std.specs.FinSet.{len-empty}
use Rattle.rs_window.specs.InUse.{IsDistinct}
use Rattle.rs_window.proofs.inbound.Inbound.new.Goals as goal

pub invariant_of-result : goal.invariant_of-result
invariant_of-result c = subst IsDistinct (sym c.new.ensures) (len-empty nat_cmp)
