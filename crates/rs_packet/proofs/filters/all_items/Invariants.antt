use Rattle.std.proofs.Common.{length}
use Rattle.rs_packet.proofs.ItemLoop.{IsOnTheWay}
use Rattle.rs_packet.proofs.filters.all_items.Given as goal

abbrev pub invariant-next : goal.invariant-next
invariant-next g l = IsOnTheWay g.I.PayloadItem.item_at l.fn.body l.all.items l.rest

abbrev pub decreases-next : goal.decreases-next
decreases-next g l = length l.rest
