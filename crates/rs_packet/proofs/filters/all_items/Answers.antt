use Rattle.std.proofs.lemmas.Result.{err_from_is_err_and}
use Rattle.rs_packet_field.proofs.PropertyLoop.{some_left, none_left}
use Rattle.rs_packet.proofs.ItemLoop.{begins, more, fails, done}
use Rattle.rs_packet.proofs.filters.all_items.Goals as goal

pub next-init : goal.next-init
next-init g c = rw c.new-all.ensures.items (begins g.I.PayloadItem.item_at c.args.body)

pub next-smaller : goal.next-smaller
next-smaller g c = c.in_ok-item.ensures.shorter

pub next-preserved : goal.next-preserved
next-preserved g c =
    more g.I.PayloadItem.item_at c.args.body c.next.all.items c.next.rest c.in_ok-item.item c.item_of.new.rest c.push.new.self.items
    c.next.invariant (some_left c.next.rest c.is_empty.result c.is_empty.ensures c.next-test.true) c.in_ok-item.ensures.read c.in_ok-item.ensures.shorter c.in_ok-push.ensures.items

pub returns : goal.returns
returns g c =
    let all = done g.I.PayloadItem.item_at c.args.body c.next.all.items c.next.rest c.next.invariant (none_left c.next.rest c.is_empty.result c.is_empty.ensures c.next-test.false) in
    record { read = all.is; few = all.few; some = all.some }

pub returns-in_err-item-clause-read : goal.returns-in_err-item-clause-read
returns-in_err-item-clause-read g c =
    let p = err_from_is_err_and c.from_residual.result c.from_residual.ensures.1 in
    rw (p.1, p.2) (fails g.I.PayloadItem.item_at c.args.body c.next.all.items c.next.rest c.in_err-item.field-0.0
    c.next.invariant (some_left c.next.rest c.is_empty.result c.is_empty.ensures c.next-test.true) c.in_err-item.ensures.read)
