use Rattle.std.proofs.Common.{arith}
use Rattle.rs_tcp_server.proofs.server.Server.run.Goals as goal

pub returns-clause-more : goal.returns-clause-more
returns-clause-more g c = λ less.
    let place = c.get.ensures.value in
    let same = c.from-alone.ensures in
    let m = c.line_count-lines.ensures.more (omega (arith, less, place, same)) in
    let count = c.get-5.ensures.value in
    let low = m.0 in
    let high = m.1 in
    (omega (arith, low, place, same, count), omega (arith, high, count))

pub returns-clause-run : goal.returns-clause-run
returns-clause-run g c =
    let e = c.in_ok-end.ensures in
    (e.0, e.1, c.in_ok-end.end.version, c.in_ok-end.end.cause, rw c.get-5.ensures.value e.2)
