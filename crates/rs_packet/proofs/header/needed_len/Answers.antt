use Rattle.std.proofs.Common.{Ok, Err, Some, None, arith}
use Rattle.rs_packet.proofs.Prefixes.{needed_is}
use Rattle.rs_packet.proofs.header.needed_len.Goals as goal

pub returns-in-Ok-Some : goal.returns-in-Ok-Some
returns-in-Ok-Some c =
    let h = needed_is c.args.bytes.now (Ok (Some c.in-Ok-Some.header)) (λ i. omega (arith, c.type_inv.bytes i)) (rw c.in-Ok-Some.field-0-is at c.in-Ok-Some.ensures) in
    record { short = h.short; needed = h.needed; enough = h.enough; waits = h.waits; whole = h.whole; sized = h.sized }

pub returns-in-Ok-None : goal.returns-in-Ok-None
returns-in-Ok-None c =
    let h = needed_is c.args.bytes.now (Ok None) (λ i. omega (arith, c.type_inv.bytes i)) (rw c.in-Ok-None.field-0-is at c.in-Ok-None.ensures) in
    record { short = h.short; needed = h.needed; enough = h.enough; waits = h.waits; whole = h.whole; sized = h.sized }

pub returns-in-Err : goal.returns-in-Err
returns-in-Err c =
    let h = needed_is c.args.bytes.now (Err c.in-Err._fault) (λ i. omega (arith, c.type_inv.bytes i)) c.in-Err.ensures in
    record { short = h.short; needed = h.needed; enough = h.enough; waits = h.waits; whole = h.whole; sized = h.sized }
