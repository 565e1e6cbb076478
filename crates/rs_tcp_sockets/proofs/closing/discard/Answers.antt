use Rattle.std.proofs.Common.{◌++◌, arith}
use Rattle.std.proofs.lemmas.List.{length-append}
use Rattle.std.proofs.KnownBytes.{Consumes-trans}
use Rattle.rs_tcp_sockets.proofs.closing.discard.Goals as goal

pub loop-left-preserved : goal.loop-left-preserved
loop-left-preserved g c =
    let (before, sum, consumed) = c.loop-left.invariant in
    let (more, size, further) = c.discard_some.ensures.bytes in
    (before ++ more, omega (arith, length-append before more, sum, size, c.discard_some.ensures.bound), Consumes-trans _ _ _ _ _ consumed further)
