use denote.Param.{param}
use denote.Param.Send.{shr_send}
use Rattle.rs_version.proofs.Sent.{parts_send-2, seat_send}
use Rattle.bench_timings.proofs.versions.Shared.TheSendSync as shared
use Rattle.bench_timings.proofs.versions.fn.beside.scope.Goals as goal

pub spawn-requires-send-F : goal.spawn-requires-send-F
spawn-requires-send-F g c κs within =
    parts_send-2 _ (seat_send (param 1 g.row.N) g.N.StoreName) (shr_send _ _ _ shared.the_sync)
