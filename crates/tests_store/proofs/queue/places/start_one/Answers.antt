use denote.Param.{param}
use Rattle.rs_intake_line.proofs.line.SeatLine.TheSendSync as line
use Rattle.rs_version.proofs.Sent.{parts_send-4, seat_send}
use Rattle.tests_store.proofs.queue.places.Task.TheSendSync as task
use Rattle.tests_store.proofs.queue.places.start_one.Goals as goal

pub spawn-requires-send-F : goal.spawn-requires-send-F
spawn-requires-send-F g c κs within =
    parts_send-4 _ c.type_bounds.send-R task.the_send (line.the_send (param 0 g.row.N) g.N.LineName g.N.StoreName) (seat_send (param 0 g.row.N) g.N.StoreName)
