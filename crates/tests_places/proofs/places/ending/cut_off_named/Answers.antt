use denote.Exit.{no}
use denote.Param.{param, copied}
use denote.Param.Send.{arg_send, param_send}
use Rattle.std.proofs.Crossing.{Arc-send}
use Rattle.rs_intake.proofs.writer.Queue.TheSendSync as queue
use Rattle.rs_places.proofs.Sent.{gate_send}
use Rattle.rs_version.proofs.Sent.{parts_send-3, writer_send}
use Rattle.kit_places.proofs.script.Counts.TheSendSync as counts
use Rattle.kit_places.specs.contracts.script.Counts as Counts
use Rattle.tests_places.proofs.places.ending.cut_off_named.Goals as goal

pub spawn-requires-send-F : goal.spawn-requires-send-F
spawn-requires-send-F g c κs within =
    parts_send-3 _ (Arc-send Counts.the_row counts.the_send counts.the_sync) (queue.the_send (param 0 g.row.N) g.N.LineName g.N.StoreName) (writer_send (param 0 g.row.N) g.N.StoreName (copied 1 g.row.R) c.type_bounds.send-R)

pub run_places-requires-send-G : goal.run_places-requires-send-G
run_places-requires-send-G g c κs within =
    param_send 1 _ (arg_send _ no _ (gate_send (param 0 g.row.N) (copied 1 g.row.R) g.N.LineName g.N.StoreName c.type_bounds.send-R))
