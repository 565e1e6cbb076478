use denote.Exit.{no}
use denote.Param.{param, copied}
use denote.Param.Send.{arg_send, param_send}
use Rattle.rs_intake.proofs.Sent.{ended_send}
use Rattle.rs_intake.proofs.writer.Queue.TheSendSync as queue
use Rattle.rs_version.proofs.Sent.{parts_send-3, writer_send}
use Rattle.tests_store.proofs.queue.fullness.right_steps_over.Goals as goal

pub spawn-requires-send-F : goal.spawn-requires-send-F
spawn-requires-send-F g c κs within =
    parts_send-3 _ c.type_bounds.send-R (queue.the_send (param 0 g.row.N) g.N.LineName g.N.StoreName) (writer_send (param 0 g.row.N) g.N.StoreName (copied 1 g.row.R) c.type_bounds.send-R)

pub spawn-requires-send-T : goal.spawn-requires-send-T
spawn-requires-send-T g c κs within =
    param_send _ _ (arg_send _ no _ (ended_send (param 0 g.row.N) _ g.N.LineName g.N.StoreName _ (writer_send (param 0 g.row.N) g.N.StoreName (copied 1 g.row.R) c.type_bounds.send-R)))
