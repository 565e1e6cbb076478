use denote.Exit.{no}
use denote.Param.{param}
use denote.Param.Send.{arg_send, param_send}
use Rattle.std.proofs.Common.{List, ap, subst, sym}
use Rattle.rs_message.specs.declared.entry.Entry.{Entry}
use Rattle.rs_version.specs.Writer.{kept_of}
use Rattle.rs_intake.proofs.Sent.{ended_send}
use Rattle.rs_places.specs.Writing.{HasWritten}
use Rattle.rs_intake.proofs.writer.Queue.TheSendSync as queue
use Rattle.rs_version.proofs.Sent.{parts_send-3}
use Rattle.rs_places.proofs.store.start_writer.Goals as goal

pub spawn_with-requires-send-F : goal.spawn_with-requires-send-F
spawn_with-requires-send-F g c κs within =
    parts_send-3 _ c.type_bounds.send-H (queue.the_send (param 0 g.row.N) g.N.LineName g.N.StoreName) c.type_bounds.send-S

pub spawn_with-requires-send-T : goal.spawn_with-requires-send-T
spawn_with-requires-send-T g c κs within =
    param_send _ _ (arg_send _ no _ (ended_send (param 0 g.row.N) (param 1 g.row.S) g.N.LineName g.N.StoreName g.S.StoreWriter c.type_bounds.send-S))

pub spawn_with-requires-clause-keeps : goal.spawn_with-requires-clause-keeps
spawn_with-requires-clause-keeps g c κs within = λ r e.
    let P : List Entry → Type 0 = λ l. HasWritten g.N.StoreName.limit g.N.LineName.places g.S.StoreWriter.most_held l (g.S.StoreWriter.written r.writer) (g.S.StoreWriter.ready r.writer) r.received r.ways.items r.cause in
    let began = ap (λ w. kept_of (g.S.StoreWriter.written w)) c.of-began.ensures in
    subst P (sym began) e
