-- What the writer's loop leaves may cross threads, in one step, if its writer may.
use denote.RattleType.{RattleType}
use denote.Param.Send.{IsSend, plain_send, recorded_send, struct_send}
use denote.Struct.Declared.{shape}
use Rattle.core.proofs.option.Option.TheSendSync as option
use Rattle.rs_message.proofs.entry.Origin.TheSendSync as origin
use Rattle.rs_message.specs.contracts.entry.Origin as Origin
use Rattle.rs_version.specs.declared.history.StoreName as StoreName
use Rattle.rs_version.specs.declared.store_writer.StoreWriter as StoreWriter
use Rattle.std.proofs.Crossing as std
use Rattle.rs_intake.proofs.cause.Cause.TheSendSync as cause
use Rattle.rs_intake_line.proofs.reply.WayEnd.TheSendSync as way_end
use Rattle.rs_intake.proofs.taken.Taken.TheSendSync as taken
use Rattle.rs_intake_line.specs.contracts.reply.WayEnd as WayEnd
use Rattle.rs_intake.specs.contracts.writer.Ended as Ended
use Rattle.rs_intake_line.specs.declared.name.LineName as LineName

pub ended_send : (N S : RattleType) (g : LineName.Ghosts N.Denot) (h : StoreName.Ghosts N.Denot) (k : StoreWriter.Ghosts S.Denot N.Denot) → IsSend S → IsSend (Ended.the_row N S g h k)
ended_send N S g h k s =
    recorded_send (Ended.the_field N S g h k).row _ _ (Ended.the_type N S g h k).to_one (struct_send (shape (Ended.the_type N S g h k)) (
      s,
      (plain_send _ _ _ _ _, (plain_send _ _ _ _ _, (option.the_field_send Origin.the_row origin.the_send, (taken.the_send N g h, (cause.the_field_send, (std.Vec-send (WayEnd.the_row N h) (way_end.the_send N h), tt)))))),
    ))
