-- A client on its way may cross threads, if its turn, its gate and the parts of its connections may.
use denote.RattleType.{RattleType}
use denote.Param.Send.{IsSend, recorded_send, sendable, struct_send, view_send}
use denote.Struct.Declared.{shape}
use Rattle.atomic_table.proofs.shared.Seat.TheSendSync as pass
use Rattle.core.proofs.result.Result.TheSendSync as result
use Rattle.crossbeam_queue.proofs.array_queue.Slotted.TheSendSync as queue
use Rattle.rs_places_steps.specs.declared.turn.Turn as Turn
use Rattle.rs_server.proofs.connection.Served.TheSendSync as served_as
use Rattle.rs_server.proofs.counted.Counted.TheSendSync as counted
use Rattle.rs_server.proofs.counted_gate.CountedGate.TheSendSync as counted_gate
use Rattle.rs_server.proofs.serving.Serving.TheSendSync as serving
use Rattle.rs_server.proofs.writing.ServeFault.TheSendSync as fault
use Rattle.rs_server.specs.contracts.counted_gate.CountedGate as CountedGate
use Rattle.rs_server.specs.declared.clock.Clock as Clock
use Rattle.rs_session.specs.declared.gate.Gate as Gate
use Rattle.rs_version.proofs.receipt.Told.TheSendSync as told
use Rattle.rs_version.specs.declared.history.StoreName as StoreName
use Rattle.std.proofs.Crossing.{crosses}
use Rattle.std.specs.declared.io.traits.Read as Read
use Rattle.std.specs.declared.io.traits.Write as Write
use Rattle.rs_version.proofs.Sent.{u64_send}
use Rattle.rs_places_steps.specs.contracts.begun.Begun as Begun
use Rattle.rs_places_steps.specs.contracts.end_cell.ClientEnd as ClientEnd
use Rattle.rs_places_steps.specs.contracts.end_cell.Coming as Coming
use Rattle.rs_places_steps.specs.contracts.stages.Connected as Connected
use Rattle.rs_places_steps.specs.contracts.stages.DoneClient as DoneClient
use Rattle.rs_places_steps.specs.contracts.stages.DoneClient.TheInside as InDone
use Rattle.rs_places_steps.specs.contracts.stages.EndedClient as EndedClient
use Rattle.rs_places_steps.specs.contracts.stages.EndedClient.TheInside as InEnded
use Rattle.rs_places_steps.specs.contracts.stages.FreeClient as FreeClient
use Rattle.rs_places_steps.specs.contracts.stages.FreeClient.TheInside as InFree
use Rattle.rs_places_steps.specs.contracts.stages.ReadClient as ReadClient
use Rattle.rs_places_steps.specs.contracts.stages.ReadClient.TheInside as InRead
use Rattle.rs_places_steps.specs.contracts.stages.ServedClient as ServedClient
use Rattle.rs_places_steps.specs.contracts.stages.ServedClient.TheInside as InServed
use Rattle.rs_places_steps.specs.contracts.stages.Stage as Stage
use Rattle.rs_places_steps.specs.contracts.task.Task as Task
use Rattle.rs_places_steps.specs.declared.gates.LineGate as LineGate
use Rattle.rs_places_steps.specs.declared.gates.StoreGate as StoreGate

module _ (T G : RattleType) where
  begun_field : IsSend (Begun.the_field T G).row
  begun_field = search (crosses, sendable) depth 60 fits 20000

  module _ (I O C : RattleType) (st : IsSend T) (sg : IsSend G) (si : IsSend I) (so : IsSend O) (sc : IsSend C) where
    connected_field : IsSend (Connected.the_field T G I O C).row
    connected_field = struct_send (shape (Connected.the_type T G I O C)) (
      st,
      (
        serving.the_field_send (CountedGate.the_row G) (counted_gate.the_send G sg),
        (counted.the_field_send I si, (counted.the_field_send O so, (sc, (u64_send, (begun_field, tt))))),
      ),
    )

    module _ (E N : RattleType) (se : IsSend E) (t : Turn.Ghosts T.Denot I.Denot O.Denot C.Denot) (i : Read.Ghosts I.Denot) (o : Write.Ghosts O.Denot) (k : Clock.Ghosts C.Denot)
        (r : LineGate.Ghosts G.Denot E.Denot N.Denot) (p : StoreGate.Ghosts G.Denot N.Denot) (q : Gate.Ghosts G.Denot) (h : StoreName.Ghosts N.Denot) where
      free_send : IsSend (FreeClient.the_row T G I O C E N t i o k r p q h)
      free_send = view_send (InFree.the_row T G I O C E N t i o k r p q h) _ _ _ _
          (recorded_send (InFree.the_field T G I O C E N t i o k r p q h).row _ _ (InFree.the_type T G I O C E N t i o k r p q h).to_one (struct_send (shape (InFree.the_type T G I O C E N t i o k r p q h)) (st, (sg, (u64_send, (begun_field, tt))))))

      served_send : IsSend (ServedClient.the_row T G I O C E N t i o k r p q h)
      served_send = view_send (InServed.the_row T G I O C E N t i o k r p q h) _ _ _ _
          (recorded_send (InServed.the_field T G I O C E N t i o k r p q h).row _ _ (InServed.the_type T G I O C E N t i o k r p q h).to_one (struct_send (shape (InServed.the_type T G I O C E N t i o k r p q h)) (connected_field, tt)))

      read_send : IsSend (ReadClient.the_row T G I O C E N t i o k r p q h)
      read_send = view_send (InRead.the_row T G I O C E N t i o k r p q h) _ _ _ _
          (recorded_send (InRead.the_field T G I O C E N t i o k r p q h).row _ _ (InRead.the_type T G I O C E N t i o k r p q h).to_one (struct_send (shape (InRead.the_type T G I O C E N t i o k r p q h)) (connected_field, tt)))

      ended_send : IsSend (EndedClient.the_row T G I O C E N t i o k r p q h)
      ended_send = view_send (InEnded.the_row T G I O C E N t i o k r p q h) _ _ _ _
          (recorded_send (InEnded.the_field T G I O C E N t i o k r p q h).row _ _ (InEnded.the_type T G I O C E N t i o k r p q h).to_one (struct_send (shape (InEnded.the_type T G I O C E N t i o k r p q h)) (
            st,
            (
              search (counted_gate.the_field_send, sg, sendable) depth 60 fits 20000,
              (
                search (counted.the_send, si, so, sc, sendable) depth 60 fits 20000,
                (u64_send, (begun_field, (search (result.the_field_send, served_as.the_send, fault.the_send, sendable) depth 60 fits 20000, (u64_send, tt)))),
              ),
            ),
          )))

      done_send : IsSend (DoneClient.the_row T G I O C E N t i o k r p q h)
      done_send = view_send (InDone.the_row T G I O C E N t i o k r p q h) _ _ _ _
          (recorded_send (InDone.the_field T G I O C E N t i o k r p q h).row _ _ (InDone.the_type T G I O C E N t i o k r p q h).to_one (struct_send (shape (InDone.the_type T G I O C E N t i o k r p q h)) (st, (told.the_send N h, (se, (begun_field, tt))))))

      stage_field : IsSend (Stage.the_field T G I O C E N t i o k r p q h).row
      stage_field = search (free_send, served_send, read_send, ended_send, done_send, crosses, sendable) depth 60 fits 20000

      coming_send : IsSend (Coming.the_row T G I O C E N t i o k r p q h)
      coming_send = search (begun_field, done_send, crosses, sendable) depth 60 fits 20000

      end_field : IsSend (ClientEnd.the_field T G I O C E N t i o k r p q h).row
      end_field = search (coming_send, begun_field, queue.the_send, queue.the_sync, pass.the_send, crosses, sendable) depth 60 fits 20000

      pub task_send : IsSend (Task.the_row T G I O C E N t i o k r p q h)
      task_send = recorded_send (Task.the_field T G I O C E N t i o k r p q h).row _ _ (Task.the_type T G I O C E N t i o k r p q h).to_one (struct_send (shape (Task.the_type T G I O C E N t i o k r p q h)) (stage_field, (end_field, tt)))
