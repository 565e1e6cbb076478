use denote.Exit.{no}
use denote.Param.Send.{arg_send, param_send}
use Rattle.rs_tcp_server.proofs.Files.{file_send}
use Rattle.rs_tcp_server.proofs.serving.run_any.Goals as goal

pub run_kept-requires-send-D : goal.run_kept-requires-send-D
run_kept-requires-send-D g c κs within = param_send 0 _ (arg_send _ no _ file_send)

pub returns-in-None : goal.returns-in-None
returns-in-None g c = rw c.in-None.is c.run_alone.ensures

pub returns-in-Some-Synced : goal.returns-in-Some-Synced
returns-in-Some-Synced g c = rw (c.in-Some-Synced.is, c.in-Some-Synced.field-0-is) c.run_kept.ensures

pub returns-in-Some-Switched : goal.returns-in-Some-Switched
returns-in-Some-Switched g c = rw (c.in-Some-Switched.is, c.in-Some-Switched.field-0-is) c.run_switched.ensures
