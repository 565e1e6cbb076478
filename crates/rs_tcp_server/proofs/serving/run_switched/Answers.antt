use denote.Exit.{no}
use denote.Param.Send.{arg_send, param_send}
use Rattle.rs_tcp_server.proofs.Files.{switched_send}
use Rattle.rs_tcp_server.proofs.serving.run_switched.Goals as goal

pub run_kept-end-requires-send-D : goal.run_kept-end-requires-send-D
run_kept-end-requires-send-D g c κs within = param_send 0 _ (arg_send _ no _ switched_send)
