use Rattle.rs_tcp_server.proofs.Sent.{server_send}
use Rattle.rs_version.proofs.Sent.{parts_send-2}
use Rattle.tests_program.proofs.listening.run.Goals as goal

pub spawn-requires-send-F : goal.spawn-requires-send-F
spawn-requires-send-F g c κs within = parts_send-2 _ server_send c.type_bounds.send-H
