-- A server may cross threads, in one step. It has a store, whose catalogue is a recursive type.
use denote.Builtin.{u16, u64}
use denote.Param.Send.{IsSend, recorded_send, sendable, struct_send}
use denote.Struct.Declared.{shape}
use Rattle.core.proofs.option.Option.TheSendSync as option
use Rattle.rs_message.proofs.places.PlaceCount.TheSendSync as count
use Rattle.rs_metrics_server.proofs.server.MetricsServer.TheSendSync as metrics
use Rattle.rs_metrics_server.specs.contracts.server.MetricsServer as MetricsServer
use Rattle.rs_store.proofs.limit.TopicLimit.TheSendSync as topics
use Rattle.rs_tcp_sockets.proofs.listener.Listener.TheSendSync as listener
use Rattle.rs_tcp_sockets.specs.contracts.listener.Listener as Listener
use Rattle.rs_version.proofs.Sent.{blank_send}
use Rattle.std.proofs.Crossing.{Arc-send}
use Rattle.std.proofs.alloc.Global.TheSendSync as heap
use Rattle.std.specs.contracts.option.Option as Option
use Rattle.std.specs.contracts.time.Duration as Duration
use Rattle.rs_tcp_server.proofs.Files.{folder_send}
use Rattle.rs_tcp_server.specs.contracts.keeping.KeptFolder as KeptFolder
use Rattle.rs_tcp_server.specs.contracts.server.Server as Server

clients_send : IsSend u16
clients_send = search sendable

idle_send : IsSend (Option.the_field Duration.the_row).row
idle_send = search sendable depth 60 fits 20000

number_send : IsSend u64
number_send = search sendable

pub server_send : IsSend Server.the_row
server_send = recorded_send Server.the_field.row _ _ Server.the_type.to_one (struct_send (shape Server.the_type) (heap.the_field_send, (Arc-send Listener.the_row listener.the_send listener.the_sync, (blank_send, (count.the_send, (clients_send, (idle_send, (number_send, (topics.the_send, (option.the_field_send u64 number_send, (option.the_field_send MetricsServer.the_row metrics.the_send, (option.the_field_send KeptFolder.the_row folder_send, tt))))))))))))
