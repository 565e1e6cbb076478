-- The files of a journal, and a folder that keeps messages, may cross threads, each in one step.
use denote.Enum.Declared as enum
use denote.Param.Send.{IsSend, enum_send, recorded_send, sendable}
use Rattle.core.specs.contracts.option.Option as Option
use Rattle.rs_journal.proofs.switched.Switch.TheSendSync as switch
use Rattle.rs_journal.proofs.switched.Switched.TheSendSync as switched
use Rattle.rs_journal.specs.contracts.switched.Switched as Switched
use Rattle.sqlite_disk.proofs.modelled.Modelled.TheSendSync as modelled
use Rattle.sqlite_disk.specs.contracts.modelled.Modelled as Modelled
use Rattle.sqlite_disk.specs.contracts.start.Unknown as Unknown
use Rattle.sqlite_disk.specs.contracts.start.UnknownStart.TheImpl as start
use Rattle.sqlite_std_file.specs.contracts.host.Host as Host
use Rattle.sqlite_std_file.specs.contracts.host.HostCalls.TheImpl as calls
use Rattle.std.specs.contracts.fs.File as File
use Rattle.rs_tcp_server.proofs.keeping.Kept.TheSendSync as kept
use Rattle.rs_tcp_server.specs.contracts.keeping.KeptFolder as KeptFolder

host_send : IsSend Host.the_row
host_send = search sendable depth 40

pub file_send : IsSend (Modelled.the_row Host.the_row Unknown.the_row calls.ghosts start.ghosts)
file_send = modelled.the_send Host.the_row Unknown.the_row calls.ghosts start.ghosts host_send

pub switched_send : IsSend (Switched.the_row (Modelled.the_row Host.the_row Unknown.the_row calls.ghosts start.ghosts))
switched_send = switched.the_send (Modelled.the_row Host.the_row Unknown.the_row calls.ghosts start.ghosts) file_send

log_send : IsSend (Option.the_field File.the_row).row
log_send = search sendable depth 60 fits 20000

pub folder_send : IsSend KeptFolder.the_row
folder_send = recorded_send KeptFolder.the_field.row _ _ KeptFolder.the_type.to_one (enum_send (enum.shape KeptFolder.the_type)
    ((kept.the_send _ _ file_send, tt), ((kept.the_send _ _ switched_send, (switch.the_field_send, (log_send, tt))), tt)))
