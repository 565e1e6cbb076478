use Rattle.std.proofs.Common.{◌≤◌, length}
use Rattle.rs_tcp_sockets.proofs.watched_clients.WatchedClients.put_overdue.Given as goal

abbrev pub invariant-loop-index : goal.invariant-loop-index
invariant-loop-index l = l.count ≤ length l.ready
