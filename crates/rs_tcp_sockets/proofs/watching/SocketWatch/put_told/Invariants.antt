use Rattle.std.proofs.Common.{◌≤◌, length}
use Rattle.rs_tcp_sockets.proofs.watching.SocketWatch.put_told.Given as goal

-- each number gives at most one client
abbrev pub invariant-loop-index : goal.invariant-loop-index
invariant-loop-index g l = (l.count ≤ l.index) × (length l.numbers ≤ length l.ready)
