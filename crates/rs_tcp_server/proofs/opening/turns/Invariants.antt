use Rattle.std.proofs.Common.{◌≡◌, length}
use Rattle.rs_tcp_server.proofs.opening.turns.Given as goal

abbrev pub invariant-loop-before : goal.invariant-loop-before
invariant-loop-before g l = length l.turns.items ≡ l.before
