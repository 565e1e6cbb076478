use Rattle.rs_tcp_sockets.proofs.Sharings.{takes}
use Rattle.rs_tcp_sockets.proofs.splitting.give_up.Goals as goal

pub try_pop_as-requires-clause-rule : goal.try_pop_as-requires-clause-rule
try_pop_as-requires-clause-rule g c = takes _ _ _
