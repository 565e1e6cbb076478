use Rattle.rs_tcp_sockets.specs.Gathered.{contents_of}
use Rattle.rs_tcp_sockets.proofs.Sharings.{begins}
use Rattle.rs_tcp_sockets.proofs.sharing.empty_cell.Goals as goal

pub ruled-requires-clause-rule : goal.ruled-requires-clause-rule
ruled-requires-clause-rule g c = begins (contents_of g.W.Write.contents)
