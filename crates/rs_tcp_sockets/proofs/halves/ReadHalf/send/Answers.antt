use Rattle.std.proofs.Common.{ap, inr}
use Rattle.rs_tcp_sockets.specs.Gathered.{waiting_of}
use Rattle.rs_tcp_sockets.proofs.Sharings.{takes, gives_back, gives_back_written_out}
use Rattle.rs_tcp_sockets.proofs.halves.ReadHalf.send.Goals as goal

pub try_pop_as-requires-clause-rule : goal.try_pop_as-requires-clause-rule
try_pop_as-requires-clause-rule g c = takes _ _ _

pub try_push_as-put-requires-clause-rule : goal.try_push_as-put-requires-clause-rule
try_push_as-put-requires-clause-rule g c =
    let is = c.in-Some.ensures.rule.0 in
    gives_back_written_out _ waiting_of _ _ _ _ (ap (λ v. v.holds) is) (inr (rw (ap (λ v. v.known) is) c.in-Ok.ensures.bytes)) c.in-Ok.ensures.none_waits

pub try_push_as-requires-clause-rule : goal.try_push_as-requires-clause-rule
try_push_as-requires-clause-rule g c =
    let is = c.in-Some.ensures.rule.0 in
    gives_back _ _ _ _ _ (ap (λ v. v.holds) is) (inr (rw (ap (λ v. v.known) is) c.in-Err.ensures.bytes))
