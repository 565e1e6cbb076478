use Rattle.std.proofs.Common.{ap, inl, ◌∙◌}
use Rattle.rs_tcp_sockets.proofs.Sharings.{takes, gives_back}
use Rattle.rs_tcp_sockets.proofs.halves.WriteHalfWrite.write.Goals as goal

pub try_pop_as-requires-clause-rule : goal.try_pop_as-requires-clause-rule
try_pop_as-requires-clause-rule g c = takes _ _ _

pub try_push_as-requires-clause-rule : goal.try_push_as-requires-clause-rule
try_push_as-requires-clause-rule g c =
    let is = c.in-Some.ensures.rule.0 in
    gives_back _ _ _ _ _ (ap (λ v. v.holds) is) (inl (ap (λ v. v.writes) is ∙ c.args.self.now.writes))
