use Rattle.std.proofs.Common.{ap, inl, ◌∙◌}
use Rattle.rs_tcp_sockets.proofs.Sharings.{forks, gives_back}
use Rattle.rs_tcp_sockets.proofs.splitting.split.Goals as goal

pub another-reading-requires-clause-rule : goal.another-reading-requires-clause-rule
another-reading-requires-clause-rule g c = forks _ _ _

pub try_push_as-requires-clause-rule : goal.try_push_as-requires-clause-rule
try_push_as-requires-clause-rule g c =
    let is = c.another-reading.ensures.rule.0 ∙ c.in_ok-shared.ensures.1 in
    gives_back _ _ _ _ _ (ap (λ v. v.holds) is) (inl (ap (λ v. v.writes) is))
